-- The float of the low 32 bits; no search is asked.
use Rattle.script.proofs.float.Goals as goal

pub returns : goal.returns
returns c = c.f32_from_bits_with_nan.ensures
