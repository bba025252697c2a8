-- The pattern; no search is asked.
use Rattle.script.proofs.double_bits.Goals as goal

pub returns : goal.returns
returns c = c.f64_to_bits_with_nan.ensures
