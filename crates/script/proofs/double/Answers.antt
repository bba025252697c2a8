-- The double of the bits; no search is asked.
use Rattle.script.proofs.double.Goals as goal

pub returns : goal.returns
returns c = c.f64_from_bits_with_nan.ensures
