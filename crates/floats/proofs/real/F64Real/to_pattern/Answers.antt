-- `to_pattern` gives the pattern, as the library does; no search is asked.
use Rattle.floats.proofs.real.F64Real.to_pattern.Goals as goal

pub returns : goal.returns
returns c = c.f64_to_bits_with_nan.ensures
