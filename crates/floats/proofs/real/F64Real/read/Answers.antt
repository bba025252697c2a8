-- `read` gives the number of the bytes, by the contracts of its two calls; no search is asked.
use mathlib.Core.Path.{ap, ◌∙◌}
use lib.Ieee.{binary64, of_bits}
use Rattle.floats.proofs.real.F64Real.read.Goals as goal

pub returns : goal.returns
returns c = c.f64_from_bits_with_nan.ensures ∙ ap (of_bits binary64) c.from_le_bytes.ensures
