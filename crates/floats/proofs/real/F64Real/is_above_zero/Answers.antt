-- `is_above_zero` makes the definition's test, the zero of both widths being one; no search is asked.
use mathlib.Core.Path.{refl}
use lib.Ieee.{of_bits}
use Rattle.floats.proofs.real.F64Real.is_above_zero.Goals as goal

pub returns : goal.returns
unfolding of_bits
returns c = refl
