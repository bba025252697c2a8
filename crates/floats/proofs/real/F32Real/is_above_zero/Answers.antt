-- `is_above_zero` makes the definition's test; no search is asked.
use mathlib.Core.Path.{refl}
use Rattle.floats.proofs.real.F32Real.is_above_zero.Goals as goal

pub returns : goal.returns
returns c = refl
