-- `widen` gives the number itself; no search is asked.
use mathlib.Core.Path.{refl}
use Rattle.floats.proofs.real.F64Real.widen.Goals as goal

pub returns : goal.returns
returns c = refl
