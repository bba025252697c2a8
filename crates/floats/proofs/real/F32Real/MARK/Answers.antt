-- `MARK` is the format's letter; no search is asked.
use mathlib.Core.Path.{refl}
use Rattle.floats.proofs.real.F32Real.MARK.Goals as goal

pub returns : goal.returns
returns c = refl
