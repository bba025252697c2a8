-- `whole` gives n as a float of the format, as the definition does; no search is asked.
use mathlib.Core.Path.{refl}
use Rattle.floats.proofs.real.F64Arithmetic.whole.Goals as goal

pub returns : goal.returns
returns c = refl
