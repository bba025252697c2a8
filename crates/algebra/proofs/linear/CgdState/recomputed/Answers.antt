-- `CgdState::recomputed` meets its contract: the state that it hands back is the one of the definition, field by field; no search is asked.
use mathlib.Core.Path.{refl}
use Rattle.algebra.proofs.linear.CgdState.recomputed.Goals as goal

pub returns : goal.returns
returns c = refl
