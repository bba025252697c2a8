-- `CgdState::is_last` meets its contract: the test is the definition's, so that an edit of it differs from that and no search is asked.
use mathlib.Core.Path.{refl}
use Rattle.algebra.proofs.linear.CgdState.is_last.Goals as goal

pub returns : goal.returns
returns c = refl
