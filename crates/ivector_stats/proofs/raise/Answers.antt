-- `ivector_stats::raise` meets its contract, by its test (`choose_true`, `choose_false` in loops/proofs/Choose.antt); no search is asked.
use mathlib.Core.Path.{refl}
use Rattle.loops.proofs.Choose.{choose_true, choose_false}
use Rattle.ivector_stats.proofs.raise.Goals as goal

pub returns-then-ivector : goal.returns-then-ivector
returns-then-ivector c = choose_true _ c.if-ivector.true refl

pub returns-else-ivector : goal.returns-else-ivector
returns-else-ivector c = choose_false _ c.if-ivector.false refl
