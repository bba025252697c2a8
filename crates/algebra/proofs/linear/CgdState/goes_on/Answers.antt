-- `CgdState::goes_on` meets its contract: a turn is left of at most n + 5 and at most `max_iters` (`turn_left`, `none_left` in Turns.antt).
use Rattle.algebra.proofs.Turns.{turn_left, none_left}
use Rattle.algebra.proofs.linear.CgdState.goes_on.Goals as goal

pub returns-then-self-n : goal.returns-then-self-n
returns-then-self-n c = turn_left _ _ _ c.requires.1 c.if-self-n.true

pub returns-else-self-n : goal.returns-else-self-n
returns-else-self-n c = none_left _ _ _ c.if-self-n.false
