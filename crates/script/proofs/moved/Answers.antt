-- Down by what is left of n, and up by the sum where it is one (`moved_down` and `moved_sum`, Scanning.antt).
use Rattle.script.proofs.Scanning.{moved_down, moved_sum}
use Rattle.script.proofs.moved.Goals as goal

pub returns-then-by : goal.returns-then-by
returns-then-by c = moved_down _ _ c.if-by.true c.saturating_sub.ensures

pub returns : goal.returns
returns c = moved_sum _ _ _ c.if-by.false c.checked_add.ensures c.unwrap_or.ensures
