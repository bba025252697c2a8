-- `count` meets its contract: a place that the counts have gets one more; past their end nothing changes.
use mathlib.Core.Path.{refl}
use Rattle.lists.proofs.Counted.{counted-set, counted_out}
use Rattle.lists.proofs.try_notes.count.Goals as goal

pub returns-then-k-counts : goal.returns-then-k-counts
returns-then-k-counts c = counted-set _ _ refl

pub returns-else-k-counts : goal.returns-else-k-counts
returns-else-k-counts c = counted_out _ _ c.if-k-counts.false
