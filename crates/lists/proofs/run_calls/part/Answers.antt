-- `part` meets its contract: a cut at the end of a slice is no cut (`part_is` in Cut.antt).
use Rattle.lists.proofs.Cut.{part_is}
use Rattle.lists.proofs.run_calls.part.Goals as goal

pub returns : goal.returns
returns g c = part_is _ _ _ c.min.ensures (rw c.saturating_sub.ensures at c.min-2.ensures)
