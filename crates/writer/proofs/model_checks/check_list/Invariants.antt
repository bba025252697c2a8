-- The loop's invariant of `check_list`: whether all from an item on are kept is whether all are.
use lib.Ieee.{binary32}
use Rattle.writer.proofs.Order.{SoFar}
use Rattle.writer.proofs.model_checks.check_list.Given as goal

abbrev pub invariant-loop-x : goal.invariant-loop-x
invariant-loop-x g l = SoFar g.W.Real.float g.W.Real.format binary32 l.positive l.xs l.x-index
