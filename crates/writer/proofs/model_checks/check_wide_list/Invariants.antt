-- The loop's invariant of `check_wide_list`: as of `check_list`, whether all from an item on are kept is whether all are.
use mathlib.Core.Bool.{false}
use lib.Ieee.{binary64}
use Rattle.writer.proofs.Order.{SoFar}
use Rattle.writer.proofs.model_checks.check_wide_list.Given as goal

abbrev pub invariant-loop-x : goal.invariant-loop-x
invariant-loop-x g l = SoFar g.W.Real.float g.W.Real.format binary64 false l.xs l.x-index
