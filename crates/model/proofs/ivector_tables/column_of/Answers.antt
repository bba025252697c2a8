-- `column_of` meets its contract: behind its loop each number is in its place.
use Rattle.std.proofs.Common.{arith}
use lib.Ieee.{nan}
use Rattle.loops.proofs.Build.{build_is}
use Rattle.model.proofs.ivector_tables.column_of.Goals as goal

pub returns : goal.returns
returns c = build_is nan _ _ _ c.loop-b.auto.x (λ k h. c.loop-b.invariant k (omega arith))
