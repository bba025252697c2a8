-- `packed_matrix::add_four` meets its contract: the place that is written next has its old value (`fill_ahead` in loops/proofs/Fill.antt).
use native.Mathlib.Omega.{arith}
use lib.Ieee.{nan}
use Rattle.loops.proofs.Fill.{fills, fill_turn, fill_ahead}
use Rattle.algebra.proofs.packed_matrix.add_four.Goals as goal

pub loop-c-preserved : goal.loop-c-preserved
loop-c-preserved c =
    let h = c.loop-c.invariant.3 in
    (search fills, search fills, search fills, fill_turn _ _ _ (omega arith) h (cc (fill_ahead nan _ _ _ h)))
