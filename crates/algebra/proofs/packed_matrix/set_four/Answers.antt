-- `packed_matrix::set_four` meets its contract. The loop's invariant: the first c places are filled with the sums, which begin anew at 0.0.
use mathlib.Core.Path.{refl}
use native.Mathlib.Omega.{arith}
use Rattle.loops.proofs.Fill.{fills, fill_turn}
use Rattle.algebra.proofs.packed_matrix.set_four.Goals as goal

pub loop-c-preserved : goal.loop-c-preserved
loop-c-preserved c = (search fills, search fills, search fills, fill_turn _ _ _ (omega arith) c.loop-c.invariant.3 refl)
