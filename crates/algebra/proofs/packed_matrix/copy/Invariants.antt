-- The loop's invariant of `packed_matrix::copy`: the first i places are filled with x's.
use mathlib.Core.Path.{◌≡◌}
use Prim.Native.Nat.{◌≤◌}
use lib.ListN.{length}
use Rattle.floats.specs.Operators.{at}
use Rattle.loops.specs.Inner.{fill}
use Rattle.algebra.proofs.packed_matrix.copy.Given as goal

abbrev pub invariant-loop-i : goal.invariant-loop-i
invariant-loop-i l = record {
  most : l.i ≤ length l.x;
  long : length l.y ≡ length l.initial.y;
  filled : l.y ≡ fill l.i (at l.x) l.initial.y;
}
