-- The loop's invariant of `packed_matrix::column`: the first j places are filled with the column's elements; the next one stands at `triangle j + i`
-- (`packed-low` in Packing.antt). At its start they are row i up to the diagonal (`front_is` there; `held` in Rooms.antt).
use mathlib.Core.Path.{◌≡◌}
use Prim.Native.Nat.{◌+◌, ◌≤◌}
use lib.ListN.{length}
use Rattle.loops.specs.Inner.{fill}
use Rattle.floats.specs.Operators.{at}
use Rattle.definition.specs.Kaldi.{triangle}
use Rattle.definition.specs.Model.{packed}
use Rattle.algebra.proofs.packed_matrix.column.Given as goal

abbrev pub invariant-loop-j : goal.invariant-loop-j
invariant-loop-j l = record {
  from : l.i ≤ l.j;
  most : l.j ≤ length l.initial.out;
  end : l.j-end ≡ length l.initial.out;
  long : length l.out ≡ length l.initial.out;
  same : length l.initial.out ≡ length l.fn.out;
  place : l.place ≡ triangle l.j + l.i;
  filled : l.out ≡ fill l.j (λ j. at l.a (packed j l.i)) l.initial.out;
}
