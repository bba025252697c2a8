-- `packed_matrix::column` meets its contract. The loop's invariant: the first j places are filled with the column's elements; the next one stands at
-- `triangle j + i` (`packed-low` in Packing.antt). At its start they are row i up to the diagonal (`front_is` in Rooms.antt, and `held` there).
use mathlib.Core.Path.{◌≡◌, ap, ◌∙◌}
use Prim.Native.Nat.{ℕ, ◌+◌, ◌<◌}
use native.Mathlib.Omega.{arith}
use lib.ListN.{length, length-append, length-drop}
use lib.Ieee.{nan}
use lib.Seq.{length-take-le}
use Rattle.loops.proofs.Fill.{fills, fill_turn}
use Rattle.loops.proofs.Triangle.{triangle-next, triangle-below}
use Rattle.floats.specs.Operators.{at}
use Rattle.definition.specs.Kaldi.{triangle}
use Rattle.algebra.proofs.Packing.{packed-low, packed_high}
use Rattle.algebra.proofs.Rooms.{held, front_is, filled}
use Rattle.algebra.proofs.packed_matrix.column.Goals.{In-loop-j}
use Rattle.algebra.proofs.packed_matrix.column.Goals as goal

pub loop-j-init : goal.loop-j-init
loop-j-init c =
    let a = c.args in
    let h = front_is a.start a.i a.a.now a.out.now nan (omega (arith, triangle-below a.i a.i (length a.out.now) (omega arith) c.requires.1)) c.copy.ensures
    (λ j p. ap (λ (t : ℕ). at a.a.now (t + j)) c.requires.0 ∙ ap (at a.a.now) (packed_high j a.i p)) in
    let long : length c.copy.new.y ≡ a.i = c.copy.auto.y ∙ length-take-le a.i a.out.now (omega arith) in
    record {
      from = omega arith;
      most = simp (length-append, length-drop) (omega arith);
      end = omega arith;
      long = omega arith;
      same = simp (length-append, length-drop) (omega arith);
      place = omega arith;
      filled = held _ _ _ h;
    }

-- the next element lies in the matrix
below : (c : In-loop-j) → triangle c.loop-j.j + c.args.i < triangle (length c.args.out.now)
below c = triangle-below c.loop-j.j c.args.i (length c.args.out.now) c.loop-j.invariant.from (omega arith)

pub offset_bounds-a-place : goal.offset_bounds-a-place
offset_bounds-a-place c = omega (arith, below (goal.at.offset_bounds-a-place c).In-loop-j)

pub bounds-a-place : goal.bounds-a-place
bounds-a-place c = omega (arith, below (goal.at.bounds-a-place c).In-loop-j)

pub overflow_add-place : goal.overflow_add-place
overflow_add-place c = omega (arith, below (goal.at.overflow_add-place c).In-loop-j)

pub loop-j-preserved : goal.loop-j-preserved
loop-j-preserved c =
    let j = c.loop-j.j in
    let h = c.loop-j.invariant in
    let place = h.place ∙ packed-low j c.args.i h.from in
    record {
      from = omega arith;
      most = omega arith;
      end = h.end;
      long = search fills;
      same = h.same;
      place = omega (arith, triangle-next j);
      filled = fill_turn _ _ _ (omega arith) h.filled (ap (at c.args.a.now) place);
    }

pub returns : goal.returns
returns c =
    let h = c.loop-j.invariant in
    filled _ _ _ _ (omega arith) (omega arith) h.same h.filled
