-- `linear::factor` meets its contract: a cell goes one of three ways (`cell_diagonal`, `cell_left`, `cell_beside` in Cells.antt), and its sum is over two rows
-- (`less_lent` there).
use Rattle.std.proofs.lemmas.Grind.{common_steps}
use mathlib.Core.Path.{◌≡◌, refl, ap, ◌∙◌}
use mathlib.Core.Bool.{Bool}
use Prim.Native.Nat.{ℕ, ◌+◌, ◌*◌, ◌≤◌}
use native.Mathlib.Omega.{arith}
use lib.ListN.{length, length-set, replicate}
use Rattle.floats.specs.Operators.{zero₆₄, at}
use Rattle.loops.specs.Loop.{leave}
use Rattle.loops.specs.Inner.{done}
use Rattle.loops.proofs.Leave.{leave_none, leave_step, leave_end, leave_left}
use Rattle.loops.proofs.Cells.{row_in_lem}
use Rattle.definition.specs.Solve.{cell, factor, less_products}
use Rattle.definition.specs.Model.{packed}
use Rattle.algebra.proofs.Packing.{packed-below}
use Rattle.algebra.proofs.Cells.{less_lent, cell_diagonal, cell_left, cell_beside}
use Rattle.algebra.proofs.linear.factor.Goals.{In-loop-j, After-less_products-s, then-i-j+else-s, else-i-j}
use Rattle.algebra.proofs.linear.factor.Goals as goal

-- row j, up to its diagonal and beyond, lies in the room
row_in : (c : In-loop-j) → c.loop-j.j * c.args.a.n + c.args.a.n ≤ c.args.a.n * c.args.a.n
row_in c = row_in_lem c.loop-j.j c.args.a.n c.args.a.n (c.args.a.n * c.args.a.n) (omega arith) (omega (arith, c.rows-test.true, c.loop-j-test.true))

pub overflow_mul-row : goal.overflow_mul-row
overflow_mul-row c = omega (arith, row_in_lem c.rows.i c.args.a.n c.args.a.n (c.args.a.n * c.args.a.n) (omega arith) c.rows-test.true)

pub loop-j-init : goal.loop-j-init
loop-j-init c =
    let h = row_in_lem c.rows.i c.args.a.n c.args.a.n (c.args.a.n * c.args.a.n) (omega arith) c.rows-test.true in
    record { most = omega arith; long = c.rows.invariant.long; row_in = omega (arith, h, c.rows.invariant.long); not_left = c.rows.invariant.not_left; cells = leave_none _ _ }

pub overflow_mul-other : goal.overflow_mul-other
overflow_mul-other c = omega (arith, row_in (goal.at.overflow_mul-other c).In-loop-j)

pub offset_bounds-a-place : goal.offset_bounds-a-place
offset_bounds-a-place c = omega (arith, packed-below c.rows.i c.loop-j.j c.args.a.n c.rows-test.true (omega arith), c.packed_index-place.ensures, c.args.a.fits)

pub bounds-a-place : goal.bounds-a-place
bounds-a-place c = omega (arith, packed-below c.rows.i c.loop-j.j c.args.a.n c.rows-test.true (omega arith), c.packed_index-place.ensures, c.args.a.fits)

-- the number of the cell
whole : (c : After-less_products-s) →
    let a = c.args.a in
    let l = c.loop-j.l in
    c.less_products-s.result ≡ less_products (at a.cells.now (packed c.rows.i c.loop-j.j)) c.loop-j.j (λ k. at l (c.rows.i * a.n + k)) (λ k. at l (c.loop-j.j * a.n + k))
whole c =
    let a = c.args.a in
    let i = c.rows.i in
    let j = c.loop-j.j in
    let h = row_in (goal.at.After-less_products-s c).In-loop-j in
    let l = c.loop-j.l in
    less_lent (at a.cells.now c.packed_index-place.result) (i * a.n) j l (omega (arith, c.loop-j.invariant.row_in)) (j * a.n) l (omega (arith, h, c.loop-j.invariant.long)) c.less_products-s.ensures
    ∙ ap (λ (p : ℕ). less_products (at a.cells.now p) j (λ k. at l (i * a.n + k)) (λ k. at l (j * a.n + k))) c.packed_index-place.ensures

pub rows-init : goal.rows-init
rows-init c = record { most = omega arith; long = c.fill.auto.self ∙ c.requires.room; not_left = refl; rows = leave_none _ _ }

pub loop-j-preserved : goal.loop-j-preserved
loop-j-preserved c =
    let h = c.loop-j in
    let sum = whole (goal.at.loop-j-preserved c).After-less_products-s in
    let long : length c.if-i-j.l ≡ length h.l = elim c.if-i-j.branch [ then-i-j+else-s w ↦ rw w.l-is (simp length-set) | else-i-j w ↦ rw w.l-is (simp length-set) ] in
    record {
      most = omega arith;
      long = long ∙ h.invariant.long;
      row_in = omega (arith, long, h.invariant.row_in);
      not_left = h.invariant.not_left;
      cells = leave_step _ _ _ h.invariant.cells
          (elim c.if-i-j.branch [
            | then-i-j+else-s w ↦ cell_diagonal _ _ _ _ _ sum w.if-i-j.true w.if-s.false w.sqrt.ensures w.l-is
            | else-i-j w ↦ cell_beside _ _ _ _ _ sum w.if-i-j.false w.l-is
          ]);
    }

pub rows-preserved : goal.rows-preserved
rows-preserved c =
    record {
      most = omega arith;
      long = c.loop-j.invariant.long;
      not_left = c.loop-j.invariant.not_left;
      rows = leave_step _ _ _ c.rows.invariant.rows (leave_end _ _ _ _ c.loop-j.invariant.most c.loop-j-test.false c.loop-j.invariant.cells);
    }

pub returns-after-rows : goal.returns-after-rows
unfolding factor
returns-after-rows c =
    let a = c.args.a in
    let zeros : c.fill.new.self ≡ replicate (a.n * a.n) zero₆₄ = grind (arith, common_steps, c.fill.ensures) in
    ap (λ (t : Bool). done t c.rows.l) c.rows.invariant.not_left
    ∙ leave_end _ _ _ _ c.rows.invariant.most c.rows-test.false c.rows.invariant.rows
    ∙ ap (leave a.n (λ i. leave (i + 1) (cell a.cells.now a.n i))) zeros

pub returns-then-s : goal.returns-then-s
unfolding factor
returns-then-s c =
    let a = c.args.a in
    let zeros : c.fill.new.self ≡ replicate (a.n * a.n) zero₆₄ = grind (arith, common_steps, c.fill.ensures) in
    leave_left _ _ _ _ c.rows-test.true c.rows.invariant.rows
    (leave_left _ _ _ _ c.loop-j-test.true c.loop-j.invariant.cells (cell_left _ _ _ _ _ (whole (goal.at.returns-then-s c).After-less_products-s) c.if-i-j.true c.if-s.true))
    ∙ ap (leave a.n (λ i. leave (i + 1) (cell a.cells.now a.n i))) zeros
