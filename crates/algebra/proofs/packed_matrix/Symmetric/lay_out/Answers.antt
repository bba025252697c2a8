-- `Symmetric::lay_out` meets its contract: a column is a row of a table (loops/proofs/Flat.antt); that the table is the square is `square_whole` (Square.antt).
use mathlib.Core.Path.{◌≡◌, refl, ap, ◌∙◌}
use mathlib.Core.List.{List}
use Prim.Native.Nat.{ℕ, ◌+◌, ◌-◌, ◌*◌, ◌≤◌}
use native.Mathlib.Omega.{arith}
use lib.ListN.{length, take, drop}
use lib.Ieee.{Float}
use borrow.Rule.Slice.PartMut.{same_len_mid}
use Rattle.loops.specs.Lists.{build}
use Rattle.loops.proofs.Flat.{rows_none, rows_turn, rows_end, length_cells}
use Rattle.loops.proofs.Cells.{row_in_lem}
use Rattle.loops.proofs.Parts.{length_lent}
use Rattle.loops.proofs.Triangle.{triangle-next, triangle-below}
use Rattle.floats.specs.Operators.{at}
use Rattle.definition.specs.Model.{packed}
use Rattle.algebra.proofs.Square.{square_whole}
use Rattle.algebra.proofs.packed_matrix.Symmetric.lay_out.Goals.{In-loop-i, Start}
use Rattle.algebra.proofs.packed_matrix.Symmetric.lay_out.Goals as goal

abbrev column_of : Start → ℕ → List Float
column_of c i = build c.args.self.n (λ j. at c.args.self.cells.now (packed j i))

-- column i lies in the room, and the part that is lent is as long as it
inside : (c : In-loop-i) →
    let n = c.args.self.n in
    c.loop-i.i * n + n ≤ length c.loop-i.square
inside c =
    let a = c.args in
    let loop = c.loop-i in
    omega (arith, row_in_lem loop.i a.self.n a.self.n (length a.square.now) (omega (arith, c.requires.room)) c.loop-i-test.true, loop.invariant.1)

lent : (c : In-loop-i) →
    let n = c.args.self.n in
    let from = c.loop-i.i * n in
    length (take (from + n - from) (drop from c.loop-i.square)) ≡ n
lent c =
    let n = c.args.self.n in
    length_lent (c.loop-i.i * n) n _ c.loop-i.square refl (inside c)

-- the packed row ends in the matrix
ends : (c : In-loop-i) → c.loop-i.start + c.loop-i.i + 1 ≤ length c.args.self.cells.now
ends c =
    let i = c.loop-i.i in
    omega (arith, triangle-below i i c.args.self.n (omega arith) c.loop-i-test.true, c.loop-i.invariant.2, c.args.self.fits)

pub loop-i-init : goal.loop-i-init
loop-i-init c = (omega arith, refl, refl, rows_none (column_of (goal.at.loop-i-init c).Start) _)

pub overflow_mul-from : goal.overflow_mul-from
overflow_mul-from c = omega (arith, inside (goal.at.overflow_mul-from c).In-loop-i, c.loop-i.invariant.1)

pub overflow_add-end : goal.overflow_add-end
overflow_add-end c = omega (arith, inside (goal.at.overflow_add-end c).In-loop-i, c.loop-i.invariant.1)

pub offset_bounds-square-from : goal.offset_bounds-square-from
offset_bounds-square-from c = omega (arith, inside (goal.at.offset_bounds-square-from c).In-loop-i, c.loop-i.invariant.1)

pub column-requires : goal.column-requires
column-requires c =
    let l = lent (goal.at.column-requires c).In-loop-i in
    (c.loop-i.invariant.2, omega (arith, l, c.loop-i-test.true), omega (arith, l, c.requires.few), rw l c.args.self.fits)

pub overflow_add-start-in-loop-i : goal.overflow_add-start-in-loop-i
overflow_add-start-in-loop-i c = omega (arith, ends (goal.at.overflow_add-start-in-loop-i c).In-loop-i)

pub loop-i-preserved : goal.loop-i-preserved
loop-i-preserved c =
    let loop = c.loop-i in
    let n = c.args.self.n in
    let from = loop.i * n in
    let long = c.column.auto.out in
    let made = c.column.ensures ∙ ap (λ (n : ℕ). build n (λ j. at c.args.self.cells.now (packed j loop.i))) (lent (goal.at.loop-i-preserved c).In-loop-i) in (
      omega (arith, c.loop-i-test.true),
      same_len_mid from (from + n - from) loop.square c.column.new.out long ∙ loop.invariant.1,
      omega (arith, triangle-next loop.i, loop.invariant.2),
      rows_turn (column_of (goal.at.loop-i-preserved c).Start) loop.i _ {k = from + n - from} (length_cells loop.i n _) loop.invariant.3 made (long ∙ lent (goal.at.loop-i-preserved c).In-loop-i ∙ omega arith),
    )

pub returns : goal.returns
returns c =
    let loop = c.loop-i in
    square_whole c.args.self.n c.args.self.cells.now c.args.square.now c.requires.room
    (rows_end (column_of (goal.at.returns c).Start) loop.i _ _ loop.invariant.0 c.loop-i-test.false loop.invariant.3)
