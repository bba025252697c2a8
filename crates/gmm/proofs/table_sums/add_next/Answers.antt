-- `table_sums::add_next` meets its contract: a pass adds the rows that are left, at most four (`one-row` to `four_rows` in Passes.antt); the rows
-- lie in the table (`row_in_lem` in loops/proofs/Cells.antt), by how many are left after each test (`two-left` to `four-left`).
use mathlib.Core.Path.{◌≡◌, refl}
use Prim.Native.Nat.{ℕ, ◌+◌, ◌-◌, ◌<◌}
use native.Mathlib.Omega.{arith}
use lib.ListN.{length}
use Rattle.loops.proofs.Cells.{row_in_lem}
use Rattle.gmm.proofs.Passes.{one-row, two_rows, three_rows, four_rows}
use Rattle.gmm.proofs.table_sums.add_next.Given.{Over}
use Rattle.gmm.proofs.table_sums.add_next.Goals.{Else-left-eq1, Else-left-eq2, Else-left-eq3}
use Rattle.gmm.proofs.table_sums.add_next.Goals as goal

-- ---- how many rows are left after the tests

more_left : (k d i j : ℕ) → j ≡ i + 1 → k + i < d → (d - k ≡ j → ⊥) → k + j < d
more_left k d i j e h n = omega arith

two-left : (g : Over) (c : Else-left-eq1 g) → let a = c.args in a.k + 1 < a.d
two-left g c = more_left c.args.k c.args.d 0 1 refl (omega (arith, c.requires.row_left)) c.if-left-eq1.false

three-left : (g : Over) (c : Else-left-eq2 g) → let a = c.args in a.k + 2 < a.d
three-left g c =
    let a = c.args in
    more_left a.k a.d 1 2 refl (two-left g (goal.at.Else-left-eq2 g c).Else-left-eq1) c.if-left-eq2.false

four-left : (g : Over) (c : Else-left-eq3 g) → let a = c.args in a.k + 3 < a.d
four-left g c =
    let a = c.args in
    more_left a.k a.d 2 3 refl (three-left g (goal.at.Else-left-eq3 g c).Else-left-eq2) c.if-left-eq3.false

-- ---- one row

pub row_at-r0-requires : goal.row_at-r0-requires
row_at-r0-requires g c = row_in_lem c.args.k c.args.d (length c.args.sum.now) _ c.requires.in_table (omega arith)

pub returns-then-left-eq1 : goal.returns-then-left-eq1
returns-then-left-eq1 g c =
    let a = c.args in
    let n = length a.sum.now in
    record {
      onward = omega arith;
      within = omega arith;
      sums = λ f h. one-row n a.table.now a.x.now f a.sum.now a.k c.row_at-r0.ensures.0 (h _ _ c.times-v0.ensures) c.add_one.ensures;
    }

-- ---- two

pub row_at-r1-requires : goal.row_at-r1-requires
row_at-r1-requires g c = row_in_lem (c.args.k + 1) c.args.d (length c.args.sum.now) _ c.requires.in_table (two-left g (goal.at.row_at-r1-requires g c).Else-left-eq1)

pub returns-then-left-eq2 : goal.returns-then-left-eq2
returns-then-left-eq2 g c =
    let a = c.args in
    let n = length a.sum.now in
    record {
      onward = omega arith;
      within = omega (arith, two-left g (goal.at.returns-then-left-eq2 g c).Else-left-eq1);
      sums = λ f h. two_rows n a.table.now a.x.now f a.sum.now a.k c.row_at-r0.ensures.0 (h _ _ c.times-v0.ensures) c.row_at-r1.ensures.0 (h _ _ c.times-v1.ensures) c.add_two.ensures;
    }

-- ---- three

pub row_at-r2-requires : goal.row_at-r2-requires
row_at-r2-requires g c = row_in_lem (c.args.k + 2) c.args.d (length c.args.sum.now) _ c.requires.in_table (three-left g (goal.at.row_at-r2-requires g c).Else-left-eq2)

pub returns-then-left-eq3 : goal.returns-then-left-eq3
returns-then-left-eq3 g c =
    let a = c.args in
    let n = length a.sum.now in
    record {
      onward = omega arith;
      within = omega (arith, three-left g (goal.at.returns-then-left-eq3 g c).Else-left-eq2);
      sums = λ f h. three_rows n a.table.now a.x.now f a.sum.now a.k c.row_at-r0.ensures.0 (h _ _ c.times-v0.ensures) c.row_at-r1.ensures.0 (h _ _ c.times-v1.ensures) c.row_at-r2.ensures.0 (h _ _ c.times-v2.ensures) c.add_three.ensures;
    }

-- ---- four

pub row_at-r3-requires : goal.row_at-r3-requires
row_at-r3-requires g c = row_in_lem (c.args.k + 3) c.args.d (length c.args.sum.now) _ c.requires.in_table (four-left g (goal.at.row_at-r3-requires g c).Else-left-eq3)

pub overflow_add-result-2 : goal.overflow_add-result-2
overflow_add-result-2 g c = omega (arith, c.requires.in_x, four-left g (goal.at.overflow_add-result-2 g c).Else-left-eq3, c.ranges)

pub returns : goal.returns
returns g c =
    let a = c.args in
    let n = length a.sum.now in
    record {
      onward = omega arith;
      within = omega (arith, four-left g (goal.at.returns g c).Else-left-eq3);
      sums = λ f h. four_rows n a.table.now a.x.now f a.sum.now a.k c.row_at-r0.ensures.0 (h _ _ c.times-v0.ensures) c.row_at-r1.ensures.0 (h _ _ c.times-v1.ensures) c.row_at-r2.ensures.0 (h _ _ c.times-v2.ensures) c.row_at-r3.ensures.0 (h _ _ c.times-v3.ensures) c.add_four.ensures;
    }
