-- Refusal 8: the tests of the rings and of the other rooms, one after the other; the first that fails decides, or the last (`short_room`, `last_room` in
-- Records.antt). How many rows a ring has is told without a division (Rows.antt).
use mathlib.Core.Path.{ap, ◌∙◌}
use mathlib.Core.List.{zip_with}
use Prim.Native.Nat.{ℕ}
use native.Mathlib.Nat.{one-mul}
use native.Mathlib.Omega.{arith}
use lib.Dec.{leb}
use borrow.Author.Tests.{le-leb, lt-leb}
use Rattle.definition.proofs.Ranges.{DimRanges, DimProducts, dim-ranges, dim_products}
use Rattle.limits.proofs.Rows.{rows_under, rows_reach}
use Rattle.limits.proofs.Records.{few_frames, few_rows, short_room, last_room}
use Rattle.limits.proofs.rooms_fit.Goals.{Start}
use Rattle.limits.proofs.rooms_fit.Goals as goal

-- the ranges of dimensions, which are required, from the first test on and from the fourth on
known : (c : Start) → DimRanges c.args.d × DimProducts c.args.d
known c = (dim-ranges _ c.requires, dim_products _ c.requires)

pub returns-then-r-d : goal.returns-then-r-d
returns-then-r-d c =
    let dim = c.args.d.base_dim in
    few_frames _ _ (rows_under _ dim 1 (known (goal.at.returns-then-r-d c).Start).0.some_base (omega (arith, c.if-r-d.true, one-mul dim)))

pub overflow_mul-d : goal.overflow_mul-d
overflow_mul-d c = omega (arith, known (goal.at.overflow_mul-d c).Start)

pub returns-then-r-d-2 : goal.returns-then-r-d-2
returns-then-r-d-2 c = few_rows _ _ (rows_under _ _ 2 (known (goal.at.returns-then-r-d-2 c).Start).0.some_base c.if-r-d-2.true)

pub overflow_add-d : goal.overflow_add-d
overflow_add-d c = omega (arith, known (goal.at.overflow_add-d c).Start)

pub returns-then-e-d : goal.returns-then-e-d
unfolding zip_with
returns-then-e-d c = short_room _ _ 0 (omega arith) (lt-leb _ _ c.if-e-d.true)

pub returns-then-e-s : goal.returns-then-e-s
unfolding zip_with
returns-then-e-s c = short_room _ _ 1 (omega arith) (lt-leb _ _ c.if-e-s.true)

pub overflow_add-s : goal.overflow_add-s
overflow_add-s c = omega (arith, known (goal.at.overflow_add-s c).Start)

pub overflow_mul-s : goal.overflow_mul-s
overflow_mul-s c = omega (arith, known (goal.at.overflow_mul-s c).Start)

pub returns-then-e-s-2 : goal.returns-then-e-s-2
unfolding zip_with
returns-then-e-s-2 c = short_room _ _ 2 (omega arith) (lt-leb _ _ c.if-e-s-2.true)

pub returns-then-e-s-3 : goal.returns-then-e-s-3
unfolding zip_with
returns-then-e-s-3 c = short_room _ _ 3 (omega arith) (lt-leb _ _ c.if-e-s-3.true)

pub returns : goal.returns
unfolding zip_with
returns c =
    let args = c.args in
    let some = (known (goal.at.returns c).Start).0.some_base in
    ap (λ (n : ℕ). leb n args.z.estimate.scratch) c.stream_scratch.ensures
    ∙ last_room _ _ (rows_reach _ args.d.base_dim 1 some (omega (arith, c.if-r-d.false, one-mul args.d.base_dim))) (rows_reach _ _ 2 some c.if-r-d-2.false)
    (le-leb _ _ c.if-e-d.false, (le-leb _ _ c.if-e-s.false, (le-leb _ _ c.if-e-s-2.false, (le-leb _ _ c.if-e-s-3.false, tt))))
