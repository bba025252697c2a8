-- `limits::counts_broken` meets its contract: each test is one of `breaks`, from the third on and in its order; the last two are those of
-- the waiting frames. The dimensions' ranges are required, so that the products fit.
use mathlib.Core.Path.{refl, sym, ◌∙◌}
use Prim.Native.Nat.{◌≤◌}
use native.Mathlib.Nat.{mul-le-mul}
use native.Mathlib.Omega.{arith}
use lib.Seq.{length-take-le}
use borrow.Author.Tests.{lt-ltb, le-ltb}
use Rattle.definition.specs.Stream.{breaks}
use Rattle.definition.proofs.Ranges.{DimRanges, dim-ranges}
use Rattle.limits.proofs.Listed.{lt_test, le_test}
use Rattle.limits.proofs.Records.{counts-at, waiting_last}
use Rattle.limits.proofs.Rows.{rows_under, rows_reach, frames-few, rows_few}
use Rattle.limits.proofs.counts_broken.Goals.{Else-s-gt1000000000}
use Rattle.limits.proofs.counts_broken.Goals as goal

-- the dimensions' ranges
sound : (c : Else-s-gt1000000000) →
    DimRanges c.args.s.now.info.dims
sound c = dim-ranges _ c.requires

pub returns-then-s-gt1000000000 : goal.returns-then-s-gt1000000000
unfolding breaks
returns-then-s-gt1000000000 c = counts-at _ _ 0 (omega arith) (lt-ltb _ _ c.if-s-gt1000000000.true)

pub returns-then-s : goal.returns-then-s
unfolding breaks
returns-then-s c = counts-at _ _ 1 (omega arith) (lt-ltb _ _ c.if-s.true)

pub returns-then-saturating_sub-s : goal.returns-then-saturating_sub-s
unfolding breaks
returns-then-saturating_sub-s c = counts-at _ _ 2 (omega arith) (lt_test c.saturating_sub.ensures refl c.if-saturating_sub-s.true)

pub returns-then-saturating_sub-s-2 : goal.returns-then-saturating_sub-s-2
unfolding breaks
returns-then-saturating_sub-s-2 c = counts-at _ _ 3 (omega arith) (lt_test c.saturating_sub-2.ensures refl c.if-saturating_sub-s-2.true)

pub returns-then-windows_broken : goal.returns-then-windows_broken
unfolding breaks
returns-then-windows_broken c = counts-at _ _ 4 (omega arith) (sym c.windows_broken.ensures ∙ c.if-windows_broken.true)

pub overflow_mul-frames_held : goal.overflow_mul-frames_held
overflow_mul-frames_held c =
    let few : c.frames_held.result ≤ 1000000000 = omega (arith, frames-few _ _ c.frames_held.ensures, c.if-s-gt1000000000.false) in
    omega (arith, mul-le-mul few (sound (goal.at.overflow_mul-frames_held c).Else-s-gt1000000000).base_is)

pub returns-then-rings-frames_held : goal.returns-then-rings-frames_held
unfolding breaks
returns-then-rings-frames_held c =
    let some = (sound (goal.at.returns-then-rings-frames_held c).Else-s-gt1000000000).some_base in
    counts-at _ _ 5 (omega arith) (lt_test refl c.frames_held.ensures (rows_under _ _ c.frames_held.result some c.if-rings-frames_held.true))

pub rows_held-requires : goal.rows_held-requires
rows_held-requires c = omega (arith, c.if-s-gt1000000000.false, c.if-s.false, c.if-saturating_sub-s.false, c.saturating_sub.ensures)

pub overflow_mul-rows_held : goal.overflow_mul-rows_held
overflow_mul-rows_held c =
    let few : c.rows_held.result ≤ 1000000001 = omega (arith, rows_few _ _ _ c.rows_held.ensures, c.if-s-gt1000000000.false) in
    omega (arith, mul-le-mul few (sound (goal.at.overflow_mul-rows_held c).Else-s-gt1000000000).base_is)

pub returns-then-rings-rows_held : goal.returns-then-rings-rows_held
unfolding breaks
returns-then-rings-rows_held c =
    let some = (sound (goal.at.returns-then-rings-rows_held c).Else-s-gt1000000000).some_base in
    counts-at _ _ 6 (omega arith) (lt_test refl c.rows_held.ensures (rows_under _ _ c.rows_held.result some c.if-rings-rows_held.true))

pub returns-then-min-s : goal.returns-then-min-s
unfolding breaks
returns-then-min-s c = counts-at _ _ 7 (omega arith) (lt_test c.min.ensures refl c.if-min-s.true)

pub slice_bounds-waiting_broken-end : goal.slice_bounds-waiting_broken-end
slice_bounds-waiting_broken-end c = sym (length-take-le _ _ (omega (arith, c.min-2.ensures)))

pub returns : goal.returns
unfolding breaks
returns c =
    let some = (sound (goal.at.returns c).Else-s-gt1000000000).some_base in
    c.waiting_broken.ensures ∙ waiting_last _ _ c.min-2.ensures (
      le-ltb _ _ c.if-s-gt1000000000.false,
      (
        le-ltb _ _ c.if-s.false,
        (
          le_test c.saturating_sub.ensures refl c.if-saturating_sub-s.false,
          (
            le_test c.saturating_sub-2.ensures refl c.if-saturating_sub-s-2.false,
            (
              sym c.windows_broken.ensures ∙ c.if-windows_broken.false,
              (
                le_test refl c.frames_held.ensures (rows_reach _ _ c.frames_held.result some c.if-rings-frames_held.false),
                (
                  le_test refl c.rows_held.ensures (rows_reach _ _ c.rows_held.result some c.if-rings-rows_held.false),
                  (le_test c.min.ensures refl c.if-min-s.false, tt),
                ),
              ),
            ),
          ),
        ),
      ),
    )
