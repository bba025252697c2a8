-- The lengths of the tables beside what they keep, pair by pair: the first that is too short decides, or the last pair (`short_table`, `last_table` in
-- Records.antt). The ranges of options and dimensions, which are required, keep each product within a word.
use mathlib.Core.List.{zip_with}
use native.Mathlib.Omega.{arith}
use borrow.Author.Tests.{le-leb, lt-leb}
use Rattle.definition.proofs.Ranges.{OptionRanges, DimRanges, DimProducts, SplicedRanges, option_ranges, dim-ranges, spliced-ranges, dim_products}
use Rattle.limits.proofs.Records.{short_table, last_table}
use Rattle.limits.proofs.tables_fit.Goals.{Start}
use Rattle.limits.proofs.tables_fit.Goals as goal

-- what is known at the entry, and the entry from each branch on
known : (c : Start) → OptionRanges c.args.o × DimRanges c.args.d × SplicedRanges c.args.o c.args.d × DimProducts c.args.d
known c = (option_ranges _ c.requires.0, dim-ranges _ c.requires.1, spliced-ranges _ _ c.requires.0 c.requires.1, dim_products _ c.requires.1)

pub overflow_add-spliced : goal.overflow_add-spliced
overflow_add-spliced c = omega (arith, known (goal.at.overflow_add-spliced c).Start)

pub overflow_add-spliced-2 : goal.overflow_add-spliced-2
overflow_add-spliced-2 c = omega (arith, known (goal.at.overflow_add-spliced-2 c).Start)

pub overflow_mul-spliced : goal.overflow_mul-spliced
overflow_mul-spliced c = omega (arith, known (goal.at.overflow_mul-spliced c).Start)

pub returns-then-z-d : goal.returns-then-z-d
unfolding zip_with
returns-then-z-d c = short_table _ _ _ 0 (omega arith) (lt-leb _ _ c.if-z-d.true)

pub overflow_mul-d : goal.overflow_mul-d
overflow_mul-d c = omega (arith, known (goal.at.overflow_mul-d c).Start)

pub returns-then-z-d-2 : goal.returns-then-z-d-2
unfolding zip_with
returns-then-z-d-2 c = short_table _ _ _ 1 (omega arith) (lt-leb _ _ c.if-z-d-2.true)

pub overflow_mul-d-2 : goal.overflow_mul-d-2
overflow_mul-d-2 c = omega (arith, known (goal.at.overflow_mul-d-2 c).Start)

pub returns-then-z-d-3 : goal.returns-then-z-d-3
unfolding zip_with
returns-then-z-d-3 c = short_table _ _ _ 2 (omega arith) (lt-leb _ _ c.if-z-d-3.true)

pub overflow_mul-e : goal.overflow_mul-e
overflow_mul-e c = omega (arith, known (goal.at.overflow_mul-e c).Start)

pub overflow_mul-e-2 : goal.overflow_mul-e-2
overflow_mul-e-2 c = omega (arith, known (goal.at.overflow_mul-e-2 c).Start)

pub returns-then-z-e : goal.returns-then-z-e
unfolding zip_with
returns-then-z-e c = short_table _ _ _ 3 (omega arith) (lt-leb _ _ c.if-z-e.true)

pub overflow_add-s : goal.overflow_add-s
overflow_add-s c = omega (arith, known (goal.at.overflow_add-s c).Start)

pub overflow_mul-s : goal.overflow_mul-s
overflow_mul-s c = omega (arith, known (goal.at.overflow_mul-s c).Start)

pub overflow_mul-e-3 : goal.overflow_mul-e-3
overflow_mul-e-3 c = omega (arith, known (goal.at.overflow_mul-e-3 c).Start)

pub returns-then-z-e-2 : goal.returns-then-z-e-2
unfolding zip_with
returns-then-z-e-2 c = short_table _ _ _ 4 (omega arith) (lt-leb _ _ c.if-z-e-2.true)

pub overflow_mul-spliced-2 : goal.overflow_mul-spliced-2
overflow_mul-spliced-2 c = omega (arith, known (goal.at.overflow_mul-spliced-2 c).Start)

pub returns-then-z-spliced : goal.returns-then-z-spliced
unfolding zip_with
returns-then-z-spliced c = short_table _ _ _ 5 (omega arith) (lt-leb _ _ c.if-z-spliced.true)

pub returns-then-z-f : goal.returns-then-z-f
unfolding zip_with
returns-then-z-f c = short_table _ _ _ 6 (omega arith) (lt-leb _ _ c.if-z-f.true)

pub overflow_add-result : goal.overflow_add-result
overflow_add-result c = omega (arith, known (goal.at.overflow_add-result c).Start)

pub returns : goal.returns
unfolding zip_with
returns c =
    last_table _ _ _ (
      le-leb _ _ c.if-z-d.false,
      (
        le-leb _ _ c.if-z-d-2.false,
        (
          le-leb _ _ c.if-z-d-3.false,
          (
            le-leb _ _ c.if-z-e.false,
            (le-leb _ _ c.if-z-e-2.false, (le-leb _ _ c.if-z-spliced.false, (le-leb _ _ c.if-z-f.false, tt))),
          ),
        ),
      ),
    )
