-- `table_sizes` meets its contract. The ranges of options and dimensions, which are required, keep each product within a word.
use native.Mathlib.Omega.{arith}
use Rattle.definition.proofs.Ranges.{OptionRanges, DimRanges, DimProducts, SplicedRanges, option_ranges, dim-ranges, spliced-ranges, dim_products}
use Rattle.model.proofs.memory.table_sizes.Goals.{Start}
use Rattle.model.proofs.memory.table_sizes.Goals as goal

known : (c : Start) → OptionRanges c.args.o × DimRanges c.args.d × SplicedRanges c.args.o c.args.d × DimProducts c.args.d
known c = (option_ranges _ c.requires.0, dim-ranges _ c.requires.1, spliced-ranges _ _ c.requires.0 c.requires.1, dim_products _ c.requires.1)

pub overflow_add-spliced : goal.overflow_add-spliced
overflow_add-spliced c = omega (arith, known (goal.at.overflow_add-spliced c).Start)

pub overflow_add-spliced-2 : goal.overflow_add-spliced-2
overflow_add-spliced-2 c = omega (arith, known (goal.at.overflow_add-spliced-2 c).Start)

pub overflow_mul-spliced : goal.overflow_mul-spliced
overflow_mul-spliced c = omega (arith, known (goal.at.overflow_mul-spliced c).Start)

pub overflow_mul-result : goal.overflow_mul-result
overflow_mul-result c = omega (arith, known (goal.at.overflow_mul-result c).Start)

pub overflow_mul-result-2 : goal.overflow_mul-result-2
overflow_mul-result-2 c = omega (arith, known (goal.at.overflow_mul-result-2 c).Start)

pub overflow_mul-result-3 : goal.overflow_mul-result-3
overflow_mul-result-3 c = omega (arith, known (goal.at.overflow_mul-result-3 c).Start)

pub overflow_mul-result-4 : goal.overflow_mul-result-4
overflow_mul-result-4 c = omega (arith, known (goal.at.overflow_mul-result-4 c).Start)

pub overflow_add-result : goal.overflow_add-result
overflow_add-result c = omega (arith, known (goal.at.overflow_add-result c).Start)

pub overflow_mul-result-5 : goal.overflow_mul-result-5
overflow_mul-result-5 c = omega (arith, known (goal.at.overflow_mul-result-5 c).Start)

pub overflow_mul-result-6 : goal.overflow_mul-result-6
overflow_mul-result-6 c = omega (arith, known (goal.at.overflow_mul-result-6 c).Start)

pub overflow_mul-result-7 : goal.overflow_mul-result-7
overflow_mul-result-7 c = omega (arith, known (goal.at.overflow_mul-result-7 c).Start)

pub overflow_add-result-2 : goal.overflow_add-result-2
overflow_add-result-2 c = omega (arith, known (goal.at.overflow_add-result-2 c).Start)
