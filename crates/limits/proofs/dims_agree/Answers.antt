-- The ranges of options and dimensions, which are required, keep the spliced width within a word (`spliced-ranges`). Where the Gaussians agree,
-- the first test of the columns or else the second decides (`first_of_two`, `second_of_two` in Listed.antt).
use Rattle.definition.specs.Options.{dims_agree}
use borrow.Author.Tests.{eq-eqb, ne_eqb, le-leb}
use native.Mathlib.Omega.{arith}
use Rattle.definition.proofs.Ranges.{OptionRanges, DimRanges, SplicedRanges, option_ranges, dim-ranges, spliced-ranges}
use Rattle.limits.proofs.Listed.{first_of_two, second_of_two}
use Rattle.limits.proofs.dims_agree.Goals.{Start}
use Rattle.limits.proofs.dims_agree.Goals as goal

known : (c : Start) → OptionRanges c.args.o × DimRanges c.args.d × SplicedRanges c.args.o c.args.d
known c = (option_ranges _ c.requires.0, dim-ranges _ c.requires.1, spliced-ranges _ _ c.requires.0 c.requires.1)

pub overflow_add-spliced : goal.overflow_add-spliced
overflow_add-spliced c = omega (arith, known (goal.at.overflow_add-spliced c).Start)

pub overflow_add-spliced-2 : goal.overflow_add-spliced-2
overflow_add-spliced-2 c = omega (arith, known (goal.at.overflow_add-spliced-2 c).Start)

pub overflow_mul-spliced : goal.overflow_mul-spliced
overflow_mul-spliced c = omega (arith, known (goal.at.overflow_mul-spliced c).Start)

pub overflow_add-result : goal.overflow_add-result
overflow_add-result c = omega (arith, known (goal.at.overflow_add-result c).Start)

pub returns-then-d-spliced : goal.returns-then-d-spliced
unfolding dims_agree
returns-then-d-spliced c = first_of_two _ _ _ (eq-eqb _ _ c.if-d-spliced.true) (le-leb c.args.d.num_gauss c.args.d.ext_gauss c.if-d.true)

pub returns-else-d-spliced : goal.returns-else-d-spliced
unfolding dims_agree
returns-else-d-spliced c = second_of_two _ _ _ (ne_eqb _ _ c.if-d-spliced.false) (le-leb c.args.d.num_gauss c.args.d.ext_gauss c.if-d.true)
