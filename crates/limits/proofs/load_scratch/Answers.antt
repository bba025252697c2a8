-- A load's scratch is the definition's sum; the ranges of dimensions, which are required, keep each product within a word.
use mathlib.Core.Path.{refl}
use native.Mathlib.Omega.{arith}
use Rattle.definition.proofs.Ranges.{dim-ranges, dim_products}
use Rattle.limits.proofs.load_scratch.Goals as goal

pub overflow_add-result : goal.overflow_add-result
overflow_add-result c = omega (arith, dim-ranges _ (c.requires), dim_products _ (c.requires))

pub overflow_mul-result : goal.overflow_mul-result
overflow_mul-result c = omega (arith, dim-ranges _ (c.requires), dim_products _ (c.requires))

pub overflow_mul-result-2 : goal.overflow_mul-result-2
overflow_mul-result-2 c = omega (arith, dim-ranges _ (c.requires), dim_products _ (c.requires))

pub overflow_add-result-2 : goal.overflow_add-result-2
overflow_add-result-2 c = omega (arith, dim-ranges _ (c.requires), dim_products _ (c.requires))

pub returns : goal.returns
returns c = refl
