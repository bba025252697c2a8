-- The larger of the two products is the definition's. Each is within a word by the ranges of dimensions, which are required.
use Rattle.definition.specs.Stream.{stream_scratch}
use native.Mathlib.Omega.{arith}
use Rattle.definition.proofs.Ranges.{dim_products}
use Rattle.limits.proofs.stream_scratch.Goals as goal

pub overflow_mul-d : goal.overflow_mul-d
overflow_mul-d c = omega (arith, dim_products _ c.requires)

pub overflow_mul-d-2 : goal.overflow_mul-d-2
overflow_mul-d-2 c = omega (arith, dim_products _ c.requires)

pub returns : goal.returns
unfolding stream_scratch
returns c = c.max.ensures
