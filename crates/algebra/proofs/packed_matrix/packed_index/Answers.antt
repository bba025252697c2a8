-- `packed_matrix::packed_index` meets its contract, by which index is the larger (`packed-low`, `packed_high` in Packing.antt); the product fits
-- (`product_fits`).
use native.Mathlib.Omega.{arith}
use Rattle.algebra.proofs.Packing.{packed-low, packed_high, product_fits}
use Rattle.algebra.proofs.packed_matrix.packed_index.Goals as goal

pub overflow_mul-result : goal.overflow_mul-result
overflow_mul-result c = omega (arith, product_fits c.args.i c.requires.0)

pub overflow_add-result-then-i-j : goal.overflow_add-result-then-i-j
overflow_add-result-then-i-j c = omega (arith, product_fits c.args.i c.requires.0)

pub overflow_mul-result-else-i-j : goal.overflow_mul-result-else-i-j
overflow_mul-result-else-i-j c = omega (arith, product_fits c.args.j c.requires.1)

pub overflow_add-result-else-i-j-2 : goal.overflow_add-result-else-i-j-2
overflow_add-result-else-i-j-2 c = omega (arith, product_fits c.args.j c.requires.1)

pub returns-then-i-j : goal.returns-then-i-j
returns-then-i-j c = packed-low _ _ c.if-i-j.true

pub returns-else-i-j : goal.returns-else-i-j
returns-else-i-j c = packed_high _ _ c.if-i-j.false
