-- `shifted` gives `closest a (2 ^ by)`: what is left of the sum where half a unit was added (`shift_nearest` in Closest.antt).
use Rattle.std.proofs.Common.{arith}
use Rattle.floats.proofs.Closest.{half_some, half_small, shift_nearest}
use Rattle.floats.proofs.shifted.Goals as goal

pub overflow_sub-result : goal.overflow_sub-result
overflow_sub-result c = half_some c.args.a c.args.by (c.requires.0, c.requires.1)

pub overflow_add-result : goal.overflow_add-result
overflow_add-result c = let p = c.requires in omega (arith, p.2, half_small c.args.a c.args.by (p.0, p.1))

pub overflow_add-result-2 : goal.overflow_add-result-2
overflow_add-result-2 c = let p = c.requires in omega (arith, p.2, half_small c.args.a c.args.by (p.0, p.1))

pub returns : goal.returns
returns c = shift_nearest c.args.a c.args.by (c.requires.0, c.requires.1)
