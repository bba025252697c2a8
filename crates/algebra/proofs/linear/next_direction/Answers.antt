-- `linear::next_direction` meets its contract: each place is made from its old value alone (`updated_whole` in loops/proofs/Fill.antt).
use mathlib.Core.Path.{refl}
use native.Mathlib.Omega.{arith}
use lib.Ieee.{nan}
use Rattle.floats.specs.Operators.{◌-₆₄◌, ◌*₆₄◌, at}
use Rattle.loops.proofs.Fill.{updated_whole}
use Rattle.algebra.proofs.linear.next_direction.Goals as goal

pub returns : goal.returns
returns c = updated_whole nan (λ i v. c.args.beta *₆₄ v -₆₄ at c.args.r.now i) _ _ _ c.loop-i.invariant.most (omega arith) refl c.loop-i.invariant.turns
