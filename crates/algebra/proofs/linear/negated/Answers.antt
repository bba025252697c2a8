-- `linear::negated` meets its contract. The loop's invariant: the first i places are filled with the negatives.
use native.Mathlib.Omega.{arith}
use Rattle.algebra.proofs.Rooms.{filled}
use Rattle.algebra.proofs.linear.negated.Goals as goal

pub returns : goal.returns
returns c = filled _ _ _ _ c.loop-i.invariant.most (omega arith) c.requires c.loop-i.invariant.filled
