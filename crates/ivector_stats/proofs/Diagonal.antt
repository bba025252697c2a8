-- The diagonal of a packed matrix.
use mathlib.Core.Path.{◌≡◌}
use Prim.Native.Nat.{ℕ, ◌<◌}
use native.Mathlib.Omega.{arith}
use borrow.Author.Tests.{le-leb}
use Rattle.loops.proofs.Triangle.{triangle-below}
use Rattle.definition.specs.Kaldi.{triangle}
use Rattle.definition.specs.Model.{packed}

-- it lies in the matrix, s wide
pub diagonal_in : (i s r : ℕ) → i < s → r ≡ packed i i → r < triangle s
unfolding packed
diagonal_in i s r h e = rw (e, le-leb i i (omega arith)) (triangle-below i i s (omega arith) h)
