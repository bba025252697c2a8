-- What the tests of a block say.
use mathlib.Core.Path.{◌≡◌}
use mathlib.Core.Bool.{true}
use Prim.Native.Nat.{ℕ}
use borrow.Author.Tests.{eqb-true}
use Rattle.loops.proofs.Choose.{and_holds}
use Rattle.definition.specs.Kaldi.{Matrix}
use Rattle.kaldi.specs.Inner.KaldiFilesAnswers.{sized_as}

pub sized_is : (rows cols : ℕ) (m : Matrix) → sized_as rows cols m ≡ true → (m.rows ≡ rows) × (m.cols ≡ cols)
sized_is rows cols m e = let h = and_holds _ _ e in (eqb-true _ _ h.0, eqb-true _ _ h.1)
