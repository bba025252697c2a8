-- Laws of insertion. Of a sorted list only the first k are wanted, so only the first k need be kept on the way.
use mathlib.Core.Path.{◌≡◌, refl, sym, ap, ◌∙◌}
use mathlib.Core.List.{List, [], ◌∷◌}
use Prim.Native.Nat.{ℕ, zero, suc, ◌+◌}
use native.Mathlib.Omega.{arith}
use lib.ListN.{length, take}
use lib.Seq.{take-take}
use Rattle.loops.proofs.Choose.{by-test}
use Rattle.loops.proofs.Parts.{take_cons}
use Rattle.definition.specs.Posteriors.{Post, ahead, insert}
pub use Rattle.gmm.specs.Inner.Leading.{into}

-- the first k of an insertion depend only on the first k before it
pub take-insert : (k : ℕ) (p : Post) (l : List Post) → take k (insert p (take k l)) ≡ take k (insert p l)
unfolding insert
take-insert zero p l = refl
take-insert (suc k) p [] = refl
take-insert (suc k) p (q ∷ l) =
    by-test (ahead p q) (λ t. rw t (ap (λ (r : List Post). p ∷ r) (take_cons k q l)))
    (λ t. rw t (ap (λ (r : List Post). q ∷ r) (take-insert k p l)))

pub take_sort : (k : ℕ) (l ps : List Post) → take k (into (take k l) ps) ≡ take k (into l ps)
take_sort k l [] = take-take k k l (omega arith)
take_sort k l (p ∷ ps) =
    sym (take_sort k (insert p (take k l)) ps) ∙ ap (λ (r : List Post). take k (into r ps)) (take-insert k p l) ∙ take_sort k (insert p l) ps

pub length-insert : (p : Post) (l : List Post) → length (insert p l) ≡ suc (length l)
unfolding insert
length-insert p [] = refl
length-insert p (q ∷ l) = by-test (ahead p q) (λ t. rw t) (λ t. rw t (ap suc (length-insert p l)))

pub length_sort : (l ps : List Post) → length (into l ps) ≡ length l + length ps
length_sort l [] = omega arith
length_sort l (p ∷ ps) = omega (arith, length_sort (insert p l) ps, length-insert p l)
