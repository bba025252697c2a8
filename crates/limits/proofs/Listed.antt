-- Laws of tests in a list that is written out, as code makes them: one after the other, left at the first that fails.
use mathlib.Core.Path.{◌≡◌, refl, sym, ◌∙◌}
use mathlib.Core.Bool.{Bool, true, false, not, ◌&&◌, ◌||◌}
use mathlib.Core.List.{List, [], ◌∷◌, zip_with}
use Prim.Native.Nat.{ℕ, zero, suc, ◌≤◌, ◌<◌}
use native.Mathlib.Omega.{arith}
use borrow.Author.Tests.{not-true, not-false, lt-ltb, le-ltb}
use lib.Dec.{ltb}
use lib.ListN.{length, get_or, drop}
use Rattle.loops.specs.Lists.{all_of, all_true, any_of, any_true, pairwise}
use Rattle.loops.proofs.Tests.{at_fail}

-- a test that code calls, negated
pub holds : {r t : Bool} → r ≡ t → not r ≡ false → t ≡ true
holds {r} e h = sym e ∙ not-false r h

pub fails : {r t : Bool} → r ≡ t → not r ≡ true → t ≡ false
fails {r} e h = sym e ∙ not-true r h

-- of two tests the second decides, by what the first says; and where a third holds, one of the first two
pub and_skip : (a b : Bool) → a ≡ true → (a && b) ≡ b
and_skip a b e = rw e

pub or_skip : (a b : Bool) → a ≡ false → (a || b) ≡ b
or_skip a b e = rw e

pub first_of_two : (a b g : Bool) → a ≡ true → g ≡ true → a ≡ ((a || b) && g)
first_of_two a b g e h = rw (e, h) refl

pub second_of_two : (a b g : Bool) → a ≡ false → g ≡ true → b ≡ ((a || b) && g)
second_of_two a true g e h = rw (e, h) refl
second_of_two a false g e h = rw e refl

-- a test of numbers that code calls for
pub lt_test : {a b m n : ℕ} → a ≡ m → b ≡ n → a < b → ltb m n ≡ true
lt_test {m = m} {n = n} e f h = lt-ltb m n (omega arith)

pub le_test : {a b m n : ℕ} → a ≡ m → b ≡ n → b ≤ a → ltb m n ≡ false
le_test {m = m} {n = n} e f h = le-ltb m n (omega arith)

-- the first n of a list are all b: a fact for each, nested to the right
abbrev pub FirstAre : Bool → ℕ → List Bool → Type 0
FirstAre b zero ts = Unit {0}
FirstAre b (suc n) [] = ⊥
FirstAre b (suc n) (t ∷ ts) = (t ≡ b) × FirstAre b n ts

-- the last test decides
pub all-last : (n : ℕ) (ts : List Bool) → length ts ≡ suc n → FirstAre true n ts → get_or ts n false ≡ all_true ts
unfolding all_of
all-last n [] l h = absurd (omega arith)
all-last zero (true ∷ []) l h = refl
all-last zero (false ∷ ts) l h = refl
all-last zero (true ∷ t ∷ ts) l h = absurd (omega arith)
all-last (suc n) (t ∷ ts) l h = all-last n ts (omega arith) h.1 ∙ sym (rw h.0)

-- those after the first n decide
pub any_rest : (n : ℕ) (ts : List Bool) → FirstAre false n ts → any_true (drop n ts) ≡ any_true ts
unfolding any_of
any_rest zero ts h = refl
any_rest (suc n) [] h = absurd h
any_rest (suc n) (t ∷ ts) h = any_rest n ts h.1 ∙ sym (rw h.0)

-- ---- two lists side by side

pair-tests : {A B : Type 0} (p : A → B → Bool) (xs : List A) (ys : List B) → length xs ≡ length ys → all_true (zip_with p xs ys) ≡ pairwise p xs ys
unfolding all_of zip_with
pair-tests p [] [] e = refl
pair-tests p [] (y ∷ ys) e = absurd (omega arith)
pair-tests p (x ∷ xs) [] e = absurd (omega arith)
pair-tests p (x ∷ xs) (y ∷ ys) e = rw (pair-tests p xs ys (omega arith))

module _ {A B : Type 0} (p : A → B → Bool) (xs : List A) (ys : List B) where
  pub pair_fail : (n : ℕ) → length xs ≡ length ys → n < length (zip_with p xs ys) → get_or (zip_with p xs ys) n false ≡ false → false ≡ pairwise p xs ys
  pair_fail n e l h = sym (at_fail (λ t. t) false _ n l h) ∙ pair-tests p xs ys e

  pub pair_last : (n : ℕ) → length xs ≡ length ys → length (zip_with p xs ys) ≡ suc n → FirstAre true n (zip_with p xs ys) → get_or (zip_with p xs ys) n false ≡ pairwise p xs ys
  pair_last n e l h = all-last n _ l h ∙ pair-tests p xs ys e
