-- Laws of tests over lists.
use mathlib.Core.Path.{◌≡◌, refl, sym, ap, ◌∙◌}
use mathlib.Core.Bool.{Bool, true, false, not, ◌||◌, false≢true, or_assoc, or-false}
use mathlib.Core.List.{List, [], ◌∷◌, ◌++◌, map, append-nil}
use Prim.Native.Nat.{ℕ, zero, suc, ◌+◌, ◌≤◌, ◌<◌}
use native.Mathlib.Nat.{not-suc-le-zero, le_of_suc-le-suc}
use native.Mathlib.Omega.{arith}
use lib.ListN.{length, get_or, take, drop, take-append-drop, length-take, length-drop, drop_of_length-le}
use lib.Seq.{get_or-take, get_or-drop}
use lib.Dec.{eqb}
use borrow.Author.Tests.{eq-eqb, not-true, not-false}
use Rattle.loops.specs.Lists.{those, any_of, all_of, pairwise}
use Rattle.loops.proofs.Choose.{by-test, or_second, or_fails, and_both, and_holds}
use Rattle.loops.proofs.Parts.{drop_next}

-- one fact for each element, nested to the right
abbrev pub NoneOf : {A : Type 0} → (A → Bool) → List A → Type 0
NoneOf p [] = Unit {0}
NoneOf p (x ∷ xs) = (p x ≡ false) × NoneOf p xs

abbrev pub EachOf : {A : Type 0} → (A → Bool) → List A → Type 0
EachOf p [] = Unit {0}
EachOf p (x ∷ xs) = (p x ≡ true) × EachOf p xs

module _ {A : Type 0} (p : A → Bool) where
  -- ---- any_of

  pub none_of : (xs : List A) → any_of p xs ≡ false → NoneOf p xs
  unfolding any_of
  none_of [] e = tt
  none_of (x ∷ xs) e = let h = or_fails (p x) (any_of p xs) e in (h.0, none_of xs h.1)

  pub of_none : (xs : List A) → NoneOf p xs → any_of p xs ≡ false
  unfolding any_of
  of_none [] h = refl
  of_none (x ∷ xs) h = rw h.0 (of_none xs h.1)

  -- the same by index
  pub none_at : (d : A) (xs : List A) (k : ℕ) → any_of p xs ≡ false → k < length xs → p (get_or xs k d) ≡ false
  unfolding any_of
  none_at d [] k e l = absurd (not-suc-le-zero l)
  none_at d (x ∷ xs) zero e l = (or_fails (p x) (any_of p xs) e).0
  none_at d (x ∷ xs) (suc k) e l = none_at d xs k (or_fails (p x) (any_of p xs) e).1 (le_of_suc-le-suc l)

  pub at_none : (d : A) (xs : List A) → ((k : ℕ) → k < length xs → p (get_or xs k d) ≡ false) → any_of p xs ≡ false
  unfolding any_of
  at_none d [] h = refl
  at_none d (x ∷ xs) h = rw (h 0 (omega arith)) (at_none d xs (λ k l. h (suc k) (omega arith)))

  pub at_some : (d : A) (xs : List A) (k : ℕ) → k < length xs → p (get_or xs k d) ≡ true → any_of p xs ≡ true
  unfolding any_of
  at_some d [] k l e = absurd (not-suc-le-zero l)
  at_some d (x ∷ xs) zero l e = rw e
  at_some d (x ∷ xs) (suc k) l e = or_second (p x) (any_of p xs) (at_some d xs k (le_of_suc-le-suc l) e)

  -- a loop over the list, by what is left from i
  pub any_turn : (d : A) (xs : List A) (i : ℕ) {b : Bool} → i < length xs → p (get_or xs i d) ≡ false → any_of p (drop i xs) ≡ b → any_of p (drop (i + 1) xs) ≡ b
  unfolding any_of
  any_turn d xs i l e h = let g : any_of p (drop i xs) ≡ any_of p (drop (i + 1) xs) = rw (drop_next d xs i l, e) in sym g ∙ h

  pub any_end : (xs : List A) (i : ℕ) {b : Bool} → length xs ≤ i → any_of p (drop i xs) ≡ b → false ≡ b
  unfolding any_of
  any_end xs i l h = let g : any_of p (drop i xs) ≡ false = rw (drop_of_length-le xs l) in sym g ∙ h

  -- a loop over the whole list, that keeps whether one was found
  pub any_more : (d : A) (bad : Bool) (xs : List A) (i : ℕ) {b : Bool} → i < length xs → (bad || any_of p (drop i xs)) ≡ b → ((bad || p (get_or xs i d)) || any_of p (drop (i + 1) xs)) ≡ b
  unfolding any_of
  any_more d bad xs i l h = let g : (bad || any_of p (drop i xs)) ≡ ((bad || p (get_or xs i d)) || any_of p (drop (i + 1) xs)) = rw (drop_next d xs i l) (sym (or_assoc bad _ _)) in sym g ∙ h

  pub any_kept : (bad : Bool) (xs : List A) (i : ℕ) {b : Bool} → length xs ≤ i → (bad || any_of p (drop i xs)) ≡ b → bad ≡ b
  unfolding any_of
  any_kept bad xs i l h = let g : (bad || any_of p (drop i xs)) ≡ bad = rw (drop_of_length-le xs l) (or-false bad) in sym g ∙ h

-- ---- all_of

module _ {A : Type 0} (p : A → Bool) where
  pub each_of : (xs : List A) → all_of p xs ≡ true → EachOf p xs
  unfolding all_of
  each_of [] e = tt
  each_of (x ∷ xs) e = let h = and_holds (p x) (all_of p xs) e in (h.0, each_of xs h.1)

  pub of_each : (xs : List A) → EachOf p xs → all_of p xs ≡ true
  unfolding all_of
  of_each [] h = refl
  of_each (x ∷ xs) h = rw h.0 (of_each xs h.1)

  -- all pass where none fails: each of these is the law of `any_of` for the test turned round
  all_any : (xs : List A) → all_of p xs ≡ not (any_of (λ x. not (p x)) xs)
  unfolding all_of any_of
  all_any [] = refl
  all_any (x ∷ xs) = by-test (p x) (λ t. rw t (all_any xs)) (λ t. rw t)

  pub each_at : (d : A) (xs : List A) (k : ℕ) → all_of p xs ≡ true → k < length xs → p (get_or xs k d) ≡ true
  each_at d xs k e l = not-false _ (none_at (λ x. not (p x)) d xs k (not-true _ (sym (all_any xs) ∙ e)) l)

  pub at_each : (d : A) (xs : List A) → ((k : ℕ) → k < length xs → p (get_or xs k d) ≡ true) → all_of p xs ≡ true
  at_each d xs h = all_any xs ∙ ap not (at_none (λ x. not (p x)) d xs (λ k l. ap not (h k l)))

  pub at_fail : (d : A) (xs : List A) (k : ℕ) → k < length xs → p (get_or xs k d) ≡ false → all_of p xs ≡ false
  at_fail d xs k l e = all_any xs ∙ ap not (at_some (λ x. not (p x)) d xs k l (ap not e))

  pub all_turn : (d : A) (xs : List A) (i : ℕ) {b : Bool} → i < length xs → p (get_or xs i d) ≡ true → all_of p (drop i xs) ≡ b → all_of p (drop (i + 1) xs) ≡ b
  all_turn d xs i l e h = all_any _ ∙ ap not (any_turn (λ x. not (p x)) d xs i l (ap not e) refl) ∙ sym (all_any (drop i xs)) ∙ h

  pub all_end : (xs : List A) (i : ℕ) {b : Bool} → length xs ≤ i → all_of p (drop i xs) ≡ b → true ≡ b
  all_end xs i l h = ap not (any_end (λ x. not (p x)) xs i l refl) ∙ sym (all_any (drop i xs)) ∙ h

  -- ---- those

  pub those_append : (xs ys : List A) → those p (xs ++ ys) ≡ those p xs ++ those p ys
  unfolding those
  those_append [] ys = refl
  those_append (x ∷ xs) ys = by-test (p x) (λ t. rw (t, those_append xs ys)) (λ t. rw (t, those_append xs ys))

  pub those_none : (xs : List A) → any_of p xs ≡ false → those p xs ≡ []
  unfolding those any_of
  those_none [] e = refl
  those_none (x ∷ xs) e = let h = or_fails (p x) (any_of p xs) e in rw h.0 (those_none xs h.1)

  pub those_all : (xs : List A) → all_of p xs ≡ true → those p xs ≡ xs
  unfolding those all_of
  those_all [] e = refl
  those_all (x ∷ xs) e = let h = and_holds (p x) (all_of p xs) e in rw h.0 (ap (λ (s : List A). x ∷ s) (those_all xs h.1))

  pub length_those : (xs : List A) → length (those p xs) ≤ length xs
  unfolding those
  length_those [] = omega arith
  length_those (x ∷ xs) = let h = length_those xs in by-test (p x) (λ t. rw t (omega arith)) (λ t. rw t (omega arith))

  -- all of the first k pass, and none from k on
  pub those_take : (d : A) (xs : List A) (k : ℕ) → ((i : ℕ) → i < k → i < length xs → p (get_or xs i d) ≡ true) → ((i : ℕ) → k ≤ i → i < length xs → p (get_or xs i d) ≡ false)
      → those p xs ≡ take k xs
  those_take d xs k low high =
      let first : those p (take k xs) ≡ take k xs = those_all (take k xs) (at_each d (take k xs) (λ i l. let h : i < k = omega (arith, length-take k xs) in
      ap p (get_or-take k xs i d h) ∙ low i h (omega (arith, length-take k xs)))) in
      let rest : those p (drop k xs) ≡ [] = those_none (drop k xs) (at_none p d (drop k xs) (λ i l.
      ap p (get_or-drop k xs i d) ∙ high (k + i) (omega arith) (omega (arith, length-drop k xs)))) in
      ap (those p) (sym (take-append-drop k xs)) ∙ those_append (take k xs) (drop k xs) ∙ rw (first, rest) (append-nil _)

-- through map
pub those-map : {A B : Type 0} (h : A → B) (p : B → Bool) (xs : List A) → those p (map h xs) ≡ map h (those (λ x. p (h x)) xs)
unfolding those
those-map h p [] = refl
those-map h p (x ∷ xs) = by-test (p (h x)) (λ t. rw (t, those-map h p xs)) (λ t. rw (t, those-map h p xs))

-- ---- pairwise

-- one fact for each pair, nested to the right
abbrev pub EachPair : {A B : Type 0} → (A → B → Bool) → List A → List B → Type 0
EachPair p [] [] = Unit {0}
EachPair p [] (y ∷ ys) = ⊥
EachPair p (x ∷ xs) [] = ⊥
EachPair p (x ∷ xs) (y ∷ ys) = (p x y ≡ true) × EachPair p xs ys

pub each_pair : {A B : Type 0} (p : A → B → Bool) (xs : List A) (ys : List B) → pairwise p xs ys ≡ true → EachPair p xs ys
each_pair p [] [] e = tt
each_pair p [] (y ∷ ys) e = absurd (false≢true e)
each_pair p (x ∷ xs) [] e = absurd (false≢true e)
each_pair p (x ∷ xs) (y ∷ ys) e = let h = and_holds (p x y) (pairwise p xs ys) e in (h.0, each_pair p xs ys h.1)

-- equal lists of numbers
pub same-pair : (xs ys : List ℕ) → xs ≡ ys → pairwise eqb xs ys ≡ true
same-pair xs ys e = rw (← e) (go xs)
  where
    go : (xs : List ℕ) → pairwise eqb xs xs ≡ true
    go [] = refl
    go (x ∷ xs) = and_both (eqb x x) (pairwise eqb xs xs) (eq-eqb x x refl) (go xs)
