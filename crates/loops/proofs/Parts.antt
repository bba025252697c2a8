-- Laws of parts of lists that `lib.Seq` lacks, and of two lists side by side.
use mathlib.Core.Path.{◌≡◌, refl, ap, ◌∙◌}
use mathlib.Core.List.{List, [], ◌∷◌, ◌++◌, zip_with}
use Prim.Native.Nat.{ℕ, zero, suc, ◌+◌, ◌-◌, ◌≤◌, ◌<◌}
use native.Mathlib.Nat.{not-suc-le-zero, le_of_suc-le-suc}
use native.Mathlib.Numerals.{add-one}
use native.Mathlib.Omega.{arith}
use lib.ListN.{length, get_or, take, drop, length-drop}
use lib.Seq.{drop-cons, take-suc, take-take, length-take-le, get_or-take, get_or-drop}
use Rattle.loops.specs.Lists.{build}

module _ {A : Type 0} where
  -- one element more, as code counts
  pub drop_next : (d : A) (l : List A) (i : ℕ) → i < length l → drop i l ≡ get_or l i d ∷ drop (i + 1) l
  drop_next d l i h = rw (add-one i) (drop-cons l i d h)

  pub take_next : (d : A) (l : List A) (i : ℕ) → i < length l → take (i + 1) l ≡ take i l ++ (get_or l i d ∷ [])
  take_next d l i h = rw (add-one i) (take-suc l i d h)

  pub take_cons : (n : ℕ) (x : A) (l : List A) → take n (x ∷ take n l) ≡ take n (x ∷ l)
  take_cons zero x l = refl
  take_cons (suc n) x l = ap (λ (s : List A). x ∷ s) (take-take n (suc n) l (omega arith))

  -- the n elements from a on
  pub length_part : (a n : ℕ) (l : List A) → a + n ≤ length l → length (take n (drop a l)) ≡ n
  length_part a n l h = length-take-le n (drop a l) (omega (arith, length-drop a l))

  pub at_part : (d : A) (a n : ℕ) (l : List A) (k : ℕ) → k < n → get_or (take n (drop a l)) k d ≡ get_or l (a + k) d
  at_part d a n l k h = get_or-take n (drop a l) k d h ∙ get_or-drop a l k d

  -- the same as code lends it, `room[a..e]`
  pub lent_is : (a n e : ℕ) (l : List A) → e ≡ a + n → take (e - a) (drop a l) ≡ take n (drop a l)
  lent_is a n e l h = let g : e - a ≡ n = omega arith in ap (λ (k : ℕ). take k (drop a l)) g

  pub length_lent : (a n e : ℕ) (l : List A) → e ≡ a + n → e ≤ length l → length (take (e - a) (drop a l)) ≡ n
  length_lent a n e l h g = ap length (lent_is a n e l h) ∙ length_part a n l (omega arith)

-- ---- two lists side by side

module _ {A B C : Type 0} (f : A → B → C) where
  pub zip_at : (a : A) (b : B) (d : C) (xs : List A) (ys : List B) (k : ℕ) → k < length xs → k < length ys → get_or (zip_with f xs ys) k d ≡ f (get_or xs k a) (get_or ys k b)
  unfolding zip_with
  zip_at a b d [] ys k h g = absurd (not-suc-le-zero h)
  zip_at a b d (x ∷ xs) [] k h g = absurd (not-suc-le-zero g)
  zip_at a b d (x ∷ xs) (y ∷ ys) zero h g = refl
  zip_at a b d (x ∷ xs) (y ∷ ys) (suc k) h g = zip_at a b d xs ys k (le_of_suc-le-suc h) (le_of_suc-le-suc g)

  pub zip_long : (xs : List A) (ys : List B) (n : ℕ) → n ≤ length xs → n ≤ length ys → n ≤ length (zip_with f xs ys)
  unfolding zip_with
  zip_long xs ys zero h g = omega arith
  zip_long [] ys (suc n) h g = h
  zip_long (x ∷ xs) [] (suc n) h g = g
  zip_long (x ∷ xs) (y ∷ ys) (suc n) h g = let r = zip_long xs ys n (le_of_suc-le-suc h) (le_of_suc-le-suc g) in omega arith

  -- the first n, by index
  pub zip_build : (a : A) (b : B) (xs : List A) (ys : List B) (n : ℕ) → n ≤ length xs → n ≤ length ys → take n (zip_with f xs ys) ≡ build n (λ k. f (get_or xs k a) (get_or ys k b))
  unfolding zip_with build
  zip_build a b xs ys zero h g = refl
  zip_build a b [] ys (suc n) h g = absurd (not-suc-le-zero h)
  zip_build a b (x ∷ xs) [] (suc n) h g = absurd (not-suc-le-zero g)
  zip_build a b (x ∷ xs) (y ∷ ys) (suc n) h g = ap (λ (s : List C). f x y ∷ s) (zip_build a b xs ys n (le_of_suc-le-suc h) (le_of_suc-le-suc g))
