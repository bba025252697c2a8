-- Laws of a list made by index.
use mathlib.Core.Path.{◌≡◌, refl, sym, ap, ◌∙◌}
use mathlib.Core.List.{List, [], ◌∷◌, ◌++◌, map}
use Prim.Native.Nat.{ℕ, zero, suc, ◌+◌, ◌-◌, ◌≤◌, ◌<◌}
use native.Mathlib.Nat.{not-suc-le-zero, le_of_suc-le-suc, zero-add, suc-add}
use native.Mathlib.Omega.{arith}
use lib.ListN.{length, get_or, take, drop, replicate, length-drop, get_or-eq_default}
use lib.Seq.{take_at, take-length, drop_at, get_or-drop, ext_get_or}
use Rattle.loops.specs.Lists.{build}

module _ {A : Type 0} where
  pub length_build : (n : ℕ) (f : ℕ → A) → length (build n f) ≡ n
  unfolding build
  length_build zero f = refl
  length_build (suc n) f = ap suc (length_build n (λ k. f (suc k)))

  pub at_build : (d : A) (n : ℕ) (f : ℕ → A) (k : ℕ) → k < n → get_or (build n f) k d ≡ f k
  unfolding build
  at_build d zero f k l = absurd (not-suc-le-zero l)
  at_build d (suc n) f zero l = refl
  at_build d (suc n) f (suc k) l = at_build d n (λ i. f (suc i)) k (le_of_suc-le-suc l)

  pub past_build : (d : A) (n : ℕ) (f : ℕ → A) (k : ℕ) → n ≤ k → get_or (build n f) k d ≡ d
  past_build d n f k l = get_or-eq_default (build n f) d (omega (arith, length_build n f))

  pub build_snoc : (n : ℕ) (f : ℕ → A) → build (suc n) f ≡ build n f ++ (f n ∷ [])
  unfolding build
  build_snoc zero f = refl
  build_snoc (suc n) f = ap (λ (s : List A). f 0 ∷ s) (build_snoc n (λ k. f (suc k)))

  pub build_ext : (n : ℕ) (f g : ℕ → A) → ((k : ℕ) → k < n → f k ≡ g k) → build n f ≡ build n g
  unfolding build
  build_ext zero f g h = refl
  build_ext (suc n) f g h = rw (h 0 (omega arith), build_ext n (λ k. f (suc k)) (λ k. g (suc k)) (λ k l. h (suc k) (omega arith)))

  -- a list, told by its length and its elements
  pub build_is : (d : A) (n : ℕ) (f : ℕ → A) (l : List A) → length l ≡ n → ((k : ℕ) → k < n → get_or l k d ≡ f k) → l ≡ build n f
  build_is d n f l e h =
      ext_get_or d l (build n f) (e ∙ sym (length_build n f)) (λ k p. let q : k < n = omega arith in h k q ∙ sym (at_build d n f k q))

  pub build_add : (a n : ℕ) (f : ℕ → A) → build (a + n) f ≡ build a f ++ build n (λ k. f (a + k))
  unfolding build
  build_add zero n f = simp zero-add
  build_add (suc a) n f = simp suc-add (ap (λ (s : List A). f 0 ∷ s) (build_add a n (λ k. f (suc k))))

  pub take_build : (m n : ℕ) (f : ℕ → A) → m ≤ n → take m (build n f) ≡ build m f
  take_build m n f h =
      let e : n ≡ m + (n - m) = omega arith in
      ap (λ (k : ℕ). take m (build k f)) e ∙ ap (take m) (build_add m (n - m) f) ∙ take_at (build m f) _ m (length_build m f)

  pub drop_build : (m n : ℕ) (f : ℕ → A) → m ≤ n → drop m (build n f) ≡ build (n - m) (λ k. f (m + k))
  drop_build m n f h =
      let e : n ≡ m + (n - m) = omega arith in
      ap (λ (k : ℕ). drop m (build k f)) e ∙ ap (drop m) (build_add m (n - m) f) ∙ drop_at (build m f) _ m (length_build m f)

  -- the first n elements of a list, those from a on, and all of them
  pub build_take : (d : A) (n : ℕ) (l : List A) → n ≤ length l → build n (λ k. get_or l k d) ≡ take n l
  unfolding build
  build_take d zero l h = refl
  build_take d (suc n) [] h = absurd (not-suc-le-zero h)
  build_take d (suc n) (x ∷ l) h = ap (λ (s : List A). x ∷ s) (build_take d n l (le_of_suc-le-suc h))

  pub build_part : (d : A) (a n : ℕ) (l : List A) → a + n ≤ length l → build n (λ k. get_or l (a + k) d) ≡ take n (drop a l)
  build_part d a n l h =
      build_ext n _ _ (λ k p. sym (get_or-drop a l k d)) ∙ build_take d n (drop a l) (omega (arith, length-drop a l))

  pub build_list : (d : A) (l : List A) → build (length l) (λ k. get_or l k d) ≡ l
  build_list d l = build_take d (length l) l (omega arith) ∙ take-length l

  pub build_same : (n : ℕ) (a : A) → build n (λ k. a) ≡ replicate n a
  unfolding build
  build_same zero a = refl
  build_same (suc n) a = ap (λ (s : List A). a ∷ s) (build_same n a)

pub map-build : {A B : Type 0} (h : A → B) (n : ℕ) (f : ℕ → A) → map h (build n f) ≡ build n (λ k. h (f k))
unfolding build
map-build h zero f = refl
map-build {B = B} h (suc n) f = ap (λ (s : List B). h (f 0) ∷ s) (map-build h n (λ k. f (suc k)))
