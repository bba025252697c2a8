-- The files are their pieces, one after the other; blocks that come apart again.
use mathlib.Core.Path.{◌≡◌, refl, sym, ap, ◌∙◌}
use mathlib.Core.Bool.{Bool, true, ◌&&◌}
use mathlib.Core.List.{List, ◌++◌, append_assoc}
use Prim.Native.Nat.{ℕ, zero, suc, ◌+◌, ◌*◌, ◌<◌, ◌^◌}
use native.Mathlib.Nat.{zero-mul, suc-mul}
use native.Mathlib.Omega.{arith}
use lib.ListN.{length, take, drop, length-take, length-drop}
use lib.Seq.{take-add, take_all}
use lib.Ieee.{Float, nan, Format, binary32, binary64, fits}
use Rattle.std.proofs.lemmas.List.Folds.{list_all-append}
use Rattle.loops.specs.Lists.{flat, build, all_of}
use Rattle.loops.proofs.Flat.{flat_snoc}
use Rattle.loops.proofs.Tests.{each_at, at_each}
use Rattle.loops.proofs.Parts.{length_part, at_part}
use Rattle.loops.proofs.Cells.{row_in_lem}
use Rattle.writer.specs.Written.{low_bytes, numbers_bytes, size_bytes, line_bytes, table_bytes, Params, part, gmm_bytes, extractor_bytes, lda_bytes}
use Rattle.writer.specs.Pieces.{lda_head, gmm_pieces, extractor_pieces}
use Rattle.writer.proofs.Encoding.{past, numbers_apart, size-apart}

module _ (p : Params) where
  abbrev g : ℕ
  g = p.sizes.num_gauss

  abbrev e : ℕ
  e = p.sizes.ext_gauss

  abbrev d : ℕ
  d = p.sizes.feat_dim

  abbrev s : ℕ
  s = p.sizes.ivector_dim

  pub gmm_is : (f : Format)
      → gmm_bytes f p
      ≡ gmm_pieces f g d p.weights p.means_invvars p.inv_vars
  unfolding gmm_bytes numbers_bytes low_bytes
  gmm_is binary32 = simp append_assoc
  gmm_is binary64 = simp append_assoc

  pub extractor_is : (f : Format)
      → extractor_bytes f p
      ≡ extractor_pieces f e d s p.m p.sigma_inv p.prior_offset
  unfolding extractor_bytes numbers_bytes low_bytes
  extractor_is binary32 = simp append_assoc
  extractor_is binary64 = simp append_assoc

  pub lda_is : (f : Format) → lda_bytes f p ≡ table_bytes f (lda_head f) d p.sizes.lda_cols p.lda
  unfolding lda_bytes
  lda_is binary32 = refl
  lda_is binary64 = refl

-- ---- parts of a list, one after the other

pub parts_front : (w n : ℕ) (xs : List Float) → flat n (λ i. part w i xs) ≡ take (n * w) xs
unfolding flat
parts_front w zero xs = rw (zero-mul w)
parts_front w (suc n) xs =
    flat_snoc n (λ i. part w i xs) ∙ ap (λ (l : List Float). l ++ part w n xs) (parts_front w n xs) ∙ sym (take-add (n * w) w xs)
    ∙ ap (λ (k : ℕ). take k xs) (sym (suc-mul n w))

pub parts_whole : (w n : ℕ) (xs : List Float) → length xs ≡ n * w → flat n (λ i. part w i xs) ≡ xs
parts_whole w n xs l = parts_front w n xs ∙ take_all (n * w) xs (omega arith)

-- what holds of all of a list holds of a part
pub fit-part : (t : Float → Bool) (w i : ℕ) (xs : List Float) → all_of t xs ≡ true → all_of t (part w i xs) ≡ true
fit-part t w i xs h =
    at_each t nan (part w i xs) (λ k l. let a : k < w = omega (arith, length-take w (drop (i * w) xs)) in
    ap t (at_part nan (i * w) w xs k a) ∙ each_at t nan xs (i * w + k) h (omega (arith, length-take w (drop (i * w) xs), length-drop (i * w) xs)))

-- a test of all of a list, part by part
all_flat : (T : Float → Bool) (n : ℕ) (X : ℕ → List Float) → all_of (λ (b : Bool). b) (build n (λ i. all_of T (X i))) ≡ all_of T (flat n X)
unfolding all_of build flat
all_flat T zero X = refl
all_flat T (suc n) X = ap (λ (b : Bool). all_of T (X 0) && b) (all_flat T n (λ k. X (suc k))) ∙ sym (list_all-append T (X 0) (flat n (λ k. X (suc k))))

pub all_parts : (T : Float → Bool) (w n : ℕ) (xs : List Float) → length xs ≡ n * w → all_of (λ (b : Bool). b) (build n (λ i. all_of T (part w i xs))) ≡ all_of T xs
all_parts T w n xs l = all_flat T n (λ i. part w i xs) ∙ ap (all_of T) (parts_whole w n xs l)

pub long-part : (w n i : ℕ) (xs : List Float) → length xs ≡ n * w → i < n → length (part w i xs) ≡ w
long-part w n i xs l h = length_part (i * w) w xs (row_in_lem i n w (length xs) (omega arith) h)

-- ---- blocks that come apart

-- a size below 2 ^ 32, and a list of floats of the width
abbrev pub Small : ℕ → Type 0
Small n = n < 2 ^ 32

abbrev pub Fit : Format → List Float → Type 0
Fit f xs = all_of (fits f) xs ≡ true

module _ (f : Format) (head : List ℕ) where
  pub line_apart : (n m : ℕ) (xs ys : List Float) (s t : List ℕ) → Small n → Small m → (n ≡ m → length xs ≡ length ys) → Fit f xs → Fit f ys
      → line_bytes f head n xs ++ s ≡ line_bytes f head m ys ++ t → (n ≡ m) × (xs ≡ ys) × (s ≡ t)
  line_apart n m xs ys s t p q l a b e =
      let x : List ℕ = numbers_bytes f xs ++ s in
      let y : List ℕ = numbers_bytes f ys ++ t in
      let o : head ++ (size_bytes n ++ x) ≡ head ++ (size_bytes m ++ y) = simp append_assoc at e in
      let k = size-apart n m x y p q (past head (size_bytes n ++ x) (size_bytes m ++ y) o) in
      let h = numbers_apart f xs ys s t (l k.0) a b k.1 in
      (k.0, h.0, h.1)

  pub table_apart : (n m r c : ℕ) (xs ys : List Float) (s t : List ℕ) → Small n → Small m → Small r → Small c → (n ≡ r → m ≡ c → length xs ≡ length ys) → Fit f xs → Fit f ys
      → table_bytes f head n m xs ++ s ≡ table_bytes f head r c ys ++ t → (n ≡ r) × (m ≡ c) × (xs ≡ ys) × (s ≡ t)
  table_apart n m r c xs ys s t p q p' q' l a b e =
      let x : List ℕ = numbers_bytes f xs ++ s in
      let y : List ℕ = numbers_bytes f ys ++ t in
      let o : head ++ (size_bytes n ++ (size_bytes m ++ x)) ≡ head ++ (size_bytes r ++ (size_bytes c ++ y)) = simp append_assoc at e in
      let k = size-apart n r (size_bytes m ++ x) (size_bytes c ++ y) p p' (past head (size_bytes n ++ (size_bytes m ++ x)) (size_bytes r ++ (size_bytes c ++ y)) o) in
      let j = size-apart m c x y q q' k.1 in
      let h = numbers_apart f xs ys s t (l k.0 j.0) a b j.1 in
      (k.0, j.0, h.0, h.1)
