-- Numbers cut into frames: the first frame and what is left behind it, as code goes through them.
use mathlib.Core.Path.{◌≡◌, sym, ap, ◌∙◌}
use mathlib.Core.List.{List, [], ◌∷◌, ◌++◌}
use Prim.Native.Nat.{ℕ, suc, ◌+◌, ◌-◌, ◌*◌, ◌/◌, ◌≤◌, ◌<◌, min}
use native.Mathlib.Nat.{div-eq_of_lt, div-eq-sub-div, suc-mul, zero-mul, add_comm}
use native.Mathlib.Omega.{arith}
use native.Mathlib.Decide.{dec_le}
use lib.ListN.{length, take, drop, length-drop, drop_of_length-le}
use lib.Seq.{take_all, drop-drop, take-append_seam, drop-append_seam}
use Rattle.loops.specs.Lists.{build}
use Rattle.loops.proofs.Build.{build_ext}
use Rattle.rounds.specs.Round.{cut}

module _ {A : Type 0} (n : ℕ) (some : 0 < n) where
  -- no numbers make no frame
  pub cut_none : (xs : List A) → length xs ≡ 0 → cut n xs ≡ []
  unfolding cut build
  cut_none xs e = let q : (length xs + (n - 1)) / n ≡ 0 = div-eq_of_lt (omega arith) in ap (λ (k : ℕ). build k (λ i. take n (drop (i * n) xs))) q

  -- one frame more than what is left behind it makes
  one_more : (xs : List A) → 0 < length xs → (length xs + (n - 1)) / n ≡ suc ((length (drop n xs) + (n - 1)) / n)
  one_more xs h =
      let first : (length xs + (n - 1)) / n ≡ (length xs + (n - 1) - n) / n + 1 = div-eq-sub-div some (omega arith) in
      first ∙ ap (λ (k : ℕ). k + 1) (rest (dec_le (length xs) n)) ∙ omega arith
    where
      rest : Dec (length xs ≤ n) → (length xs + (n - 1) - n) / n ≡ (length (drop n xs) + (n - 1)) / n
      rest (yes l) =
          let a : (length xs + (n - 1) - n) / n ≡ 0 = div-eq_of_lt (omega arith) in
          let b : (length (drop n xs) + (n - 1)) / n ≡ 0 = div-eq_of_lt (omega (arith, length-drop n xs)) in
          a ∙ sym b
      rest (no l) =
          let e : length xs + (n - 1) - n ≡ length (drop n xs) + (n - 1) = omega (arith, length-drop n xs) in
          ap (λ (k : ℕ). k / n) e

  cut_next : (xs : List A) → 0 < length xs → cut n xs ≡ take n xs ∷ cut n (drop n xs)
  unfolding cut build
  cut_next xs h =
      let m = (length (drop n xs) + (n - 1)) / n in
      let first : take n (drop (0 * n) xs) ≡ take n xs = ap (λ (k : ℕ). take n (drop k xs)) (zero-mul n) in
      let later : (k : ℕ) → take n (drop (suc k * n) xs) ≡ take n (drop (k * n) (drop n xs)) =
      λ k. ap (λ (j : ℕ). take n (drop j xs)) (suc-mul k n ∙ add_comm (k * n) n) ∙ ap (take n) (sym (drop-drop (k * n) n xs)) in
      let rest : build m (λ k. take n (drop (suc k * n) xs)) ≡ build m (λ k. take n (drop (k * n) (drop n xs))) = build_ext m _ _ (λ k p. later k) in
      ap (λ (k : ℕ). build k (λ i. take n (drop (i * n) xs))) (one_more xs h)
      ∙ ap (λ (x : List A). x ∷ build m (λ k. take n (drop (suc k * n) xs))) first
      ∙ ap (λ (ys : List (List A)). take n xs ∷ ys) rest

-- ---- the front of a list as code is lent it: n numbers, or what is left
module _ {A : Type 0} (n : ℕ) (some : 0 < n) (l x y : List A) (l-is : l ≡ x ++ y) (long : length x ≡ min n (length l)) where
  front_is : x ≡ take n l
  front_is = sym (take-append_seam x y) ∙ ap (take (length x)) (sym l-is) ∙ go (dec_le n (length l))
    where
      go : Dec (n ≤ length l) → take (length x) l ≡ take n l
      go (yes h) = let g : length x ≡ n = omega (arith, long) in ap (λ (k : ℕ). take k l) g
      go (no h) = take_all (length x) l (omega (arith, long)) ∙ sym (take_all n l (omega arith))

  left_is : y ≡ drop n l
  left_is = sym (drop-append_seam x y) ∙ ap (drop (length x)) (sym l-is) ∙ go (dec_le n (length l))
    where
      go : Dec (n ≤ length l) → drop (length x) l ≡ drop n l
      go (yes h) = let g : length x ≡ n = omega (arith, long) in ap (λ (k : ℕ). drop k l) g
      go (no h) =
          let past : length l ≤ length x = omega (arith, long) in
          let over : length l ≤ n = omega arith in
          drop_of_length-le l past ∙ sym (drop_of_length-le l over)

  pub cut_front : 0 < length l → cut n l ≡ x ∷ cut n y
  cut_front h = cut_next n some l h ∙ ap (λ (z : List A). z ∷ cut n (drop n l)) (sym front_is) ∙ ap (λ (z : List A). x ∷ cut n z) (sym left_is)
