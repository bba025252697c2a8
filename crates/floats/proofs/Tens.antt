-- One product or quotient of two numbers that a format holds, the second a power of ten: the arms of `decimal`. One law over the
-- format.
use Rattle.std.proofs.Common.{◌≡◌, ℕ, zero, suc, ◌+◌, ◌-◌, ◌*◌, ◌^◌, ◌<◌, ◌≤◌, Bool, true, false, not, T, pos, sym, refl, ap, ◌∙◌, subst, true≢false, lt_of_lt_of_le, lt_of_le_of_lt, le_of_lt, mul_assoc, mul_comm, mul-pos, pow-suc, mul-one, arith, lit<, le→leb, pow_mono, pow-add, shl_lt, ne_eqb, le-leb}
use native.Mathlib.Nat.{mul-mul-mul_comm, pow-le-pow_right, one-le-pow}
use lib.Ieee.{Float, nan, inf, fin, Format, binary32, binary64, prec, emax, low, up, down, unlike, round, mul, div, neg, of_int, in_float}
use lib.Ieee.Fits.{down_pos}
use lib.Ieee.Exact.{HasValue, round_exact}
use lib.Ieee.Back.{round_whole}
use lib.Ieee.Scale.{round_same}
use borrow.Author.Tests.{lt-leb}
use Rattle.floats.specs.Decimal.{scaled, tens}
use Rattle.floats.proofs.Patterns.{value_nonzero}

-- ---- numbers that a format holds: whole ones below 2 ^ prec, and 10 ^ k = 5 ^ k * 2 ^ k up to k = tens, for which 5 ^ k is below 2 ^ prec
neg_value : (x : Float) (a c : ℕ) → HasValue x false a c → HasValue (neg x) true a c
unfolding neg
neg_value nan a c h = h
neg_value (inf s) a c h = h
neg_value (fin s m e) a c h = (ap not h.0, h.1)

module _ (f : Format) (m : ℕ) (h : m < 2 ^ prec f) where
  pub whole_in : T (in_float f (pos m))
  unfolding in_float
  whole_in = le→leb m (2 ^ prec f) (le_of_lt h)

  whole_value : HasValue (of_int f (pos m)) false m 1
  unfolding of_int
  whole_value = round_whole f false m (le_of_lt h)

  pub plus_value : (x : Float) → x ≡ of_int f (pos m) → HasValue x false m 1
  plus_value x e = subst (λ (y : Float). HasValue y false m 1) (sym e) whole_value

  pub minus_value : (x : Float) → x ≡ neg (of_int f (pos m)) → HasValue x true m 1
  minus_value x e = subst (λ (y : Float). HasValue y true m 1) (sym e) (neg_value (of_int f (pos m)) m 1 whole_value)

ten_is : (k : ℕ) → 10 ^ k ≡ 5 ^ k * 2 ^ k
ten_is zero = refl
ten_is (suc k) = pow-suc 10 k ∙ ap (λ (x : ℕ). x * 10) (ten_is k) ∙ mul-mul-mul_comm (5 ^ k) (2 ^ k) 5 2 ∙ ap (λ (x : ℕ). x * (2 ^ k * 2)) (sym (pow-suc 5 k)) ∙ ap (λ (x : ℕ). 5 ^ suc k * x) (sym (pow-suc 2 k))

-- where a format comes in: that 5 ^ k has at most its digits, and that 10 ^ k is below its largest
five_lt : (f : Format) (k : ℕ) → k ≤ tens f → 5 ^ k < 2 ^ prec f
five_lt binary32 k h = lt_of_le_of_lt (pow-le-pow_right (lit< tt) h) (lit< tt)
five_lt binary64 k h = lt_of_le_of_lt (pow-le-pow_right (lit< tt) h) (lit< tt)

ten_room : (f : Format) (k : ℕ) → k ≤ tens f → prec f + (k + low f) ≤ low f + suc (emax f)
ten_room binary32 k h = omega arith
ten_room binary64 k h = omega arith

ten_value : (f : Format) (k : ℕ) → k ≤ tens f → HasValue (of_int f (pos (10 ^ k))) false (10 ^ k) 1
unfolding of_int
ten_value f k h =
    round_exact f false (10 ^ k) 1 (5 ^ k) (k + low f) (lit< tt) (five_lt f k h)
    (lt_of_lt_of_le (shl_lt (prec f) (k + low f) (five_lt f k h)) (pow_mono (ten_room f k h)))
    (ap (λ (x : ℕ). x * 2 ^ low f) (ten_is k) ∙ mul_assoc (5 ^ k) (2 ^ k) (2 ^ low f) ∙ ap (λ (x : ℕ). 5 ^ k * x) (sym (pow-add 2 k (low f))) ∙ sym (mul-one (5 ^ k * 2 ^ (k + low f))))

-- ---- a product and a quotient, rounded once
alike : (t r s : Bool) → t ≡ s → r ≡ false → unlike t r ≡ s
alike t true s p q = absurd (true≢false q)
alike true false s p q = p
alike false false s p q = p

module _ (f : Format) (s : Bool) where
  product : (x y : Float) (a b : ℕ) → HasValue x s a 1 → HasValue y false b 1 → mul f x y ≡ round f s (a * b) 1
  unfolding mul
  product nan y a b h k = absurd h
  product (inf t) y a b h k = absurd h
  product (fin t m e) nan a b h k = absurd k
  product (fin t m e) (inf r) a b h k = absurd k
  product (fin t m e) (fin r n d) a b h k =
      let p : m * up e ≡ a * down e = sym (mul-one (m * up e)) ∙ h.1 in
      let q : n * up d ≡ b * down d = sym (mul-one (n * up d)) ∙ k.1 in
      ap (λ (z : Bool). round f z (m * up e * (n * up d)) (down e * down d)) (alike t r s h.0 k.0)
      ∙ round_same f s (m * up e * (n * up d)) (down e * down d) (a * b) 1 (mul-pos (down_pos e) (down_pos d)) (lit< tt)
      (mul-one (m * up e * (n * up d)) ∙ ap (λ (z : ℕ). z * (n * up d)) p ∙ ap (λ (z : ℕ). a * down e * z) q ∙ mul-mul-mul_comm a (down e) b (down d))

  quotient : (x y : Float) (a b : ℕ) → 0 < b → HasValue x s a 1 → HasValue y false b 1 → div f x y ≡ round f s a b
  unfolding div
  quotient nan y a b l h k = absurd h
  quotient (inf t) y a b l h k = absurd h
  quotient (fin t m e) nan a b l h k = absurd k
  quotient (fin t m e) (inf r) a b l h k = absurd k
  quotient (fin t m e) (fin r n d) a b l h k =
      let p : m * up e ≡ a * down e = sym (mul-one (m * up e)) ∙ h.1 in
      let q : n * up d ≡ b * down d = sym (mul-one (n * up d)) ∙ k.1 in
      simp (ne_eqb n 0 (value_nonzero false r n d b 1 l k))
      (ap (λ (z : Bool). round f z (m * up e * down d) (n * up d * down e)) (alike t r s h.0 k.0)
      ∙ round_same f s (m * up e * down d) (n * up d * down e) a b (mul-pos (subst (λ (z : ℕ). 0 < z) (sym q) (mul-pos l (down_pos d))) (down_pos e)) l
      (ap (λ (z : ℕ). z * down d * b) p
      ∙ mul_assoc (a * down e) (down d) b
      ∙ mul_assoc a (down e) (down d * b)
      ∙ ap (λ (z : ℕ). a * z) (ap (λ (z : ℕ). down e * z) (mul_comm (down d) b ∙ sym q) ∙ mul_comm (down e) (n * up d))))

-- ---- the words of `decimal`: x is ±m, and t the power of ten
module _ (f : Format) (s : Bool) (m u d : ℕ) (x t : Float) (h : HasValue x s m 1) where
  pub times_ten : d ≤ u → u ≤ d + tens f → t ≡ of_int f (pos (10 ^ (u - d))) → mul f x t ≡ scaled f s m u d
  unfolding scaled
  times_ten l g e = simp (le-leb d u l) (ap (λ (y : Float). mul f x y) e ∙ product f s x (of_int f (pos (10 ^ (u - d)))) m (10 ^ (u - d)) h (ten_value f (u - d) (go u d (tens f) g)))
    where
      go : (u d n : ℕ) → u ≤ d + n → u - d ≤ n
      go u d n g = omega arith

  pub over_ten : u < d → d ≤ u + tens f → t ≡ of_int f (pos (10 ^ (d - u))) → div f x t ≡ scaled f s m u d
  unfolding scaled
  over_ten l g e = simp (lt-leb d u l) (ap (λ (y : Float). div f x y) e ∙ quotient f s x (of_int f (pos (10 ^ (d - u)))) m (10 ^ (d - u)) (one-le-pow (d - u) 10 (lit< tt)) h (ten_value f (d - u) (go u d (tens f) g)))
    where
      go : (u d n : ℕ) → d ≤ u + n → d - u ≤ n
      go u d n g = omega arith
