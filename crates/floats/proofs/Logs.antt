-- The logarithm by the bit pattern of an f64, and the arms of `ln`.
use Rattle.std.proofs.Common.{◌≡◌, ℕ, suc, ◌+◌, ◌-◌, ◌*◌, ◌^◌, ◌<◌, ◌≤◌, min, Bool, true, false, cond, not, T, ltb, leb, ℤ, pos, negsuc, ◌-ℤ◌, sym, refl, ap, ◌∙◌, subst, true≢false, lt_of_lt_of_le, mul-le-mul_right, mul_assoc, mul_comm, le_antisymm, pos_of_ne-zero, mul-lt-mul_of_pos_right, zero-add, mul-one, mul_right_comm, div-one, arith, lit<, lit≤, ltb→lt, leb→le, nltb→le, pow_pos, pow-add, shl_lt, w32, SFits, to_z, of_z, le-ltb, ne_eqb}
use native.Mathlib.Nat.{mod-one, eq_of_mul-eq-mul_right}
use lib.Dec.{nleb→lt}
use lib.IntN.{sub_ℕ}
use lib.Signed.{mag}
use lib.Ieee.{Float, nan, inf, fin, binary64, up, down, minus, size, round, neg, fits, is_nan, nan_bits, to_bits, of_bits, of_int, div, hid, ones}
use lib.Ieee.Fits.{round-fits}
use lib.Ieee.Bits.{of_bits-to_bits}
use lib.Ieee.Exact.{HasValue}
use lib.Ieee.Nearest.{closest}
use lib.Ieee.Order.{drop}
use mir.ValLaws.{to_z_pos, to_z-of_z}
use Rattle.floats.specs.Operators.{◌+₆₄◌, ◌-₆₄◌, ◌*₆₄◌, ◌/₆₄◌, f64, zero₆₄, one₆₄, as_f64}
use Rattle.floats.specs.Ln.{chained, ln_sum, plus, ln_of}
use Rattle.floats.specs.Inner.{units_of, IsSplit}
use Rattle.floats.proofs.Sizes.{size_gt, size_exact, size_shift, drop_is}
use Rattle.floats.proofs.Closest.{closest-under}
use Rattle.floats.proofs.Rounding.{round_bits, round-no_nan}
use Rattle.floats.proofs.Patterns.{pattern-value, units-pos, value_nonzero, pattern_ok}
use Rattle.floats.proofs.Signs.{FromZero, of-bits}

-- ---- the words of `ln_sum`
abbrev pub ratio : Float → Float
ratio m = (m -₆₄ one₆₄) /₆₄ (m +₆₄ one₆₄)

pub sum_is : (m e h : Float) → h ≡ chained 17 1 (ratio m *₆₄ ratio m) → e *₆₄ f64 0x3fe6_2e42_fefa_39ef +₆₄ f64 0x4000_0000_0000_0000 *₆₄ ratio m *₆₄ h ≡ ln_sum m e
unfolding ln_sum of_bits of_int
sum_is m e h p = let s = (m -₆₄ as_f64 1) /₆₄ (m +₆₄ as_f64 1) in ap (λ (x : Float). e *₆₄ f64 0x3fe6_2e42_fefa_39ef +₆₄ as_f64 2 *₆₄ s *₆₄ x) p

-- ---- m / 2 ^ z with z + 1 digits in m, as an f64: its digits are q, and its exponent's field is that of 1
module _ (m q : ℕ) (l : 2 ^ 52 ≤ q) (u : q < 2 ^ 53) (e : m * 2 ^ 52 ≡ q * 2 ^ (size m - 1)) where
  abbrev one_to_two : Float
  one_to_two = round binary64 false m (2 ^ (size m - 1))

  wide : m * 2 ^ 1074 ≡ q * 2 ^ 1022 * 2 ^ (size m - 1)
  wide = ap (λ (x : ℕ). m * x) (pow-add 2 52 1022) ∙ sym (mul_assoc m (2 ^ 52) (2 ^ 1022)) ∙ ap (λ (x : ℕ). x * 2 ^ 1022) e ∙ mul_right_comm q (2 ^ (size m - 1)) (2 ^ 1022)

  dropped : drop 53 (m * 2 ^ 1074) (2 ^ (size m - 1)) ≡ 1022
  dropped =
      drop_is 53 (m * 2 ^ 1074) (2 ^ (size m - 1)) 1022 (lit< tt) (pow_pos (size m - 1))
      (subst (λ (x : ℕ). x < 2 ^ (53 + 1022) * 2 ^ (size m - 1)) (sym wide) (mul-lt-mul_of_pos_right (shl_lt 53 1022 u) (pow_pos (size m - 1))))
      (λ _. subst (λ (x : ℕ). 2 ^ (52 + 1022) * 2 ^ (size m - 1) ≤ x) (sym wide) (mul-le-mul_right (2 ^ (size m - 1)) (mul-le-mul_right (2 ^ 1022) l)))

  pattern : to_bits binary64 one_to_two ≡ q + 0x3fe0_0000_0000_0000
  pattern =
      round_bits binary64 false m (2 ^ (size m - 1)) 1022 q 1 (pow_pos (size m - 1)) (lit< tt) dropped (mul-one (m * 2 ^ 1074) ∙ wide ∙ mul_assoc q (2 ^ 1022) (2 ^ (size m - 1)) ∙ ap (λ (x : ℕ). q * x) (mul_comm (2 ^ 1022) (2 ^ (size m - 1))))
      ∙ zero-add (min (1022 * hid binary64 + closest q 1) (ones binary64 * hid binary64))
      ∙ ap (λ (x : ℕ). min (1022 * hid binary64 + x) (ones binary64 * hid binary64)) (closest-under q 1 (subst (λ (x : ℕ). x * 2 < 1) (sym (mod-one q)) (lit< tt)) ∙ div-one q)
      ∙ go q u
    where
      go : (q : ℕ) → q < 9007199254740992 → min (4602678819172646912 + q) 9218868437227405312 ≡ q + 4602678819172646912
      go q h = omega arith

  mantissa_is : of_bits binary64 (q + 0x3fe0_0000_0000_0000) ≡ one_to_two
  mantissa_is = ap (of_bits binary64) (sym pattern) ∙ of_bits-to_bits binary64 one_to_two (round-fits binary64 false m (2 ^ (size m - 1)))

  mantissa_ok : T (not (nan_bits binary64 (q + 0x3fe0_0000_0000_0000)))
  mantissa_ok = pattern_ok binary64 (q + 0x3fe0_0000_0000_0000) one_to_two mantissa_is (round-no_nan binary64 false m (2 ^ (size m - 1)))

-- ---- from q * 2 ^ x = m * 2 ^ y, for a q of 53 digits
module _ (m q x y : ℕ) (M : 0 < m) (l : 2 ^ 52 ≤ q) (u : q < 2 ^ 53) (e : q * 2 ^ x ≡ m * 2 ^ y) where
  equal_sizes : 53 + x ≡ size m + y
  equal_sizes = ap (λ (z : ℕ). z + x) (sym (size_exact 52 q l u)) ∙ sym (size_shift q x (lt_of_lt_of_le (lit< tt) l)) ∙ ap size e ∙ size_shift m y M

  equal_digits : m * 2 ^ 52 ≡ q * 2 ^ (size m - 1)
  equal_digits =
      sym (eq_of_mul-eq-mul_right (2 ^ y) (pow_pos y) (q * 2 ^ (size m - 1)) (m * 2 ^ 52)
      (mul_assoc q (2 ^ (size m - 1)) (2 ^ y)
      ∙ ap (λ (z : ℕ). q * z) (sym (pow-add 2 (size m - 1) y) ∙ ap (λ (z : ℕ). 2 ^ z) (sums (size m) x y (size_gt m 0 M) equal_sizes) ∙ pow-add 2 x 52)
      ∙ sym (mul_assoc q (2 ^ x) (2 ^ 52))
      ∙ ap (λ (z : ℕ). z * 2 ^ 52) e
      ∙ mul_right_comm m (2 ^ y) (2 ^ 52)))
    where
      sums : (s x y : ℕ) → 0 < s → 53 + x ≡ s + y → s - 1 + y ≡ x + 52
      sums s x y h e = omega arith

-- ---- The value m * 2 ^ d is q * 2 ^ e / 2 ^ 1200, and q has 53 digits. What that says of the digits and of the exponents, by d's sign.
record Matches (m : ℕ) (d : ℤ) (q e : ℕ) : Type 0 where
  digits_are : m * 2 ^ 52 ≡ q * 2 ^ (size m - 1)
  exponent_is : plus d (size m - 1) ≡ sub_ℕ e 1148

-- both are z - k, as e and 1148 are moved by the same number
same-difference : (z k e : ℕ) → e + k ≡ z + 1148 → minus z k ≡ sub_ℕ e 1148
same-difference z k e h = go (leb k z) (ltb e 1148) (leb→le k z) (nleb→lt k z) (ltb→lt e 1148) (nltb→le e 1148)
  where
    go : (s t : Bool) → (T s → k ≤ z) → (T (not s) → z < k) → (T t → e < 1148) → (T (not t) → 1148 ≤ e)
        → cond s (pos (z - k)) (negsuc (k - suc z)) ≡ cond t (negsuc (1148 - suc e)) (pos (e - 1148))
    go true true a b c d = absurd (no z k e h (a tt) (c tt))
      where
        no : (z k e : ℕ) → e + k ≡ z + 1148 → k ≤ z → e < 1148 → ⊥
        no z k e h a c = omega arith
    go true false a b c d = ap pos (eq z k e h (a tt) (d tt))
      where
        eq : (z k e : ℕ) → e + k ≡ z + 1148 → k ≤ z → 1148 ≤ e → z - k ≡ e - 1148
        eq z k e h a d = omega arith
    go false true a b c d = ap negsuc (eq z k e h (b tt) (c tt))
      where
        eq : (z k e : ℕ) → e + k ≡ z + 1148 → z < k → e < 1148 → k - suc z ≡ 1148 - suc e
        eq z k e h b c = omega arith
    go false false a b c d = absurd (no z k e h (b tt) (d tt))
      where
        no : (z k e : ℕ) → e + k ≡ z + 1148 → z < k → 1148 ≤ e → ⊥
        no z k e h b d = omega arith

matches : (m : ℕ) (d : ℤ) (a q e : ℕ) → 0 < m → m * up d * 2 ^ 1074 ≡ a * down d → q * 2 ^ e ≡ a * 2 ^ 126 → 2 ^ 52 ≤ q → q < 2 ^ 53 → Matches m d q e
matches m (pos k) a q e M v w l u =
    let p : q * 2 ^ e ≡ m * 2 ^ (k + 1200) = w ∙ ap (λ (x : ℕ). x * 2 ^ 126) (sym (mul-one a) ∙ sym v) ∙ powers in
    let z : 53 + e ≡ size m + (k + 1200) = equal_sizes m q e (k + 1200) M l u p in
    record {
      digits_are = equal_digits m q e (k + 1200) M l u p;
      exponent_is = ap pos (sums (size m) e k (size_gt m 0 M) z) ∙ sym (ap (λ (t : Bool). cond t (negsuc (1148 - suc e)) (pos (e - 1148))) (le-ltb e 1148 (big (size m) e k (size_gt m 0 M) z)));
    }
  where
    powers : m * 2 ^ k * 2 ^ 1074 * 2 ^ 126 ≡ m * 2 ^ (k + 1200)
    powers = mul_assoc (m * 2 ^ k) (2 ^ 1074) (2 ^ 126) ∙ mul_assoc m (2 ^ k) (2 ^ 1074 * 2 ^ 126) ∙ ap (λ (x : ℕ). m * x) (sym (pow-add 2 k 1200))

    sums : (s e k : ℕ) → 0 < s → 53 + e ≡ s + (k + 1200) → k + (s - 1) ≡ e - 1148
    sums s e k h p = omega arith

    big : (s e k : ℕ) → 0 < s → 53 + e ≡ s + (k + 1200) → 1148 ≤ e
    big s e k h p = omega arith
matches m (negsuc k) a q e M v w l u =
    let p : q * 2 ^ (e + suc k) ≡ m * 2 ^ 1200 =
    ap (λ (x : ℕ). q * x) (pow-add 2 e (suc k))
    ∙ sym (mul_assoc q (2 ^ e) (2 ^ suc k))
    ∙ ap (λ (x : ℕ). x * 2 ^ suc k) w
    ∙ mul_right_comm a (2 ^ 126) (2 ^ suc k)
    ∙ ap (λ (x : ℕ). x * 2 ^ 126) (sym v)
    ∙ ap (λ (x : ℕ). x * 2 ^ 1074 * 2 ^ 126) (mul-one m)
    ∙ mul_assoc m (2 ^ 1074) (2 ^ 126) in
    record {
      digits_are = equal_digits m q (e + suc k) 1200 M l u p;
      exponent_is = same-difference (size m - 1) (suc k) e (sums (size m) e k (size_gt m 0 M) (equal_sizes m q (e + suc k) 1200 M l u p));
    }
  where
    sums : (s e k : ℕ) → 0 < s → 53 + (e + suc k) ≡ s + 1200 → e + suc k ≡ s - 1 + 1148
    sums s e k h p = omega arith

-- ---- the logarithm of a value above zero
pub record LnAt (x : Float) (q e : ℕ) : Type 0 where
  pub value : ln_of x ≡ ln_sum (of_bits binary64 (q + 0x3fe0_0000_0000_0000)) (of_int binary64 (sub_ℕ e 1148))
  pub no_nan : T (not (nan_bits binary64 (q + 0x3fe0_0000_0000_0000)))

ln_fin : (m : ℕ) (d : ℤ) → (m ≡ 0 → ⊥) → ln_of (fin false m d) ≡ ln_sum (round binary64 false m (2 ^ (size m - 1))) (of_int binary64 (plus d (size m - 1)))
unfolding ln_of
ln_fin m d h = ap (λ (b : Bool). cond b (inf true) (ln_sum (round binary64 false m (2 ^ (size m - 1))) (of_int binary64 (plus d (size m - 1))))) (ne_eqb m 0 h)

ln_at : (x : Float) (a q e : ℕ) → 0 < a → HasValue x false a (2 ^ 1074) → q * 2 ^ e ≡ a * 2 ^ 126 → 2 ^ 52 ≤ q → q < 2 ^ 53 → LnAt x q e
ln_at nan a q e p h w l u = absurd h
ln_at (inf t) a q e p h w l u = absurd h
ln_at (fin true m d) a q e p h w l u = absurd (true≢false h.0)
ln_at (fin false m d) a q e p h w l u = record {
  value =
      ln_fin m d nonzero
      ∙ ap (λ (x : Float). ln_sum x (of_int binary64 (plus d (size m - 1)))) (sym (mantissa_is m q l u both.digits_are))
      ∙ ap (λ (z : ℤ). ln_sum (of_bits binary64 (q + 0x3fe0_0000_0000_0000)) (of_int binary64 z)) both.exponent_is;
  no_nan = mantissa_ok m q l u both.digits_are;
}
  where
    nonzero : m ≡ 0 → ⊥
    nonzero = value_nonzero false false m d a (2 ^ 1074) p h

    both : Matches m d q e
    both = matches m d a q e (pos_of_ne-zero nonzero) h.1 w l u

-- ---- the words of `ln_bits`
pub ln_pattern : (a q e : ℕ) → 0 < a → a < 0x7ff0_0000_0000_0000 → IsSplit a q e → LnAt (of_bits binary64 a) q e
ln_pattern a q e p A s =
    subst (λ (x : ℕ). LnAt (of_bits binary64 x) q e) (zero-add a)
    (ln_at (of_bits binary64 (0 + a)) (units_of binary64 a) q e (units-pos binary64 a p) (pattern-value binary64 false a A) s.value s.full s.top)

module _ (e : ℕ) (h : e < 2172) where
  small : mag (sub_ℕ e 1148) < 2 ^ 31
  small = go (ltb e 1148)
    where
      a : (e : ℕ) → e < 2172 → 1148 - suc e < 2147483648
      a e h = omega arith

      b : (e : ℕ) → e < 2172 → e - 1148 < 2147483648
      b e h = omega arith

      go : (t : Bool) → mag (cond t (negsuc (1148 - suc e)) (pos (e - 1148))) < 2 ^ 31
      go true = a e h
      go false = b e h

  read : to_z w32 e ≡ pos e
  read = to_z_pos w32 e (lt_of_lt_of_le h (lit≤ tt))

  pub exponent_fits : SFits w32 (to_z w32 e -ℤ pos 1148)
  exponent_fits = subst (λ (z : ℤ). SFits w32 (z -ℤ pos 1148)) (sym read) (record { sfits = small })

  pub exponent_read : to_z w32 (of_z w32 (to_z w32 e -ℤ pos 1148)) ≡ sub_ℕ e 1148
  exponent_read = to_z-of_z w32 (to_z w32 e -ℤ pos 1148) exponent_fits ∙ ap (λ (z : ℤ). z -ℤ pos 1148) read

-- ---- the words of `ln`
pub ln_from-zero : FromZero ln_of
unfolding ln_of
ln_from-zero = record { at_nan = refl; at_inf = refl; at_minus_inf = refl; at_minus = λ (m : ℕ) (e : ℤ) (h : m ≡ 0 → ⊥). ap (λ (b : Bool). cond b (inf true) nan) (ne_eqb m 0 h) }

abbrev pub minus-inf : Float
minus-inf = neg one₆₄ /₆₄ zero₆₄

ln_minus-zero : ln_of (f64 0x8000_0000_0000_0000) ≡ minus-inf
unfolding ln_of of_bits div neg
ln_minus-zero = refl

ln_zero : ln_of zero₆₄ ≡ minus-inf
unfolding ln_of of_bits div neg
ln_zero = refl

module _ (x : Float) (held : T (fits binary64 x)) (n : is_nan x ≡ false) where
  pub of_minus_zero : 0x8000_0000_0000_0000 ≤ to_bits binary64 x → to_bits binary64 x ≤ 0x8000_0000_0000_0000 → minus-inf ≡ ln_of x
  of_minus_zero l u = of-bits ln_of ln_from-zero x held n 0x8000_0000_0000_0000 minus-inf (le_antisymm u l) ln_minus-zero

  pub of_zero : to_bits binary64 x ≡ 0 → minus-inf ≡ ln_of x
  of_zero e = of-bits ln_of ln_from-zero x held n 0 minus-inf e ln_zero
