-- An f64 rounded to an f32, by its bit pattern.
use Rattle.std.proofs.Common.{◌≡◌, ℕ, ◌+◌, ◌-◌, ◌*◌, ◌/◌, ◌%◌, ◌^◌, ◌<◌, ◌≤◌, min, Bool, true, false, cond, not, T, sym, refl, ap, ◌∙◌, subst, inl, inr, le_trans, le_of_eq, lt_of_lt_of_le, mul-le-mul_right, mul_assoc, add-sub_of_le, eq-or-lt_of_le, zero-add, arith, lit<, lit≤, pow_pos, pow_mono, pow-add, shl_lt}
use lib.Ieee.{Float, nan, inf, fin, binary32, binary64, up, down, low, round, div, ne, is_nan, hid, ones, top, to_bits, of_bits, nan_bits, fits}
use lib.Ieee.Fits.{round-fits, nan-fits, inf-fits, down_pos}
use lib.Ieee.Bits.{of_bits-to_bits}
use lib.Ieee.Exact.{HasValue}
use lib.Ieee.Nearest.{closest}
use lib.Ieee.Order.{drop}
use lib.Ieee.Scale.{round_same}
use Rattle.floats.specs.Narrow.{narrowed}
use Rattle.floats.specs.Inner.{digits, units_of, mag_bits}
use Rattle.floats.proofs.Sizes.{drop_is}
use Rattle.floats.proofs.Closest.{closest-le, closest_ge, closest-none}
use Rattle.floats.proofs.Rounding.{round_bits, round-no_nan}
use Rattle.floats.proofs.Patterns.{pattern-value, digits_normal, digits_lt, digits_ge, is_nan_lem, pattern_ok, plus_le, minus_le}

-- ---- by any fraction that the value equals
narrowed_at : (x : Float) (s : Bool) (a c : ℕ) → 0 < c → HasValue x s a c → narrowed x ≡ round binary32 s a c
unfolding narrowed
narrowed_at nan s a c C h = absurd h
narrowed_at (inf t) s a c C h = absurd h
narrowed_at (fin t m e) s a c C h = ap (λ (b : Bool). round binary32 b (m * up e) (down e)) h.0 ∙ round_same binary32 s (m * up e) (down e) a c (down_pos e) C h.1

-- ---- q * 2 ^ k of the smallest values 2 ^ -hi, q having w digits, in a format of p digits whose smallest value is 2 ^ -lo: k - d digits are dropped
module _ (p w lo hi d k q : ℕ) (e : d + w + lo ≡ hi + p) where
  together : q * 2 ^ k * 2 ^ lo ≡ q * 2 ^ (k + lo)
  together = mul_assoc q (2 ^ k) (2 ^ lo) ∙ ap (λ (x : ℕ). q * x) (sym (pow-add 2 k lo))

  dropped : 0 < p → 0 < w → q < 2 ^ w → (0 < k - d → 2 ^ (w - 1) ≤ q) → drop p (q * 2 ^ k * 2 ^ lo) (2 ^ hi) ≡ k - d
  dropped P W l g = drop_is p (q * 2 ^ k * 2 ^ lo) (2 ^ hi) (k - d) P (pow_pos hi) most least
    where
      up_to : (p w lo hi d k : ℕ) → d + w + lo ≡ hi + p → w + (k + lo) ≤ p + (k - d) + hi
      up_to p w lo hi d k e = omega arith

      down_to : (p w lo hi d k : ℕ) → 0 < p → 0 < w → d + w + lo ≡ hi + p → 0 < k - d → p - 1 + (k - d) + hi ≤ w - 1 + (k + lo)
      down_to p w lo hi d k P W e h = omega arith

      most : q * 2 ^ k * 2 ^ lo < 2 ^ (p + (k - d)) * 2 ^ hi
      most = subst (λ (x : ℕ). x < 2 ^ (p + (k - d)) * 2 ^ hi) (sym together) (lt_of_lt_of_le (shl_lt w (k + lo) l) (le_trans (pow_mono (up_to p w lo hi d k e)) (le_of_eq (pow-add 2 (p + (k - d)) hi))))

      least : 0 < k - d → 2 ^ (p - 1 + (k - d)) * 2 ^ hi ≤ q * 2 ^ k * 2 ^ lo
      least h =
          le_trans (le_of_eq (sym (pow-add 2 (p - 1 + (k - d)) hi)))
          (le_trans (pow_mono (down_to p w lo hi d k P W e h))
          (le_trans (le_of_eq (pow-add 2 (w - 1) (k + lo)))
          (le_trans (mul-le-mul_right (2 ^ (k + lo)) (g h)) (le_of_eq (sym together)))))

  moved : p ≤ w → q * 2 ^ k * 2 ^ lo * 2 ^ (w - p + (d - k)) ≡ q * (2 ^ hi * 2 ^ (k - d))
  moved h =
      ap (λ (x : ℕ). x * 2 ^ (w - p + (d - k))) together
      ∙ mul_assoc q (2 ^ (k + lo)) (2 ^ (w - p + (d - k)))
      ∙ ap (λ (x : ℕ). q * x) (sym (pow-add 2 (k + lo) (w - p + (d - k))) ∙ ap (λ (x : ℕ). 2 ^ x) (sums p w lo hi d k h e) ∙ pow-add 2 hi (k - d))
    where
      sums : (p w lo hi d k : ℕ) → p ≤ w → d + w + lo ≡ hi + p → k + lo + (w - p + (d - k)) ≡ hi + (k - d)
      sums p w lo hi d k h e = omega arith

-- ---- the pattern of the f32
finite-pattern : (s : Bool) (a : ℕ) → a < ones binary64 * hid binary64 → to_bits binary32 (narrowed (of_bits binary64 (cond s (top binary64) 0 + a))) ≡ cond s (top binary32) 0 + mag_bits a
unfolding mag_bits
finite-pattern s a h =
    let k = a / 2 ^ 52 - 1 in
    let q = digits binary64 a in
    ap (to_bits binary32) (narrowed_at (of_bits binary64 (cond s (top binary64) 0 + a)) s (units_of binary64 a) (2 ^ low binary64) (pow_pos 1074) (pattern-value binary64 s a h))
    ∙ round_bits binary32 s (units_of binary64 a) (2 ^ low binary64) (k - 896) q (2 ^ (29 + (896 - k))) (pow_pos 1074) (pow_pos (29 + (896 - k)))
    (dropped 24 53 149 1074 896 k q refl (lit< tt) (lit< tt) (digits_lt binary64 a) (λ g. digits_ge binary64 a (some (a / 2 ^ 52) g)))
    (moved 24 53 149 1074 896 k q refl (lit≤ tt))
  where
    some : (x : ℕ) → 0 < x - 1 - 896 → 0 < x
    some x h = omega arith

infinite_pattern : (s : Bool) → to_bits binary32 (narrowed (of_bits binary64 (cond s (top binary64) 0 + ones binary64 * hid binary64))) ≡ cond s (top binary32) 0 + mag_bits (ones binary64 * hid binary64)
unfolding mag_bits narrowed of_bits to_bits
infinite_pattern true = refl
infinite_pattern false = refl

narrow_pattern : (s : Bool) (a : ℕ) → a ≤ 0x7ff0_0000_0000_0000 → to_bits binary32 (narrowed (of_bits binary64 (cond s (top binary64) 0 + a))) ≡ cond s (top binary32) 0 + mag_bits a
narrow_pattern s a h = elim (eq-or-lt_of_le h) [
  | inl e ↦ subst (λ (x : ℕ). to_bits binary32 (narrowed (of_bits binary64 (cond s (top binary64) 0 + x))) ≡ cond s (top binary32) 0 + mag_bits x) (sym e) (infinite_pattern s)
  | inr l ↦ finite-pattern s a l
]

narrowed-fits : (x : Float) → T (fits binary32 (narrowed x))
unfolding narrowed
narrowed-fits nan = nan-fits binary32
narrowed-fits (inf s) = inf-fits binary32 s
narrowed-fits (fin s m e) = round-fits binary32 s (m * up e) (down e)

narrowed-no_nan : (x : Float) → is_nan x ≡ false → is_nan (narrowed x) ≡ false
unfolding narrowed is_nan
narrowed-no_nan nan h = h
narrowed-no_nan (inf s) h = refl
narrowed-no_nan (fin s m e) h = round-no_nan binary32 s (m * up e) (down e)

narrow_is : (s : Bool) (a : ℕ) → a ≤ 0x7ff0_0000_0000_0000 → of_bits binary32 (cond s (top binary32) 0 + mag_bits a) ≡ narrowed (of_bits binary64 (cond s (top binary64) 0 + a))
narrow_is s a h =
    let x = of_bits binary64 (cond s (top binary64) 0 + a) in
    ap (of_bits binary32) (sym (narrow_pattern s a h)) ∙ of_bits-to_bits binary32 (narrowed x) (narrowed-fits x)

-- ---- the words of `narrow_bits`, by the exponent's field
module _ (a : ℕ) where
  abbrev field : ℕ
  field = a / 2 ^ 52

  abbrev kept : ℕ → ℕ
  kept j = closest (digits binary64 a) (2 ^ j)

  at_shift : (j : ℕ) → 29 + (896 - (field - 1)) ≡ j → mag_bits a ≡ min ((field - 1 - 896) * 2 ^ 23 + kept j) (255 * 2 ^ 23)
  unfolding mag_bits
  at_shift j e = ap (λ (y : ℕ). min ((field - 1 - 896) * 2 ^ 23 + kept y) (255 * 2 ^ 23)) e

  with_lead : (j : ℕ) → 863 ≤ field → closest (a % 2 ^ 52 + 2 ^ 52) (2 ^ j) ≡ kept j
  with_lead j h = ap (λ (q : ℕ). closest q (2 ^ j)) (sym (digits_normal binary64 a (le_trans (lit≤ tt) h)))

  pub mag_top : 1151 ≤ field → 2139095040 ≡ mag_bits a
  mag_top h = sym (at_shift 29 (sh field h) ∙ go field (kept 29) h (closest_ge (digits binary64 a) 23 29 (digits_ge binary64 a (le_trans (lit≤ tt) h))))
    where
      sh : (x : ℕ) → 1151 ≤ x → 29 + (896 - (x - 1)) ≡ 29
      sh x h = omega arith

      go : (x r : ℕ) → 1151 ≤ x → 8388608 ≤ r → min ((x - 1 - 896) * 8388608 + r) 2139095040 ≡ 2139095040
      go x r h l = omega arith

  pub mag_mid : 897 ≤ field → field < 1151 → (field - 897) * 8388608 + closest (a % 2 ^ 52 + 2 ^ 52) (2 ^ 29) ≡ mag_bits a
  mag_mid h k = ap (λ (y : ℕ). (field - 897) * 8388608 + y) (with_lead 29 (le_trans (lit≤ tt) h)) ∙ sym (at_shift 29 (sh field h) ∙ go field (kept 29) h k (closest-le (digits binary64 a) 24 29 (digits_lt binary64 a)))
    where
      sh : (x : ℕ) → 897 ≤ x → 29 + (896 - (x - 1)) ≡ 29
      sh x h = omega arith

      go : (x r : ℕ) → 897 ≤ x → x < 1151 → r ≤ 16777216 → min ((x - 1 - 896) * 8388608 + r) 2139095040 ≡ (x - 897) * 8388608 + r
      go x r h k l = omega arith

  pub mag_low : 863 ≤ field → field < 897 → closest (a % 2 ^ 52 + 2 ^ 52) (2 ^ (926 - field)) ≡ mag_bits a
  mag_low h k = with_lead (926 - field) h ∙ sym (at_shift (926 - field) (sh field h k) ∙ go field (kept (926 - field)) k (closest-le (digits binary64 a) 24 (926 - field) (lt_of_lt_of_le (digits_lt binary64 a) (pow_mono (room field k)))))
    where
      sh : (x : ℕ) → 863 ≤ x → x < 897 → 29 + (896 - (x - 1)) ≡ 926 - x
      sh x h k = omega arith

      room : (x : ℕ) → x < 897 → 53 ≤ 24 + (926 - x)
      room x k = omega arith

      go : (x r : ℕ) → x < 897 → r ≤ 16777216 → min ((x - 1 - 896) * 8388608 + r) 2139095040 ≡ r
      go x r k l = omega arith

  pub mag_none : field < 863 → 0 ≡ mag_bits a
  mag_none k =
      sym (at_shift (29 + (896 - (field - 1))) refl
      ∙ ap (λ (y : ℕ). min ((field - 1 - 896) * 2 ^ 23 + y) (255 * 2 ^ 23)) (closest-none (digits binary64 a) (2 ^ (29 + (896 - (field - 1)))) (lt_of_lt_of_le (twice (digits binary64 a) (digits_lt binary64 a)) (pow_mono (far field k))))
      ∙ go field k)
    where
      twice : (q : ℕ) → q < 9007199254740992 → q * 2 < 18014398509481984
      twice q l = omega arith

      far : (x : ℕ) → x < 863 → 54 ≤ 29 + (896 - (x - 1))
      far x k = omega arith

      go : (x : ℕ) → x < 863 → min ((x - 1 - 896) * 8388608 + 0) 2139095040 ≡ 0
      go x k = omega arith

  -- the sums fit
  pub mid_le : 897 ≤ field → closest (a % 2 ^ 52 + 2 ^ 52) (2 ^ 29) ≤ 2 ^ 24
  mid_le h = subst (λ (y : ℕ). y ≤ 2 ^ 24) (sym (with_lead 29 (le_trans (lit≤ tt) h))) (closest-le (digits binary64 a) 24 29 (digits_lt binary64 a))

  pub mag_le : mag_bits a ≤ 2139095040
  mag_le = subst (λ (y : ℕ). y ≤ 2139095040) (sym (at_shift (29 + (896 - (field - 1))) refl)) (go ((field - 1 - 896) * 2 ^ 23 + kept (29 + (896 - (field - 1)))))
    where
      go : (x : ℕ) → min x 2139095040 ≤ 2139095040
      go x = omega arith

-- ---- the words of `narrow`
pub nan_is : (x : Float) → ne x x ≡ true → div binary32 (of_bits binary32 0) (of_bits binary32 0) ≡ narrowed x
unfolding narrowed div of_bits
nan_is x h = sym (ap narrowed (is_nan_lem x h))

module _ (x : Float) (held : T (fits binary64 x)) (n : is_nan x ≡ false) where
  abbrev bits : ℕ
  bits = to_bits binary64 x

  pub minus_is : 0x8000_0000_0000_0000 ≤ bits → (r : ℕ) → r ≡ mag_bits (bits - 0x8000_0000_0000_0000) → of_bits binary32 (0x8000_0000 + r) ≡ narrowed x
  minus_is l r e =
      ap (λ (y : ℕ). of_bits binary32 (0x8000_0000 + y)) e
      ∙ narrow_is true (bits - 0x8000_0000_0000_0000) (minus_le binary64 x held n l)
      ∙ ap (λ (y : ℕ). narrowed (of_bits binary64 y)) (add-sub_of_le l)
      ∙ ap narrowed (of_bits-to_bits binary64 x held)

  pub plus_is : bits < 0x8000_0000_0000_0000 → (r : ℕ) → r ≡ mag_bits bits → of_bits binary32 r ≡ narrowed x
  plus_is l r e =
      ap (of_bits binary32) (e ∙ sym (zero-add (mag_bits bits)))
      ∙ narrow_is false bits (plus_le binary64 x held n l)
      ∙ ap (λ (y : ℕ). narrowed (of_bits binary64 y)) (zero-add bits)
      ∙ ap narrowed (of_bits-to_bits binary64 x held)

  pub narrow_ok : (r : ℕ) → of_bits binary32 r ≡ narrowed x → T (not (nan_bits binary32 r))
  narrow_ok r e = pattern_ok binary32 r (narrowed x) e (narrowed-no_nan x n)
