-- What the bit pattern of a float says. a is a pattern without sign, and `cond s (top f) 0 + a` the same with the sign s. Over both formats.
use Rattle.std.proofs.Common.{◌≡◌, ℕ, zero, suc, ◌+◌, ◌-◌, ◌*◌, ◌/◌, ◌%◌, ◌^◌, ◌<◌, ◌≤◌, Bool, true, false, cond, not, T, eqb, leb, ℤ, sym, refl, ap, ◌∙◌, subst, true≢false, le-add_right, lt_irrefl, mod-lt, mod-eq_of_lt, suc-mul, mul_comm, div-lt_iff_lt-mul, add_comm, mul-pos, div-add-mod', zero-add, zero-mul, arith, eqb→eq, pow_pos, ltb-false, ne_eqb, le-leb}
use native.Mathlib.Nat.{add-mod_left, mod-eq-sub-mod, mul-add-mod_self_left}
use lib.Dec.{eqb-suc-zero}
use lib.Ieee.{Float, nan, inf, fin, Format, prec, low, odd, up, hid, ones, top, of_fields, of_bits, to_bits, nan_bits, is_nan, ne, fits}
use lib.Ieee.Fits.{down_pos}
use lib.Ieee.Bits.{of_bits-to_bits, to_bits-lt, nan_bits_is, nan_bits_above}
use lib.Ieee.Compare.{differs_from_itself, nan_differs}
use lib.Ieee.Exact.{HasValue, odd_sign}
use denote.Floats.{passes}
use borrow.Author.Tests.{lt-leb}
use Rattle.floats.specs.Inner.{digits, units_of}

-- ---- the value that a pattern stands for
of_bits_is : (f : Format) (b : ℕ) → of_bits f b ≡ of_fields f (leb (top f) b) (b % top f / hid f) (b % hid f)
unfolding of_bits
of_bits_is f b = refl

fields-same : (f : Format) {s s' : Bool} {x x' t t' : ℕ} → s ≡ s' → x ≡ x' → t ≡ t' → of_fields f s x t ≡ of_fields f s' x' t'
fields-same f {s} {s'} {x} {x'} {t} {t'} p q r = ap (λ (a : Bool). of_fields f a x t) p ∙ ap (λ (a : ℕ). of_fields f s' a t) q ∙ ap (λ (a : ℕ). of_fields f s' x' a) r

signed : (f : Format) (s : Bool) (a : ℕ) → a < top f → of_bits f (cond s (top f) 0 + a) ≡ of_fields f s (a / hid f) (a % hid f)
signed f true a h =
    of_bits_is f (top f + a)
    ∙ fields-same f (le-leb (top f) (top f + a) (le-add_right (top f) a))
    (ap (λ (y : ℕ). y / hid f) (add-mod_left (top f) a ∙ mod-eq_of_lt h))
    (mul-add-mod_self_left (hid f) (suc (ones f)) a)
signed f false a h =
    ap (λ (y : ℕ). of_bits f y) (zero-add a)
    ∙ of_bits_is f a
    ∙ fields-same f (lt-leb (top f) a h) (ap (λ (y : ℕ). y / hid f) (mod-eq_of_lt h)) refl

fields_value : (f : Format) (s : Bool) (x t : ℕ) → x < ones f → HasValue (of_fields f s x t) s ((cond (eqb x 0) 0 (hid f) + t) * 2 ^ (x - 1)) (2 ^ low f)
unfolding of_fields
fields_value f s zero t h = subst (λ (y : ℕ). HasValue (odd (prec f) s t 0 (low f)) s (y * 2 ^ 0) (2 ^ low f)) (sym (zero-add t)) (odd_sign (prec f) s t 0 (low f))
fields_value f s (suc x) t h =
    subst (λ (b : Bool). HasValue (cond b (cond (eqb t 0) (inf s) nan) (odd (prec f) s (hid f + t) x (low f))) s ((cond (eqb (suc x) 0) 0 (hid f) + t) * 2 ^ (suc x - 1)) (2 ^ low f))
    (sym (ne_eqb (suc x) (ones f) (λ e. lt_irrefl (ones f) (subst (λ (y : ℕ). y < ones f) e h))))
    (subst (λ (b : Bool). HasValue (odd (prec f) s (hid f + t) x (low f)) s ((cond b 0 (hid f) + t) * 2 ^ (suc x - 1)) (2 ^ low f)) (sym (eqb-suc-zero x))
    (subst (λ (y : ℕ). HasValue (odd (prec f) s (hid f + t) x (low f)) s ((hid f + t) * 2 ^ y) (2 ^ low f)) (sym (pred x)) (odd_sign (prec f) s (hid f + t) x (low f))))
  where
    pred : (x : ℕ) → suc x - 1 ≡ x
    pred x = omega arith

under_top : (f : Format) (a : ℕ) → a < ones f * hid f → a < top f
under_top f a h = go a (ones f * hid f) (hid f) (top f) (mul_comm (hid f) (suc (ones f)) ∙ suc-mul (ones f) (hid f)) h
  where
    go : (a b c t : ℕ) → t ≡ b + c → a < b → a < t
    go a b c t e h = omega arith

pub pattern-value : (f : Format) (s : Bool) (a : ℕ) → a < ones f * hid f → HasValue (of_bits f (cond s (top f) 0 + a)) s (units_of f a) (2 ^ low f)
pattern-value f s a h =
    subst (λ (v : Float). HasValue v s (units_of f a) (2 ^ low f)) (sym (signed f s a (under_top f a h)))
    (fields_value f s (a / hid f) (a % hid f) ((div-lt_iff_lt-mul (pow_pos (prec f - 1))).1 h))

-- ---- the digits of a pattern
pub digits_normal : (f : Format) (a : ℕ) → 0 < a / hid f → digits f a ≡ a % hid f + hid f
digits_normal f a h = ap (λ (b : Bool). cond b 0 (hid f) + a % hid f) (ne_eqb (a / hid f) 0 (some (a / hid f) h)) ∙ add_comm (hid f) (a % hid f)
  where
    some : (x : ℕ) → 0 < x → x ≡ 0 → ⊥
    some x h e = omega arith

pub digits_lt : (f : Format) (a : ℕ) → digits f a < 2 * hid f
digits_lt f a = go (eqb (a / hid f) 0)
  where
    low_one : (y d : ℕ) → y < d → 0 + y < 2 * d
    low_one y d h = omega arith

    with_lead : (y d : ℕ) → y < d → d + y < 2 * d
    with_lead y d h = omega arith

    go : (b : Bool) → cond b 0 (hid f) + a % hid f < 2 * hid f
    go true = low_one (a % hid f) (hid f) (mod-lt a (pow_pos (prec f - 1)))
    go false = with_lead (a % hid f) (hid f) (mod-lt a (pow_pos (prec f - 1)))

pub digits_ge : (f : Format) (a : ℕ) → 0 < a / hid f → hid f ≤ digits f a
digits_ge f a h = subst (λ (x : ℕ). hid f ≤ x) (sym (digits_normal f a h)) (go (a % hid f) (hid f))
  where
    go : (y d : ℕ) → d ≤ y + d
    go y d = omega arith

-- only the pattern 0 stands for zero
pub units-pos : (f : Format) (a : ℕ) → 0 < a → 0 < units_of f a
units-pos f a h = mul-pos (go (eqb (a / hid f) 0) (eqb→eq (a / hid f) 0)) (pow_pos (a / hid f - 1))
  where
    all : (a x y : ℕ) → 0 < a → x + y ≡ a → x ≡ 0 → 0 < 0 + y
    all a x y h e z = omega arith

    more : (d y : ℕ) → 0 < d → 0 < d + y
    more d y h = omega arith

    go : (b : Bool) → (T b → a / hid f ≡ 0) → 0 < cond b 0 (hid f) + a % hid f
    go true z = all a (a / hid f * hid f) (a % hid f) h (div-add-mod' a (hid f)) (ap (λ (x : ℕ). x * hid f) (z tt) ∙ zero-mul (hid f))
    go false z = more (hid f) (a % hid f) (pow_pos (prec f - 1))

pub value_nonzero : (s t : Bool) (m : ℕ) (e : ℤ) (a c : ℕ) → 0 < a → HasValue (fin t m e) s a c → m ≡ 0 → ⊥
value_nonzero s t m e a c p h z =
    lt_irrefl 0 (subst (λ (y : ℕ). 0 < y) (sym h.1 ∙ ap (λ (y : ℕ). y * up e * c) z ∙ ap (λ (y : ℕ). y * c) (zero-mul (up e)) ∙ zero-mul c) (mul-pos p (down_pos e)))

-- ---- a NaN, as code tests for it
pub is_nan_lem : (x : Float) → ne x x ≡ true → x ≡ nan
is_nan_lem x h = differs_from_itself x (passes (ne x x) h)

pub no_nan : (x : Float) → ne x x ≡ false → is_nan x ≡ false
unfolding is_nan
no_nan nan h = absurd (true≢false (sym nan_differs ∙ h))
no_nan (inf s) h = refl
no_nan (fin s m e) h = refl

pub false-not : (b : Bool) → b ≡ false → T (not b)
false-not b e = subst (λ (x : Bool). T (not x)) (sym e) tt

-- a pattern that is read as no NaN is no NaN's
pub pattern_ok : (f : Format) (r : ℕ) (x : Float) → of_bits f r ≡ x → is_nan x ≡ false → T (not (nan_bits f r))
pattern_ok f r x e n = false-not (nan_bits f r) (nan_bits_is f r ∙ ap is_nan e ∙ n)

-- ---- the pattern of a value that is no NaN, without the sign, is at most an infinity's
module _ (f : Format) (x : Float) (held : T (fits f x)) (n : is_nan x ≡ false) where
  magnitude_le : to_bits f x % top f ≤ ones f * hid f
  magnitude_le = ltb-false (ones f * hid f) (to_bits f x % top f) (sym (nan_bits_above f (to_bits f x)) ∙ nan_bits_is f (to_bits f x) ∙ ap is_nan (of_bits-to_bits f x held) ∙ n)

  pub plus_le : to_bits f x < top f → to_bits f x ≤ ones f * hid f
  plus_le l = subst (λ (y : ℕ). y ≤ ones f * hid f) (mod-eq_of_lt l) magnitude_le

  pub minus_le : top f ≤ to_bits f x → to_bits f x - top f ≤ ones f * hid f
  minus_le l = subst (λ (y : ℕ). y ≤ ones f * hid f) (mod-eq-sub-mod l ∙ mod-eq_of_lt (go (top f) (to_bits f x) (to_bits-lt f x held) l)) magnitude_le
    where
      go : (c b : ℕ) → b < 2 * c → c ≤ b → b - c < c
      go c b h l = omega arith
