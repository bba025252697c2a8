-- The bit pattern of what `round` gives: the number of digits dropped, times the weight of the exponent's field, plus the number kept, and no more than an infinity's.
-- Code that works these two numbers out has the pattern by one sum, the carry into the exponent included. Over both formats.
use Rattle.std.proofs.Common.{◌≡◌, ℕ, zero, suc, ◌+◌, ◌-◌, ◌*◌, ◌/◌, ◌%◌, ◌^◌, ◌<◌, ◌≤◌, min, Bool, true, false, cond, not, T, ltb, ℤ, sym, refl, ap, ◌∙◌, subst, inl, inr, le_trans, le_of_eq, le_refl, lt_of_le_of_lt, add_assoc, mul-le-mul_right, mul_assoc, suc-mul, mul_comm, add-mul, eq-zero-or-pos, eq-or-lt_of_le, mul-pos, le-div_iff_mul-le, le_of_mul-le-mul_right, mul-div_cancel, arith, ltb→lt, nltb→le, pow_pos, pow-add, shl_lt}
use Prim.Native.Nat.{compare}
use native.Mathlib.Nat.{le_of_mul-le-mul_left, lt_of_mul-lt-mul_left, pow-succ', min-eq_left, min-eq_right, div-div-eq-div-mul}
use lib.Ieee.{Float, nan, inf, fin, Format, prec, emax, low, up, down, size, odd, units, round, is_nan, hid, ones, top, to_bits}
use lib.Ieee.Digits.{size_reaches}
use lib.Ieee.Fits.{two, reach, two-le_pos, kept-lt, nearest-le, round_is, down_pos}
use lib.Ieee.Exact.{HasValue, odd_sign}
use lib.Ieee.Nearest.{closest, closest_same, nearest-ge}
use lib.Ieee.Order.{drop, kept}
use lib.Ieee.Scale.{overflow}
use Rattle.floats.proofs.Sizes.{pow_lt_back, pow_le_back, pow_twice, size-past}

-- ---- the pattern of q * 2 ^ k units, for a q of at most p digits, or 2 ^ p, that has all its digits where k is above 0
all-kept : (p q k : ℕ) → 0 < p → q < 2 ^ p → (0 < k → 2 ^ (p - 1) ≤ q) → size (q * 2 ^ k) - p ≡ k
all-kept p q k P l g = size-past (q * 2 ^ k) p k P (shl_lt p k l) (λ h. subst (λ (x : ℕ). x ≤ q * 2 ^ k) (sym (pow-add 2 (p - 1) k)) (mul-le-mul_right (2 ^ k) (g h)))

pattern : (p q k : ℕ) → 0 < p → q ≤ 2 ^ p → (0 < k → 2 ^ (p - 1) ≤ q) → (size (q * 2 ^ k) - p) * 2 ^ (p - 1) + q * 2 ^ k / 2 ^ (size (q * 2 ^ k) - p) ≡ k * 2 ^ (p - 1) + q
pattern p q k P l g = elim (eq-or-lt_of_le l) [
  | inl e ↦
      let h = 2 ^ (p - 1) in
      let a : q * 2 ^ k ≡ h * 2 ^ suc k = ap (λ (x : ℕ). x * 2 ^ k) (e ∙ pow_twice p P ∙ mul_comm 2 h) ∙ mul_assoc h 2 (2 ^ k) ∙ ap (λ (x : ℕ). h * x) (sym (pow-succ' 2 k)) in
      let z : size (h * 2 ^ suc k) - p ≡ suc k = all-kept p h (suc k) P (subst (λ (x : ℕ). h < x) (sym (pow_twice p P)) (double h (pow_pos (p - 1)))) (λ _. le_refl h) in
      ap (λ (x : ℕ). (size x - p) * h + x / 2 ^ (size x - p)) a
      ∙ ap (λ (x : ℕ). x * h + h * 2 ^ suc k / 2 ^ x) z
      ∙ ap (λ (x : ℕ). suc k * h + x) (mul-div_cancel h (pow_pos (suc k)))
      ∙ ap (λ (x : ℕ). x + h) (suc-mul k h)
      ∙ fold (k * h) h q (e ∙ pow_twice p P)
  | inr i ↦
      ap (λ (x : ℕ). x * 2 ^ (p - 1) + q * 2 ^ k / 2 ^ x) (all-kept p q k P i g) ∙ ap (λ (x : ℕ). k * 2 ^ (p - 1) + x) (mul-div_cancel q (pow_pos k))
]
  where
    double : (x : ℕ) → 0 < x → x < 2 * x
    double x h = omega arith

    fold : (a h q : ℕ) → q ≡ 2 * h → a + h + h ≡ a + q
    fold a h q e = omega arith

-- ---- below the overflow the pattern is at most an infinity's, and from there on no less
over : (f : Format) → overflow f ≡ hid f * 2 ^ (2 * emax f)
over f = ap (λ (x : ℕ). 2 ^ x) (arrange (prec f) (emax f) (two f)) ∙ pow-add 2 (prec f - 1) (2 * emax f)
  where
    arrange : (p e : ℕ) → 2 ≤ p → e + p - 2 + suc e ≡ p - 1 + 2 * e
    arrange p e h = omega arith

module _ (f : Format) (q k : ℕ) (l : q ≤ 2 ^ prec f) (g : 0 < k → hid f ≤ q) where
  q_le : q ≤ 2 * hid f
  q_le = subst (λ (x : ℕ). q ≤ x) (pow_twice (prec f) (two-le_pos (prec f) (two f))) l

  -- 2 * hid * 2 ^ k, with the 2 in the power
  raise : 2 * hid f * 2 ^ k ≡ hid f * 2 ^ suc k
  raise = ap (λ (x : ℕ). x * 2 ^ k) (mul_comm 2 (hid f)) ∙ mul_assoc (hid f) 2 (2 ^ k) ∙ ap (λ (x : ℕ). hid f * x) (sym (pow-succ' 2 k))

  within : q * 2 ^ k < overflow f → k * hid f + q ≤ ones f * hid f
  within h =
      let d = hid f in
      let e = emax f in
      let small : k + 2 ≤ 2 * e + 1 = elim (eq-zero-or-pos k) [
        | inl z ↦ at_zero (prec f) e k (two f) (reach f) z
        | inr c ↦ more k e (pow_lt_back k (2 * e) (lt_of_mul-lt-mul_left d (lt_of_le_of_lt (mul-le-mul_right (2 ^ k) (g c)) (subst (λ (x : ℕ). q * 2 ^ k < x) (over f) h))))
      ] in
      le_trans (last (k * d) d q q_le) (le_trans (le_of_eq (sym (add-mul k 2 d))) (mul-le-mul_right d small))
    where
      at_zero : (p e k : ℕ) → 2 ≤ p → p ≤ suc e → k ≡ 0 → k + 2 ≤ 2 * e + 1
      at_zero p e k a b z = omega arith

      more : (k e : ℕ) → k < 2 * e → k + 2 ≤ 2 * e + 1
      more k e h = omega arith

      last : (a d q : ℕ) → q ≤ 2 * d → a + q ≤ a + 2 * d
      last a d q h = omega arith

  beyond : overflow f ≤ q * 2 ^ k → ones f * hid f ≤ k * hid f + q
  beyond h =
      let d = hid f in
      let e = emax f in
      let h' : d * 2 ^ (2 * e) ≤ q * 2 ^ k = subst (λ (x : ℕ). x ≤ q * 2 ^ k) (over f) h in
      let near : 2 * e ≤ suc k = pow_le_back (2 * e) (suc k) (le_of_mul-le-mul_left (le_trans h' (le_trans (mul-le-mul_right (2 ^ k) q_le) (le_of_eq raise))) (pow_pos (prec f - 1))) in
      elim (eq-or-lt_of_le near) [
        | inl a ↦
            let full : 2 * d ≤ q = le_of_mul-le-mul_right (le_trans (le_of_eq (raise ∙ ap (λ (x : ℕ). d * 2 ^ x) (sym a))) h') (pow_pos k) in
            le_trans (mul-le-mul_right d (just e k a)) (le_trans (le_of_eq (add-mul k 2 d)) (last (k * d) (2 * d) q full))
        | inr b ↦
            let c : 2 * e ≤ k = under e k b in
            le_trans (mul-le-mul_right d (step e k c)) (le_trans (le_of_eq (add-mul k 1 d)) (last (k * d) (1 * d) q (one d q (g (some (prec f) e k (two f) (reach f) c)))))
      ]
    where
      just : (e k : ℕ) → 2 * e ≡ suc k → 2 * e + 1 ≤ k + 2
      just e k a = omega arith

      under : (e k : ℕ) → 2 * e < suc k → 2 * e ≤ k
      under e k a = omega arith

      step : (e k : ℕ) → 2 * e ≤ k → 2 * e + 1 ≤ k + 1
      step e k a = omega arith

      some : (p e k : ℕ) → 2 ≤ p → p ≤ suc e → 2 * e ≤ k → 0 < k
      some p e k a b c = omega arith

      last : (a b q : ℕ) → b ≤ q → a + b ≤ a + q
      last a b q h = omega arith

      one : (d q : ℕ) → d ≤ q → 1 * d ≤ q
      one d q h = omega arith

-- ---- the pattern of a finite value, by its size in units of the smallest value
to_bits_is : (f : Format) (s : Bool) (m : ℕ) (e : ℤ) (n : ℕ) → m * up e * 2 ^ low f / down e ≡ n
    → to_bits f (fin s m e) ≡ cond s (top f) 0 + (size n - prec f) * hid f + n / 2 ^ (size n - prec f)
unfolding to_bits
to_bits_is f s m e n p = ap (λ (x : ℕ). cond s (top f) 0 + (size x - prec f) * hid f + x / 2 ^ (size x - prec f)) p

to_bits-value : (f : Format) (x : Float) (s : Bool) (a : ℕ) → HasValue x s a (2 ^ low f) → to_bits f x ≡ cond s (top f) 0 + (size a - prec f) * hid f + a / 2 ^ (size a - prec f)
to_bits-value f nan s a h = absurd h
to_bits-value f (inf t) s a h = absurd h
to_bits-value f (fin t m e) s a h = to_bits_is f t m e a (ap (λ (x : ℕ). x / down e) h.1 ∙ mul-div_cancel a (down_pos e)) ∙ ap (λ (b : Bool). cond b (top f) 0 + (size a - prec f) * hid f + a / 2 ^ (size a - prec f)) h.0

to_bits_inf : (f : Format) (s : Bool) → to_bits f (inf s) ≡ cond s (top f) 0 + ones f * hid f
unfolding to_bits
to_bits_inf f s = refl

units_bits : (f : Format) (s : Bool) (q k : ℕ) → q ≤ 2 ^ prec f → (0 < k → hid f ≤ q) → to_bits f (units f s q k) ≡ cond s (top f) 0 + min (k * hid f + q) (ones f * hid f)
unfolding units
units_bits f s q k l g = go (ltb (q * 2 ^ k) (overflow f)) (ltb→lt (q * 2 ^ k) (overflow f)) (nltb→le (q * 2 ^ k) (overflow f))
  where
    go : (b : Bool) → (T b → q * 2 ^ k < overflow f) → (T (not b) → overflow f ≤ q * 2 ^ k) → to_bits f (cond b (odd (suc (prec f)) s q k (low f)) (inf s)) ≡ cond s (top f) 0 + min (k * hid f + q) (ones f * hid f)
    go true a b =
        to_bits-value f (odd (suc (prec f)) s q k (low f)) s (q * 2 ^ k) (odd_sign (suc (prec f)) s q k (low f))
        ∙ add_assoc (cond s (top f) 0) ((size (q * 2 ^ k) - prec f) * hid f) (q * 2 ^ k / 2 ^ (size (q * 2 ^ k) - prec f))
        ∙ ap (λ (x : ℕ). cond s (top f) 0 + x) (pattern (prec f) q k (two-le_pos (prec f) (two f)) l g ∙ sym (min-eq_left (within f q k l g (a tt))))
    go false a b = to_bits_inf f s ∙ ap (λ (x : ℕ). cond s (top f) 0 + x) (sym (min-eq_right (beyond f q k l g (b tt))))

-- ---- what `round` keeps
kept-le : (p n den : ℕ) → kept p n den ≤ 2 ^ p
kept-le p n den =
    let k = drop p n den in
    let u = den * 2 ^ k in
    le_trans (nearest-le (n / u) (compare (n % u * 2) u)) (subst (λ (x : ℕ). x < 2 ^ p) (div-div-eq-div-mul n den (2 ^ k)) (kept-lt p (n / den)))

kept_ge : (p n den : ℕ) → 0 < p → 0 < drop p n den → 2 ^ (p - 1) ≤ kept p n den
kept_ge p n den P K =
    let k = drop p n den in
    let u = den * 2 ^ k in
    let w = n / den in
    let a : 2 ^ (p - 1) * 2 ^ k ≤ w = le_trans (le_of_eq (sym (pow-add 2 (p - 1) k))) (size_reaches w (p - 1 + k) (all_in_use (size w) p P K)) in
    le_trans (subst (λ (x : ℕ). 2 ^ (p - 1) ≤ x) (div-div-eq-div-mul n den (2 ^ k)) ((le-div_iff_mul-le (pow_pos k)).1 a)) (nearest-ge (n / u) (compare (n % u * 2) u))
  where
    all_in_use : (z p : ℕ) → 0 < p → 0 < z - p → p - 1 + (z - p) < z
    all_in_use z p P h = omega arith

-- The pattern of num / den rounded: k digits are dropped, and a / b is the fraction whose nearest whole number is kept.
pub round_bits : (f : Format) (s : Bool) (num den k a b : ℕ) → 0 < den → 0 < b → drop (prec f) (num * 2 ^ low f) den ≡ k → num * 2 ^ low f * b ≡ a * (den * 2 ^ k)
    → to_bits f (round f s num den) ≡ cond s (top f) 0 + min (k * hid f + closest a b) (ones f * hid f)
round_bits f s num den k a b D B e h =
    let n = num * 2 ^ low f in
    let p = prec f in
    let P : 0 < p = two-le_pos p (two f) in
    ap (to_bits f) (round_is f s num den)
    ∙ units_bits f s (kept p n den) (drop p n den) (kept-le p n den) (λ g. kept_ge p n den P g)
    ∙ ap (λ (x : ℕ). cond s (top f) 0 + min (x * hid f + closest n (den * 2 ^ x)) (ones f * hid f)) e
    ∙ ap (λ (x : ℕ). cond s (top f) 0 + min (k * hid f + x) (ones f * hid f)) (closest_same n (den * 2 ^ k) a b (mul-pos D (pow_pos k)) B h)

-- ---- what `round` gives is no NaN
odd_no_nan : (d : ℕ) (s : Bool) (q k l : ℕ) → is_nan (odd d s q k l) ≡ false
unfolding odd is_nan
odd_no_nan d s zero k l = refl
odd_no_nan d s (suc q) k l = refl

units-no_nan : (f : Format) (s : Bool) (q k : ℕ) → is_nan (units f s q k) ≡ false
unfolding units is_nan
units-no_nan f s q k = go (ltb (q * 2 ^ k) (overflow f))
  where
    go : (b : Bool) → is_nan (cond b (odd (suc (prec f)) s q k (low f)) (inf s)) ≡ false
    go true = odd_no_nan (suc (prec f)) s q k (low f)
    go false = refl

pub round-no_nan : (f : Format) (s : Bool) (a b : ℕ) → is_nan (round f s a b) ≡ false
round-no_nan f s a b = ap is_nan (round_is f s a b) ∙ units-no_nan f s (kept (prec f) (a * 2 ^ low f) b) (drop (prec f) (a * 2 ^ low f) b)
