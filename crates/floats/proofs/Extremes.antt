-- The library's `abs` is ours; the exponential of a zero; a NaN alone differs from itself, which `max` and `min` test; and a sum of
-- finite numbers is no NaN.
use Rattle.std.proofs.Common.{◌≡◌, ℕ, zero, suc, ◌+◌, ◌-◌, ◌*◌, ◌^◌, ◌<◌, Bool, true, false, cond, not, ◌&&◌, ◌||◌, T, eqb, ltb, ℤ, pos, negsuc, sym, refl, ap, ◌∙◌, subst, true≢false, lt_irrefl, zero-lt-suc, mul-pos, one-mul, zero-mul, mul-one, arith, eqb→eq, eq-eqb, eqb-true}
use mathlib.Core.Bool.{beq, false≢true}
use native.Mathlib.Nat.{pow-succ'}
use lib.Ieee.{Float, nan, inf, fin, Format, binary32, up, down, sum, add, mul, div, round, lt, eq, fits, is_nan, of_int, of_bits}
use lib.Ieee.Fits.{up_pos}
use Rattle.std.specs.Float.{float_with_sign}
use Rattle.loops.proofs.Choose.{and_holds}
use Rattle.floats.specs.Narrow.{narrowed}
use Rattle.floats.specs.Exp.{series, squares, exp_of}
use Rattle.floats.specs.Extremes.{absolute}
use Rattle.floats.proofs.Rounding.{round-no_nan}

-- ---- `abs`: the library's, by cases
pub abs_std : (x : Float) → float_with_sign false x ≡ absolute x
unfolding absolute float_with_sign
abs_std nan = refl
abs_std (inf s) = refl
abs_std (fin s m e) = refl

no_power : (x y : ℕ) → x ≡ 2 * y → x ≡ 1 → ⊥
no_power x y e h = omega arith

-- 2 ^ e is 1 / 1 only for e = 0
pub plain : (e : ℤ) → up e * down e ≡ 1 → e ≡ pos 0
plain (pos zero) h = refl
plain (pos (suc a)) h = absurd (no_power (2 ^ suc a) (2 ^ a) (pow-succ' 2 a) (sym (mul-one (2 ^ suc a)) ∙ h))
plain (negsuc a) h = absurd (no_power (2 ^ suc a) (2 ^ a) (pow-succ' 2 a) (sym (one-mul (2 ^ suc a)) ∙ h))

positive : (m u v : ℕ) → 0 < u → suc m * u * 1 ≡ 0 * v → ⊥
positive m u v U h = lt_irrefl 0 (subst (λ (x : ℕ). 0 < x) (sym (mul-one (suc m * u)) ∙ h ∙ zero-mul v) (mul-pos (zero-lt-suc m) U))

-- an f32 that equals 0 is one of the two zeros
zero_cases : (C : Float → Type 0) → C (fin true 0 (pos 0)) → C (fin false 0 (pos 0)) → (x : Float) → T (fits binary32 x) → eq x (of_bits binary32 0) ≡ true → C x
unfolding eq of_bits fits
zero_cases C a b nan f h = absurd (false≢true h)
zero_cases C a b (inf s) f h = absurd (false≢true h)
zero_cases C a b (fin true zero e) f h = subst (λ (d : ℤ). C (fin true 0 d)) (sym (plain e (eqb→eq (up e * down e) 1 f))) a
zero_cases C a b (fin false zero e) f h = subst (λ (d : ℤ). C (fin false 0 d)) (sym (plain e (eqb→eq (up e * down e) 1 f))) b
zero_cases C a b (fin s (suc m) e) f h = absurd (positive m (up e) (down e) (up_pos e) (eqb-true (suc m * up e * 1) (0 * down e) (and_holds (eqb (suc m * up e * 1) (0 * down e)) (beq s false || eqb (suc m * up e * 1) 0) h).0))

-- the exponential of both is 1
pub exp_zero : (x : Float) → T (fits binary32 x) → eq x (of_bits binary32 0) ≡ true → of_bits binary32 0x3f80_0000 ≡ exp_of x
unfolding add mul div lt of_int of_bits round narrowed series squares exp_of
exp_zero = zero_cases (λ (x : Float). of_bits binary32 0x3f80_0000 ≡ exp_of x) refl refl

-- ---- a NaN alone differs from itself
eq_self : (x : Float) → is_nan x ≡ false → eq x x ≡ true
unfolding eq is_nan
eq_self nan h = absurd (true≢false h)
eq_self (inf true) h = refl
eq_self (inf false) h = refl
eq_self (fin true m e) h = ap (λ (t : Bool). t && true) (eq-eqb (m * up e * down e) (m * up e * down e) refl)
eq_self (fin false m e) h = ap (λ (t : Bool). t && true) (eq-eqb (m * up e * down e) (m * up e * down e) refl)

pub nan_by_eq : (x : Float) → is_nan x ≡ not (eq x x)
unfolding eq is_nan
nan_by_eq nan = refl
nan_by_eq (inf true) = refl
nan_by_eq (inf false) = refl
nan_by_eq (fin s m e) = sym (ap not (eq_self (fin s m e) refl))

-- ---- `max` and `min`, by their tests: e and n are what the first test says, and d and l the second, of which t is the definition's
module _ (a b : Float) (t : Bool) {p r : Bool} (e : p ≡ eq a a) (n : r ≡ not p) where
  is-nan : {v : Bool} → r ≡ v → is_nan a ≡ v
  is-nan h = nan_by_eq a ∙ sym (ap not e) ∙ sym n ∙ h

  pub past_nan : r ≡ true → b ≡ cond (is_nan a) b (cond t b a)
  past_nan h = rw (is-nan h) refl

  module _ (h : r ≡ false) {q s : Bool} (d : q ≡ t) (l : s ≡ q) where
    pub the_other : s ≡ true → b ≡ cond (is_nan a) b (cond t b a)
    the_other k = rw (is-nan h, sym (l ∙ d) ∙ k) refl

    pub the_first : s ≡ false → a ≡ cond (is_nan a) b (cond t b a)
    the_first k = rw (is-nan h, sym (l ∙ d) ∙ k) refl

-- ---- a sum of finite numbers is no NaN
cond-no_nan : (b : Bool) (x y : Float) → is_nan x ≡ false → is_nan y ≡ false → is_nan (cond b x y) ≡ false
cond-no_nan true x y h k = h
cond-no_nan false x y h k = k

pub sum-no_nan : (f : Format) (s : Bool) (a : ℕ) (t : Bool) (b c : ℕ) → is_nan (sum f s a t b c) ≡ false
unfolding sum
sum-no_nan f s a t b c =
    cond-no_nan (beq s t) (round f s (a + b) c) (cond (ltb a b) (round f t (b - a) c) (round f (s && ltb b a) (a - b) c)) (round-no_nan f s (a + b) c)
    (cond-no_nan (ltb a b) (round f t (b - a) c) (round f (s && ltb b a) (a - b) c) (round-no_nan f t (b - a) c) (round-no_nan f (s && ltb b a) (a - b) c))
