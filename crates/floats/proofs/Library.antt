-- The library's `sqrt` is `square_root`: its root has more places, and both round alike (`scaled_root`), as the root of n * (p * p) lies among the
-- even multiples of p as that of n does among the even numbers.
use Rattle.std.proofs.Common.{◌≡◌, ℕ, zero, suc, ◌+◌, ◌*◌, ◌/◌, ◌^◌, ◌<◌, ◌≤◌, Bool, true, false, cond, T, eqb, leb, ℤ, pos, sym, refl, ap, ◌∙◌, subst, inl, inr, mul_assoc, eq-or-lt_of_le, mul-lt-mul_of_pos_right, mul-pos, mul-div_cancel, mul_right_comm, add-one, arith, lit<, eqb→eq, pow_pos, pow-add, ne_eqb}
use native.Mathlib.Nat.{mul-mul-mul_comm}
use lib.Ieee.{Float, nan, inf, fin, binary64, up, down, size, round, fits, root_below, root_twice, sqrt}
use lib.Ieee.Fits.{down_pos}
use lib.Ieee.Scale.{round_same}
use Rattle.floats.specs.Sqrt.{root_by, whole_root, twice_root, square_root}
use Rattle.floats.proofs.Squares.{IsRoot}
use Rattle.floats.proofs.Roots.{whole_root_is, twice_exact, twice_short, twice_gt, twice_lt, next-even}
use Rattle.floats.proofs.Extremes.{plain}
use Rattle.floats.proofs.RootPlaces.{root_at}
use Rattle.floats.proofs.Correct.{rounds_alike, n_is, r_big}

root_by_below : (k n : ℕ) → root_below k n ≡ root_by k n
unfolding root_below root_by
root_by_below zero n = refl
root_by_below (suc k) n =
    ap (λ (r : ℕ). cond (leb ((2 * r + 1) * (2 * r + 1)) n) (2 * r + 1) (2 * r)) (root_by_below k (n / 4))
    ∙ ap (λ (s : ℕ). cond (leb (s * s) n) s (2 * root_by k (n / 4))) (add-one (2 * root_by k (n / 4)))

twice_below : (n : ℕ) → root_twice n ≡ twice_root n
unfolding root_twice twice_root
twice_below n = ap (λ (r : ℕ). 2 * r + cond (eqb (r * r) n) 0 1) (root_by_below (size n) n)

module _ (n p : ℕ) (P : 0 < p) (big : 2 ^ 53 ≤ whole_root n) where
  abbrev r : ℕ
  r = whole_root n

  is : IsRoot n r
  is = whole_root_is n

  scaled_root : round binary64 false (twice_root (n * (p * p))) (p * 2 ^ 601) ≡ round binary64 false (twice_root n) (2 ^ 601)
  scaled_root = elim (eq-or-lt_of_le is.under) [
    | inl e ↦
        ap (λ (x : ℕ). round binary64 false x (p * 2 ^ 601)) (twice_exact (n * (p * p)) (r * p) (mul-mul-mul_comm r p r p ∙ ap (λ (x : ℕ). x * (p * p)) e))
        ∙ round_same binary64 false (2 * (r * p)) (p * 2 ^ 601) (2 * r) (2 ^ 601) (mul-pos P (pow_pos 601)) (pow_pos 601)
        (ap (λ (x : ℕ). x * 2 ^ 601) (sym (mul_assoc 2 r p)) ∙ mul_assoc (2 * r) p (2 ^ 601))
        ∙ ap (λ (x : ℕ). round binary64 false x (2 ^ 601)) (sym (twice_exact n r e))
    | inr l ↦
        rounds_alike r big (twice_root (n * (p * p))) p P
        (subst (λ (x : ℕ). x < twice_root (n * (p * p))) (sym (mul_assoc 2 r p)) (twice_gt (n * (p * p)) (r * p) (subst (λ (x : ℕ). x < n * (p * p)) (sym (mul-mul-mul_comm r p r p)) (mul-lt-mul_of_pos_right l (mul-pos P P)))))
        (subst (λ (x : ℕ). twice_root (n * (p * p)) < x) (sym (mul_assoc 2 (r + 1) p) ∙ ap (λ (x : ℕ). x * p) (next-even r))
        (twice_lt (n * (p * p)) ((r + 1) * p) (subst (λ (x : ℕ). n * (p * p) < x) (sym (mul-mul-mul_comm (r + 1) p (r + 1) p)) (mul-lt-mul_of_pos_right is.over (mul-pos P P)))))
        ∙ sym (rounds_alike r big (twice_root n) 1 (lit< tt) (subst (λ (x : ℕ). 2 * r * 1 < x) (sym (twice_short n r is l)) (low r)) (subst (λ (x : ℕ). x < (2 * r + 2) * 1) (sym (twice_short n r is l)) (high r)))
  ]
    where
      low : (r : ℕ) → 2 * r * 1 < 2 * r + 1
      low r = omega arith

      high : (r : ℕ) → 2 * r + 1 < (2 * r + 2) * 1
      high r = omega arith

-- p is 2 ^ 1671: 4542 places are 1200 and twice 1671, and 2272 are 601 and 1671
module _ (m : ℕ) (e : ℤ) (t : T (fits binary64 (fin false (suc m) e))) (p w d : ℕ) (P : 0 < p) (W : 2 ^ 1200 * (p * p) ≡ w) (D : p * 2 ^ 601 ≡ d) where
  abbrev x : ℕ
  x = suc m * up e

  abbrev n : ℕ
  n = x * 2 ^ 1200 / down e

  wide : n * (p * p) * down e ≡ x * w
  wide = mul_right_comm n (p * p) (down e) ∙ ap (λ (y : ℕ). y * (p * p)) (n_is m e t 1 1 (lit< tt)) ∙ mul_assoc x (2 ^ 1200) (p * p) ∙ ap (λ (y : ℕ). x * y) W

  number : x * w / down e ≡ n * (p * p)
  number = ap (λ (y : ℕ). y / down e) (sym wide) ∙ mul-div_cancel (n * (p * p)) (down_pos e)

  above : round binary64 false (root_twice (x * w / down e)) d ≡ round binary64 false (twice_root n) (2 ^ 601)
  above =
      ap (λ (y : ℕ). round binary64 false y d) (twice_below (x * w / down e) ∙ ap twice_root number)
      ∙ ap (λ (y : ℕ). round binary64 false (twice_root (n * (p * p))) y) (sym D)
      ∙ scaled_root n p P (r_big m e t 1 1 (lit< tt))

std_above : (m : ℕ) (e : ℤ) → sqrt binary64 (fin false (suc m) e) ≡ round binary64 false (root_twice (suc m * up e * 2 ^ 4542 / down e)) (2 ^ 2272)
unfolding sqrt
std_above m e = refl

places : 2 ^ 1200 * (2 ^ 1671 * 2 ^ 1671) ≡ 2 ^ 4542
places = ap (λ (y : ℕ). 2 ^ 1200 * y) (sym (pow-add 2 1671 1671)) ∙ sym (pow-add 2 1200 3342)

not-zero : (m : ℕ) → suc m ≡ 0 → ⊥
not-zero m z = omega arith

positive : (m : ℕ) (e : ℤ) → T (fits binary64 (fin false (suc m) e)) → sqrt binary64 (fin false (suc m) e) ≡ square_root (fin false (suc m) e)
positive m e t =
    std_above m e
    ∙ above m e t (2 ^ 1671) (2 ^ 4542) (2 ^ 2272) (pow_pos 1671) places (sym (pow-add 2 1671 601))
    ∙ sym (root_at (suc m) e (not-zero m))

zero_exponent : (s : Bool) (e : ℤ) → T (fits binary64 (fin s zero e)) → e ≡ pos 0
unfolding fits
zero_exponent s e t = plain e (eqb→eq (up e * down e) 1 t)

zeros : (s : Bool) (e : ℤ) → e ≡ pos 0 → sqrt binary64 (fin s zero e) ≡ square_root (fin s zero e)
unfolding sqrt square_root
zeros true e h = ap (fin true 0) (sym h)
zeros false e h = ap (fin false 0) (sym h)

minus : (m : ℕ) (e : ℤ) → sqrt binary64 (fin true (suc m) e) ≡ square_root (fin true (suc m) e)
unfolding sqrt square_root
minus m e = sym (ap (λ (b : Bool). cond b (fin true (suc m) e) nan) (ne_eqb (suc m) 0 (not-zero m)))

infinite : (s : Bool) → sqrt binary64 (inf s) ≡ square_root (inf s)
unfolding sqrt square_root
infinite true = refl
infinite false = refl

none : sqrt binary64 nan ≡ square_root nan
unfolding sqrt square_root
none = refl

pub sqrt_is : (x : Float) → T (fits binary64 x) → sqrt binary64 x ≡ square_root x
sqrt_is nan t = none
sqrt_is (inf s) t = infinite s
sqrt_is (fin s zero e) t = zeros s e (zero_exponent s e t)
sqrt_is (fin true (suc m) e) t = minus m e
sqrt_is (fin false (suc m) e) t = positive m e t
