-- `twice_root`: what it is at least and at most, and that it is twice the root where that is whole, and else one more than twice its whole part.
use Rattle.std.proofs.Common.{◌≡◌, ℕ, zero, suc, ◌+◌, ◌*◌, ◌/◌, ◌^◌, ◌<◌, ◌≤◌, Bool, true, false, cond, not, T, eqb, leb, sym, refl, ap, ◌∙◌, subst, le_of_eq, lt_of_lt_of_le, le_of_suc-le-suc, lt_of_le_of_lt, add-zero, le_of_lt, mul_comm, div-lt_iff_lt-mul, le_antisymm, pow-suc, add-one, arith, lit<, lit≤, eqb→eq, leb→le, eq-eqb}
use native.Mathlib.Nat.{pow-le-pow_left}
use native.Mathlib.Numerals.{suc-eq-add-one}
use lib.Dec.{nleb→lt}
use lib.Ieee.{size}
use lib.Ieee.Digits.{size-lt}
use Rattle.floats.specs.Sqrt.{root_by, whole_root, twice_root}
use Rattle.floats.proofs.Squares.{sq_twice, sq_next, sq_lt_back, sq_le_back, IsRoot}

-- ---- `whole_root` is the whole part of the root
next_digit : (n s : ℕ) → IsRoot (n / 4) s → IsRoot n (cond (leb (suc (2 * s) * suc (2 * s)) n) (suc (2 * s)) (2 * s))
next_digit n s h = go (leb (suc (2 * s) * suc (2 * s)) n) (leb→le (suc (2 * s) * suc (2 * s)) n) (nleb→lt (suc (2 * s) * suc (2 * s)) n)
  where
    four : 2 * s * (2 * s) ≡ s * s * 4
    four = ap (λ (x : ℕ). x * x) (mul_comm 2 s) ∙ sq_twice s

    two_more : (suc (2 * s) + 1) * (suc (2 * s) + 1) ≡ 2 * s * (2 * s) + 2 * s * 2 + 1 + suc (2 * s) * 2 + 1
    two_more = sq_next (suc (2 * s)) ∙ ap (λ (x : ℕ). x + suc (2 * s) * 2 + 1) (ap (λ (x : ℕ). x * x) (suc-eq-add-one (2 * s)) ∙ sq_next (2 * s))

    low : (n x y : ℕ) → y ≤ n / 4 → x ≡ y * 4 → x ≤ n
    low n x y h e = omega arith

    high : (n x y z w s : ℕ) → n / 4 < y → y ≡ x + s * 2 + 1 → z ≡ x * 4 → w ≡ z + 2 * s * 2 + 1 + suc (2 * s) * 2 + 1 → n < w
    high n x y z w s h e f g = omega arith

    go : (b : Bool) → (T b → suc (2 * s) * suc (2 * s) ≤ n) → (T (not b) → n < suc (2 * s) * suc (2 * s)) → IsRoot n (cond b (suc (2 * s)) (2 * s))
    go true a b = record { under = a tt; over = high n (s * s) ((s + 1) * (s + 1)) (2 * s * (2 * s)) ((suc (2 * s) + 1) * (suc (2 * s) + 1)) s h.over (sq_next s) four two_more }
    go false a b = record { under = low n (2 * s * (2 * s)) (s * s) h.under four; over = subst (λ (x : ℕ). n < x * x) (suc-eq-add-one (2 * s)) (b tt) }

root_by_is : (d n : ℕ) → n < 4 ^ d → IsRoot n (root_by d n)
unfolding root_by
root_by_is zero n h = record { under = omega arith; over = h }
root_by_is (suc d) n h = next_digit n (root_by d (n / 4)) (root_by_is d (n / 4) ((div-lt_iff_lt-mul (lit< tt)).1 (subst (λ (x : ℕ). n < x) (pow-suc 4 d) h)))

pub whole_root_is : (n : ℕ) → IsRoot n (whole_root n)
whole_root_is n = root_by_is (size n) n (lt_of_lt_of_le (size-lt n) (pow-le-pow_left (lit≤ tt) (size n)))

-- ---- `twice_root` beside twice a number s
module _ (n : ℕ) where
  abbrev root : ℕ
  root = whole_root n

  abbrev extra : ℕ
  extra = cond (eqb (root * root) n) 0 1

  twice_is : twice_root n ≡ 2 * root + extra
  unfolding twice_root
  twice_is = refl

  root_ge : (s : ℕ) → s * s ≤ n → s ≤ root
  root_ge s h = le_of_suc-le-suc (subst (λ (x : ℕ). s < x) (add-one root) (sq_lt_back s (root + 1) (lt_of_le_of_lt h (whole_root_is n).over)))

  pub twice_lt : (s : ℕ) → n < s * s → twice_root n < 2 * s
  twice_lt s h = subst (λ (x : ℕ). x < 2 * s) (sym twice_is) (go root s extra (sq_lt_back root s (lt_of_le_of_lt (whole_root_is n).under h)) (small (eqb (root * root) n)))
    where
      small : (b : Bool) → cond b 0 1 ≤ 1
      small true = lit≤ tt
      small false = lit≤ tt

      go : (r s c : ℕ) → r < s → c ≤ 1 → 2 * r + c < 2 * s
      go r s c h k = omega arith

  pub twice_gt : (s : ℕ) → s * s < n → 2 * s < twice_root n
  twice_gt s h = subst (λ (x : ℕ). 2 * s < x) (sym twice_is) (go (eqb (root * root) n) (eqb→eq (root * root) n))
    where
      whole : (s r : ℕ) → s < r → 2 * s < 2 * r + 0
      whole s r h = omega arith

      short : (s r : ℕ) → s ≤ r → 2 * s < 2 * r + 1
      short s r h = omega arith

      go : (b : Bool) → (T b → root * root ≡ n) → 2 * s < 2 * root + cond b 0 1
      go true e = whole s root (sq_lt_back s root (subst (λ (x : ℕ). s * s < x) (sym (e tt)) h))
      go false e = short s root (root_ge s (le_of_lt h))

  pub twice_exact : (s : ℕ) → s * s ≡ n → twice_root n ≡ 2 * s
  twice_exact s e =
      let r : root ≡ s = le_antisymm (sq_le_back root s (subst (λ (x : ℕ). root * root ≤ x) (sym e) (whole_root_is n).under)) (root_ge s (le_of_eq e)) in
      twice_is ∙ ap (λ (x : ℕ). 2 * x + cond (eqb (x * x) n) 0 1) r ∙ ap (λ (b : Bool). 2 * s + cond b 0 1) (eq-eqb (s * s) n e) ∙ add-zero (2 * s)

  pub twice_short : (s : ℕ) → IsRoot n s → s * s < n → twice_root n ≡ 2 * s + 1
  twice_short s h l = go (twice_root n) s (twice_gt s l) (twice_lt (s + 1) h.over)
    where
      go : (t s : ℕ) → 2 * s < t → t < 2 * (s + 1) → t ≡ 2 * s + 1
      go t s a b = omega arith

pub next-even : (r : ℕ) → 2 * (r + 1) ≡ 2 * r + 2
next-even r = omega arith
