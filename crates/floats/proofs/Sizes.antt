-- Powers of two, and the number of binary digits; and what `omega` tells of a number and the one below it, where it is not to look at powers.
use Rattle.std.proofs.Common.{◌≡◌, ℕ, suc, ◌+◌, ◌-◌, ◌*◌, ◌/◌, ◌^◌, ◌<◌, ◌≤◌, sym, ap, ◌∙◌, subst, inl, inr, lt_of_lt_of_le, le_of_suc-le-suc, mul-le-mul_right, div-lt_iff_lt-mul, eq-zero-or-pos, le_antisymm, lt_of_not-le, le-div_iff_mul-le, not-le_of_lt, arith, pow_mono, pow-add, shl_lt}
use native.Mathlib.Nat.{pow-succ'}
use lib.Pow.{pow-lt}
use lib.Ieee.{size}
use lib.Ieee.Digits.{size-lt, size-le, size_reaches}
use lib.Ieee.Order.{drop}

pub none_left : (n : ℕ) → n ≤ 0 → n ≡ 0
none_left n h = omega arith

pub one_back : (k : ℕ) → 0 < k → suc (k - 1) ≡ k
one_back k h = omega arith

pub pow_lt_back : (i j : ℕ) → 2 ^ i < 2 ^ j → i < j
pow_lt_back i j h = lt_of_not-le (λ (g : j ≤ i). not-le_of_lt h (pow_mono g))

pub pow_le_back : (i j : ℕ) → 2 ^ i ≤ 2 ^ j → i ≤ j
pow_le_back i j h = le_of_suc-le-suc (lt_of_not-le (λ (g : suc j ≤ i). not-le_of_lt (pow-lt g) h))

pub pow_twice : (k : ℕ) → 0 < k → 2 ^ k ≡ 2 * 2 ^ (k - 1)
pow_twice k h = ap (λ (x : ℕ). 2 ^ x) (sym (one_back k h)) ∙ pow-succ' 2 (k - 1)

pub size_gt : (n j : ℕ) → 2 ^ j ≤ n → j < size n
size_gt n j h = lt_of_not-le (λ (g : size n ≤ j). not-le_of_lt (lt_of_lt_of_le (size-lt n) (pow_mono g)) h)

pub size_exact : (j n : ℕ) → 2 ^ j ≤ n → n < 2 ^ suc j → size n ≡ suc j
size_exact j n lo hi = le_antisymm (size-le n (suc j) hi) (size_gt n j lo)

-- j zeros put after a number's digits
pub size_shift : (m j : ℕ) → 0 < m → size (m * 2 ^ j) ≡ size m + j
size_shift m j h =
    size_exact (size m - 1 + j) (m * 2 ^ j)
    (subst (λ (x : ℕ). x ≤ m * 2 ^ j) (sym (pow-add 2 (size m - 1) j)) (mul-le-mul_right (2 ^ j) (size_reaches m (size m - 1) (pred (size m) (size_gt m 0 h)))))
    (subst (λ (x : ℕ). m * 2 ^ j < 2 ^ x) (next (size m) j (size_gt m 0 h)) (shl_lt (size m) j (size-lt m)))
    ∙ sym (next (size m) j (size_gt m 0 h))
  where
    pred : (z : ℕ) → 0 < z → z - 1 < z
    pred z h = omega arith

    next : (z j : ℕ) → 0 < z → z + j ≡ suc (z - 1 + j)
    next z j h = omega arith

-- j digits are more than p: n has p + j digits, or where j is 0 at most p
pub size-past : (n p j : ℕ) → 0 < p → n < 2 ^ (p + j) → (0 < j → 2 ^ (p - 1 + j) ≤ n) → size n - p ≡ j
size-past n p j P u l = elim (eq-zero-or-pos j) [
  | inl z ↦ none (size n) p j (size-le n (p + j) u) z
  | inr h ↦ some (size n) p j P (size-le n (p + j) u) (size_gt n (p - 1 + j) (l h))
]
  where
    none : (z p j : ℕ) → z ≤ p + j → j ≡ 0 → z - p ≡ j
    none z p j h e = omega arith

    some : (z p j : ℕ) → 0 < p → z ≤ p + j → p - 1 + j < z → z - p ≡ j
    some z p j P h g = omega arith

-- so many digits are dropped of the whole part of n / den
pub drop_is : (p n den j : ℕ) → 0 < p → 0 < den → n < 2 ^ (p + j) * den → (0 < j → 2 ^ (p - 1 + j) * den ≤ n) → drop p n den ≡ j
drop_is p n den j P D u l = size-past (n / den) p j P ((div-lt_iff_lt-mul D).1 u) (λ g. (le-div_iff_mul-le D).1 (l g))
