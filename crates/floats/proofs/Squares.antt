-- Squares, and the whole part of a root.
use Rattle.std.proofs.Common.{◌≡◌, ℕ, ◌+◌, ◌*◌, ◌<◌, ◌≤◌, sym, ap, ◌∙◌, subst, le_of_suc-le-suc, lt_of_le_of_lt, add-mul, mul-le-mul, lt_of_not-le, mul-add, not-le_of_lt, add-one, arith}
use native.Mathlib.Nat.{mul-mul-mul_comm}

pub sq_twice : (r : ℕ) → r * 2 * (r * 2) ≡ r * r * 4
sq_twice r = mul-mul-mul_comm r 2 r 2

pub sq_next : (r : ℕ) → (r + 1) * (r + 1) ≡ r * r + r * 2 + 1
sq_next r = add-mul r 1 (r + 1) ∙ ap (λ (x : ℕ). x + 1 * (r + 1)) (mul-add r r 1) ∙ go (r * r) r
  where
    go : (s r : ℕ) → s + r * 1 + 1 * (r + 1) ≡ s + r * 2 + 1
    go s r = omega arith

pub sq_lt_back : (a b : ℕ) → a * a < b * b → a < b
sq_lt_back a b h = lt_of_not-le (λ (g : b ≤ a). not-le_of_lt h (mul-le-mul g g))

pub sq_le_back : (a b : ℕ) → a * a ≤ b * b → a ≤ b
sq_le_back a b h = le_of_suc-le-suc (subst (λ (x : ℕ). a < x) (add-one b) (sq_lt_back a (b + 1) (lt_of_le_of_lt h (subst (λ (x : ℕ). b * b < x) (sym (sq_next b)) (more (b * b) b)))))
  where
    more : (s b : ℕ) → s < s + b * 2 + 1
    more s b = omega arith

-- r is the whole part of the root of n
pub record IsRoot (n r : ℕ) : Type 0 where
  pub under : r * r ≤ n
  pub over : n < (r + 1) * (r + 1)
