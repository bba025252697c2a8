-- The root of a value above zero, and what `round` drops and keeps of a number of 601 binary places.
use Rattle.std.proofs.Common.{◌≡◌, ℕ, ◌+◌, ◌*◌, ◌/◌, ◌^◌, ◌<◌, ◌≤◌, Bool, false, cond, ℤ, sym, ap, ◌∙◌, le_trans, le_of_eq, lt_of_lt_of_le, mul-le-mul_right, mul_assoc, mul_comm, mul-lt-mul_of_pos_right, mul-pos, mul_left_comm, arith, lit<, pow_pos, pow-add, ne_eqb}
use lib.Ieee.{fin, binary64, up, down, round}
use lib.Ieee.Order.{drop}
use Rattle.floats.specs.Sqrt.{twice_root, square_root}
use Rattle.floats.proofs.Sizes.{drop_is}

-- ---- a value above zero
pub root_at : (m : ℕ) (e : ℤ) → (m ≡ 0 → ⊥) → square_root (fin false m e) ≡ round binary64 false (twice_root (m * up e * 2 ^ 1200 / down e)) (2 ^ 601)
unfolding square_root
root_at m e h = ap (λ (b : Bool). cond b (fin false m e) (round binary64 false (twice_root (m * up e * 2 ^ 1200 / down e)) (2 ^ 601))) (ne_eqb m 0 h)

-- ---- y / b, with 55 + j digits in its whole part, as a number of 601 binary places: what `round` drops of it and keeps
module _ (y b j : ℕ) (B : 0 < b) where
  pub places_dropped : 2 ^ (54 + j) * b ≤ y → y < 2 ^ (55 + j) * b → drop 53 (y * 2 ^ 1074) (b * 2 ^ 601) ≡ 475 + j
  places_dropped l u =
      drop_is 53 (y * 2 ^ 1074) (b * 2 ^ 601) (475 + j) (lit< tt) (mul-pos B (pow_pos 601))
      (lt_of_lt_of_le (mul-lt-mul_of_pos_right u (pow_pos 1074)) (le_of_eq (sym (swap (53 + (475 + j)) (55 + j) (high j)))))
      (λ _. le_trans (le_of_eq (swap (52 + (475 + j)) (54 + j) (low j))) (mul-le-mul_right (2 ^ 1074) l))
    where
      high : (j : ℕ) → 53 + (475 + j) + 601 ≡ 55 + j + 1074
      high j = omega arith

      low : (j : ℕ) → 52 + (475 + j) + 601 ≡ 54 + j + 1074
      low j = omega arith

      swap : (p s : ℕ) → p + 601 ≡ s + 1074 → 2 ^ p * (b * 2 ^ 601) ≡ 2 ^ s * b * 2 ^ 1074
      swap p s e =
          mul_left_comm (2 ^ p) b (2 ^ 601)
          ∙ ap (λ (x : ℕ). b * x) (sym (pow-add 2 p 601) ∙ ap (λ (x : ℕ). 2 ^ x) e ∙ pow-add 2 s 1074)
          ∙ sym (mul_assoc b (2 ^ s) (2 ^ 1074))
          ∙ ap (λ (x : ℕ). x * 2 ^ 1074) (mul_comm b (2 ^ s))

  pub places_kept : y * 2 ^ 1074 * (4 * (2 ^ j * b)) ≡ y * (b * 2 ^ 601 * 2 ^ (475 + j))
  places_kept =
      mul_assoc y (2 ^ 1074) (4 * (2 ^ j * b))
      ∙ ap (λ (x : ℕ). y * x)
      (ap (λ (x : ℕ). 2 ^ 1074 * x) (sym (mul_assoc 4 (2 ^ j) b) ∙ ap (λ (x : ℕ). x * b) (sym (pow-add 2 2 j)))
      ∙ sym (mul_assoc (2 ^ 1074) (2 ^ (2 + j)) b)
      ∙ ap (λ (x : ℕ). x * b) (sym (pow-add 2 1074 (2 + j)) ∙ ap (λ (x : ℕ). 2 ^ x) (sums j) ∙ pow-add 2 601 (475 + j))
      ∙ mul_comm (2 ^ 601 * 2 ^ (475 + j)) b
      ∙ sym (mul_assoc b (2 ^ 601) (2 ^ (475 + j))))
    where
      sums : (j : ℕ) → 1074 + (2 + j) ≡ 601 + (475 + j)
      sums j = omega arith
