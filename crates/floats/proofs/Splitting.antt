-- The loop of `split`, which doubles the digits of a subnormal f64 until it has all of them.
use Rattle.std.proofs.Common.{◌≡◌, ℕ, ◌+◌, ◌-◌, ◌*◌, ◌/◌, ◌%◌, ◌^◌, ◌<◌, ◌≤◌, cond, eqb, sym, ap, ◌∙◌, subst, le_trans, le_of_eq, lt_of_le_of_lt, mul-le-mul_right, mul_assoc, one-mul, zero-add, arith, pow-add, shl_lt}
use native.Mathlib.Nat.{pow-succ'}
use lib.Ieee.{binary64}
use Rattle.floats.specs.Inner.{digits, units_of, IsSplit}
use Rattle.floats.proofs.Sizes.{none_left, one_back, pow_lt_back}
use Rattle.floats.proofs.Patterns.{digits_normal, digits_lt, units-pos}

pub record Doubling (a q e : ℕ) : Type 0 where
  pub value : q * 2 ^ e ≡ units_of binary64 a * 2 ^ 126
  pub top : q < 2 ^ 53
  pub high : e < 2172

-- where the loop begins
begun : (a q e : ℕ) → a < 0x7ff0_0000_0000_0000 → q ≡ digits binary64 a → e ≡ a / 2 ^ 52 - 1 + 126 → Doubling a q e
begun a q e h p r = record {
  value =
      ap (λ (x : ℕ). q * x) (ap (λ (x : ℕ). 2 ^ x) r ∙ pow-add 2 (a / 2 ^ 52 - 1) 126)
      ∙ sym (mul_assoc q (2 ^ (a / 2 ^ 52 - 1)) (2 ^ 126))
      ∙ ap (λ (x : ℕ). x * 2 ^ (a / 2 ^ 52 - 1) * 2 ^ 126) p;
  top = subst (λ (x : ℕ). x < 2 ^ 53) (sym p) (digits_lt binary64 a);
  high = upper a e h r;
}
  where
    upper : (a e : ℕ) → a < 9218868437227405312 → e ≡ a / 4503599627370496 - 1 + 126 → e < 2172
    upper a e h r = omega arith

pub begun_normal : (a q e : ℕ) → a < 0x7ff0_0000_0000_0000 → 0 < a / 2 ^ 52 → q ≡ a % 2 ^ 52 + 2 ^ 52 → e ≡ a / 2 ^ 52 + 125 → Doubling a q e
begun_normal a q e h k p r = begun a q e h (p ∙ sym (digits_normal binary64 a k)) (r ∙ go (a / 2 ^ 52) k)
  where
    go : (x : ℕ) → 0 < x → x + 125 ≡ x - 1 + 126
    go x h = omega arith

pub begun_subnormal : (a q e : ℕ) → a < 0x7ff0_0000_0000_0000 → a / 2 ^ 52 ≤ 0 → q ≡ a % 2 ^ 52 → e ≡ 126 → Doubling a q e
begun_subnormal a q e h k p r =
    begun a q e h (p ∙ sym (zero-add (a % 2 ^ 52)) ∙ ap (λ (x : ℕ). cond (eqb x 0) 0 (2 ^ 52) + a % 2 ^ 52) (sym (none_left (a / 2 ^ 52) k))) (r ∙ ap (λ (x : ℕ). x - 1 + 126) (sym (none_left (a / 2 ^ 52) k)))

module _ (a q e : ℕ) (h : 0 < a) (g : Doubling a q e) where
  -- there is one unit at least, so digits that are few stand high
  enough : (j : ℕ) → q < 2 ^ j → 126 < j + e
  enough j t =
      pow_lt_back 126 (j + e)
      (lt_of_le_of_lt (le_trans (le_of_eq (sym (one-mul (2 ^ 126)))) (mul-le-mul_right (2 ^ 126) (units-pos binary64 a h)))
      (subst (λ (x : ℕ). x < 2 ^ (j + e)) g.value (shl_lt j e t)))

  pub falls : q < 2 ^ 52 → 74 < e
  falls l = go e (enough 52 l)
    where
      go : (e : ℕ) → 126 < 52 + e → 74 < e
      go e h = omega arith

  pub doubled : q < 2 ^ 52 → Doubling a (q * 2) (e - 1)
  doubled l = record {
    value = mul_assoc q 2 (2 ^ (e - 1)) ∙ ap (λ (x : ℕ). q * x) (sym (pow-succ' 2 (e - 1)) ∙ ap (λ (x : ℕ). 2 ^ x) (one_back e (above_zero e (falls l)))) ∙ g.value;
    top = two q l;
    high = less e g.high;
  }
    where
      above_zero : (e : ℕ) → 74 < e → 0 < e
      above_zero e h = omega arith

      two : (q : ℕ) → q < 4503599627370496 → q * 2 < 9007199254740992
      two q h = omega arith

      less : (e : ℕ) → e < 2172 → e - 1 < 2172
      less e h = omega arith

  pub done : 2 ^ 52 ≤ q → IsSplit a q e
  done l = record { value = g.value; full = l; top = g.top; low = go e (enough 53 g.top); high = g.high }
    where
      go : (e : ℕ) → 126 < 53 + e → 74 ≤ e
      go e h = omega arith
