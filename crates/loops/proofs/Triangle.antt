-- A triangle, row after row: row p has p + 1 elements and begins at p * (p + 1) / 2.
use mathlib.Core.Path.{◌≡◌, ap, ◌∙◌}
use Prim.Native.Nat.{ℕ, zero, suc, ◌+◌, ◌*◌, ◌/◌, ◌≤◌, ◌<◌}
use native.Mathlib.Nat.{mul_comm, add-mul, mul-le-mul}
use native.Mathlib.Omega.{arith}
use lib.ListN.{length, length-append}
use Rattle.loops.specs.Lists.{build, flat}
use Rattle.loops.proofs.Build.{length_build}
use Rattle.loops.proofs.Flat.{flat_none, flat_snoc}

-- where the row after row n begins
pub triangle-next : (n : ℕ) → (n + 1) * (n + 1 + 1) / 2 ≡ n * (n + 1) / 2 + n + 1
triangle-next n =
    let a : n + 1 + 1 ≡ n + 2 = omega arith in
    let e : (n + 1) * (n + 1 + 1) ≡ n * (n + 1) + 2 * (n + 1) = ap (λ (k : ℕ). (n + 1) * k) a ∙ mul_comm (n + 1) (n + 2) ∙ add-mul n 2 (n + 1) in
    omega arith

pub triangle-below : (p q n : ℕ) → q ≤ p → p < n → p * (p + 1) / 2 + q < n * (n + 1) / 2
triangle-below p q n h l =
    let u : (p + 1) * (p + 1 + 1) ≤ n * (n + 1) = mul-le-mul (omega arith) (omega arith) in
    omega (arith, triangle-next p)

module _ {A : Type 0} (f : ℕ → ℕ → A) where
  pub length_triangle : (n : ℕ) → length (flat n (λ p. build (p + 1) (f p))) ≡ n * (n + 1) / 2
  length_triangle zero = ap length (flat_none (λ p. build (p + 1) (f p)))
  length_triangle (suc n) =
      let e : suc n ≡ n + 1 = omega arith in
      ap length (flat_snoc n (λ p. build (p + 1) (f p)))
      ∙ length-append (flat n (λ p. build (p + 1) (f p))) (build (n + 1) (f n))
      ∙ omega (arith, length_triangle n, length_build (n + 1) (f n), triangle-next n, ap (λ (k : ℕ). k * (k + 1) / 2) e)
