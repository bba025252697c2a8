-- The code sums dimension by dimension for all Gaussians, the definition Gaussian by Gaussian.
use mathlib.Core.Path.{◌≡◌, ap, ◌∙◌}
use mathlib.Core.List.{List}
use Prim.Native.Nat.{ℕ, ◌+◌, ◌*◌, ◌≤◌, ◌<◌}
use native.Mathlib.Nat.{mul_comm}
use native.Mathlib.Omega.{arith}
use lib.ListN.{length}
use lib.Ieee.{Float, nan}
use Rattle.loops.specs.Lists.{build}
use Rattle.loops.specs.Inner.{fill}
use Rattle.loops.proofs.Build.{length_build, at_build, build_ext}
use Rattle.loops.proofs.Fill.{fill_whole}
use Rattle.floats.specs.Operators.{◌+₃₂◌, ◌-₃₂◌, ◌*₃₂◌, f32, zero₃₂, at, sum₃₂}
use Rattle.definition.specs.Posteriors.{loglikes}
use Rattle.gmm.proofs.Passes.{rows_from}

-- a table has d rows as wide as the room of g places
pub table_in_lem : (g d n l : ℕ) → n ≡ g → g * d ≤ l → d * n ≤ l
table_in_lem g d n l e h = rw e (omega (arith, mul_comm g d))

-- for each of g Gaussians the sum over d dimensions of a table, each times v
unfoldable pub sums : ℕ → List Float → (ℕ → Float) → ℕ → List Float
sums g table v d = build g (λ m. sum₃₂ zero₃₂ d (λ k. at table (k * g + m) *₃₂ v k))

module _ (g d : ℕ) (table : List Float) (v : ℕ → Float) where
  pub sums_are : (room : List Float) {y z : List Float} → length room ≡ g → y ≡ fill (length room) (λ m. zero₃₂) room
      → z ≡ fill (length y) (λ m. sum₃₂ (at y m) d (λ k. at table (k * length y + m) *₃₂ v k)) y → z ≡ sums g table v d
  unfolding sums
  sums_are room l e = rows_from g d table v (λ m. zero₃₂) room l (e ∙ ap (λ (n : ℕ). fill n (λ m. zero₃₂) room) l)

  sums_at : (m : ℕ) {x : List Float} → m < g → x ≡ sums g table v d → at x m ≡ sum₃₂ zero₃₂ d (λ k. at table (k * g + m) *₃₂ v k)
  unfolding sums
  sums_at m h e = ap (λ (x : List Float). at x m) e ∙ at_build nan g _ m h

-- the sums a and b joined
pub loglikes_is : (g d : ℕ) (gconsts means inv x : List Float) {a b y : List Float} → a ≡ sums g means (at x) d → b ≡ sums g inv (λ k. at x k *₃₂ at x k) d
    → y ≡ fill (length a) (λ m. at gconsts m +₃₂ at a m -₃₂ f32 0x3f00_0000 *₃₂ at b m) a → y ≡ loglikes g d gconsts means inv x
unfolding loglikes sums
loglikes_is g d gconsts means inv x {a} {b} p q h =
    let l : length a ≡ g = ap length p ∙ length_build g _ in
    h ∙ fill_whole _ (length a) a (omega arith) ∙ ap (λ (n : ℕ). build n (λ m. at gconsts m +₃₂ at a m -₃₂ f32 0x3f00_0000 *₃₂ at b m)) l
    ∙ build_ext g _ _ (λ m s. rw (sums_at g d means (at x) m s p, sums_at g d inv (λ k. at x k *₃₂ at x k) m s q))
