-- Places in a packed matrix, which is symmetric.
use mathlib.Core.Path.{◌≡◌, sym, ◌∙◌}
use Prim.Native.Nat.{ℕ, ◌+◌, ◌*◌, ◌^◌, ◌≤◌, ◌<◌}
use native.Mathlib.Nat.{le_antisymm, mul-le-mul}
use native.Mathlib.Omega.{arith}
use lib.Dec.{leb}
use borrow.Author.Tests.{le-leb, lt-leb, leb-true, leb-false}
use Rattle.loops.proofs.Choose.{by-test}
use Rattle.loops.proofs.Triangle.{triangle-below}
use Rattle.definition.specs.Kaldi.{triangle}
use Rattle.definition.specs.Model.{packed}

pub packed-low : (i j : ℕ) → j ≤ i → triangle i + j ≡ packed i j
unfolding packed
packed-low i j h = simp (le-leb j i h)

pub packed_high : (i j : ℕ) → i < j → triangle j + i ≡ packed i j
unfolding packed
packed_high i j h = simp (lt-leb j i h)

-- the matrix is symmetric
turned : (i j : ℕ) → j ≤ i → packed i j ≡ packed j i
turned i j h =
    by-test (leb i j) (λ e. let p : i ≡ j = le_antisymm (leb-true i j e) h in rw p) (λ e. sym (packed-low i j h) ∙ packed_high j i (leb-false i j e))

pub packed-turned : (i j : ℕ) → packed i j ≡ packed j i
packed-turned i j = by-test (leb j i) (λ e. turned i j (leb-true j i e)) (λ e. sym (turned j i (omega (arith, leb-false j i e))))

pub packed-below : (i j n : ℕ) → i < n → j < n → packed i j < triangle n
packed-below i j n p q =
    by-test (leb j i) (λ e. let h : j ≤ i = leb-true j i e in rw (← packed-low i j h) (triangle-below i j n h p))
    (λ e. let h : i < j = leb-false j i e in rw (← packed_high i j h) (triangle-below j i n (omega arith) q))

pub product_fits : (i : ℕ) → i < 65536 → i * (i + 1) < 2 ^ 64
product_fits i h = let u : i * (i + 1) ≤ 65536 * 65536 = mul-le-mul {n₂ = 65536} {m₂ = 65536} (omega arith) (omega arith) in omega arith
