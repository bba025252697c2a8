-- The test that code makes of an f32's bits, and what a list of bits that passes it gives.
use mathlib.Core.Path.{◌≡◌, refl, sym, ap, ◌∙◌}
use mathlib.Core.Bool.{Bool, true, false, not}
use mathlib.Core.List.{List}
use Prim.Native.Nat.{ℕ, ◌/◌, ◌%◌, ◌<◌}
use lib.ListN.{length, get_or}
use lib.Dec.{T, eqb}
use lib.Ieee.{binary32, nan_bits}
use lib.Ieee.Scale.{finite}
use borrow.Author.Tests.{not-false}
use Rattle.loops.proofs.Tests.{none_at}
use Rattle.floats.specs.Operators.{f32}
use Rattle.floats.proofs.Finite.{finite-field, finite-pattern}
use Rattle.rounds.specs.Voice.{any_not_finite}

pub fault_is : (b : ℕ) → eqb (b % 2147483648 / 8388608) 255 ≡ not (finite (f32 b))
fault_is b = sym (ap not (finite-field binary32 b) ∙ not-twice (eqb (b % 2147483648 / 8388608) 255))
  where
    not-twice : (t : Bool) → not (not t) ≡ t
    not-twice true = refl
    not-twice false = refl

-- of a list without a fault, each is finite, and may become a float
pub finite-at : (xs : List ℕ) (i : ℕ) → any_not_finite xs ≡ false → i < length xs → finite (f32 (get_or xs i 0)) ≡ true
finite-at xs i e l = not-false _ (none_at (λ b. not (finite (f32 b))) 0 xs i e l)

pub float_at : (xs : List ℕ) (i : ℕ) → any_not_finite xs ≡ false → i < length xs → T (not (nan_bits binary32 (get_or xs i 0)))
float_at xs i e l = finite-pattern binary32 _ (finite-at xs i e l)
