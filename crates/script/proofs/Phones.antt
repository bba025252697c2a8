-- A phone below zero is taken from zero.
use mathlib.Core.Path.{◌≡◌, sym, subst}
use mathlib.Core.Bool.{Bool, true, false, cond}
use Prim.Native.Nat.{ℕ, zero, suc, ◌-◌, ◌^◌, ◌%◌, ◌<◌}
use native.Mathlib.Omega.{arith}
use lib.Dec.{ltb}
use lib.IntN.{ℤ, pos, negsuc, ◌-ℤ◌}
use lib.Signed.{mag}
use mir.Syntax.{w32}
use mir.Val.{to_z, of_z, SFits}
use mir.ValLaws.{to_z_pos}
use Rattle.std.proofs.lemmas.Int.{to_z-of_z}
use Rattle.script.specs.declared.Signed.{Signed}
use Rattle.script.specs.Words.{phone_of}

small : (m : ℕ) → m < 1073741824 → mag (pos 0 -ℤ pos m) < 2 ^ 31
small zero h = omega arith
small (suc n) h = go (ltb 0 (suc n))
  where
    below : (n : ℕ) → suc n < 1073741824 → suc n - 1 < 2147483648
    below n h = omega arith

    go : (t : Bool) → mag (cond t (negsuc (suc n - 1)) (pos (0 - suc n))) < 2 ^ 31
    go true = below n h
    go false = omega arith

pub phone_fits : (n : ℕ) → SFits w32 (pos 0 -ℤ to_z w32 (n % 1073741824))
phone_fits n = let m = n % 1073741824 in let h : m < 1073741824 = omega arith in subst (λ (z : ℤ). SFits w32 (pos 0 -ℤ z)) (sym (to_z_pos w32 m (omega arith))) (record { sfits = small m h })

-- the phone of a number with a minus sign, and of one without
module _ (by : Signed) where
  pub phone_minus : by.minus ≡ true → to_z w32 (of_z w32 (pos 0 -ℤ to_z w32 (by.size % 1073741824))) ≡ phone_of by
  unfolding phone_of
  phone_minus e = rw (e, to_z_pos w32 (by.size % 1073741824) (omega arith)) (to_z-of_z w32 _ (subst (λ (z : ℤ). SFits w32 (pos 0 -ℤ z)) (to_z_pos w32 (by.size % 1073741824) (omega arith)) (phone_fits by.size)))

  pub phone_plain : by.minus ≡ false → to_z w32 (by.size % 1073741824) ≡ phone_of by
  unfolding phone_of
  phone_plain e = rw e (to_z_pos w32 (by.size % 1073741824) (omega arith))
