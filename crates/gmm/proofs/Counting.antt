-- Counting the NaN of a list element by element: what is counted, and what is left from i on, are together what the whole list has.
use mathlib.Core.Path.{◌≡◌, sym, ◌∙◌}
use mathlib.Core.Bool.{Bool, true, false}
use mathlib.Core.List.{List}
use Prim.Native.Nat.{ℕ, ◌+◌, ◌≤◌, ◌<◌}
use native.Mathlib.Omega.{arith}
use lib.ListN.{length, drop, drop_of_length-le}
use lib.Ieee.{Float, nan, ne}
use mir.Val.{bool_byte}
use Rattle.loops.specs.Lists.{those}
use Rattle.loops.proofs.Choose.{by-test}
use Rattle.loops.proofs.Parts.{drop_next}
use Rattle.floats.specs.Operators.{at}
use Rattle.floats.proofs.Patterns.{no_nan}
use Rattle.definition.specs.Posteriors.{nan_count}
use Rattle.gmm.proofs.Comparing.{nan_is}

-- one at most
pub byte-few : (b : Bool) → bool_byte b ≤ 1
byte-few true = omega arith
byte-few false = omega arith

module _ (ls : List Float) (i s : ℕ) {n : ℕ} where
  -- one more where element i differs from itself
  pub count_turn : {t : ℕ} → i < length ls → t ≡ s + bool_byte (ne (at ls i) (at ls i)) → s + nan_count (drop i ls) ≡ n → t + nan_count (drop (i + 1) ls) ≡ n
  unfolding nan_count those
  count_turn {t} l e h =
      let g : s + nan_count (drop i ls) ≡ t + nan_count (drop (i + 1) ls) =
      by-test (ne (at ls i) (at ls i))
      (λ u. rw (drop_next nan ls i l, nan_is (at ls i) u) (omega (arith, rw u at e)))
      (λ u. rw (drop_next nan ls i l, no_nan (at ls i) u) (omega (arith, rw u at e)))
      in sym g ∙ h

  pub count_end : length ls ≤ i → s + nan_count (drop i ls) ≡ n → s ≡ n
  unfolding nan_count those
  count_end l h = let g : s + nan_count (drop i ls) ≡ s = rw (drop_of_length-le ls l) (omega arith) in sym g ∙ h
