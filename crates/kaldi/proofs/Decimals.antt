-- Whole numbers by their decimal digits, and what they are below a cap.
use mathlib.Core.Path.{◌≡◌, refl, sym, ap, ◌∙◌}
use mathlib.Core.List.{List, [], ◌∷◌, ◌++◌}
use Prim.Native.Nat.{ℕ, ◌+◌, ◌-◌, ◌*◌, ◌≤◌, ◌<◌, min}
use native.Mathlib.Nat.{le_refl, le_trans}
use native.Mathlib.Decide.{dec_le}
use native.Mathlib.Omega.{arith}
use lib.ListN.{length, drop, get_or, drop_of_length-le}
use Rattle.std.proofs.Common.{add-one}
use Rattle.std.proofs.Math.Seq.{drop-cons}
use Rattle.definition.specs.Text.{digits_value}

pub decimal_append : (m : ℕ) (a b : List ℕ) → digits_value m (a ++ b) ≡ digits_value (digits_value m a) b
unfolding digits_value
decimal_append m [] b = refl
decimal_append m (x ∷ a) b = decimal_append (m * 10 + (x - 48)) a b

pub decimal_ge : (m : ℕ) (l : List ℕ) → m ≤ digits_value m l
unfolding digits_value
decimal_ge m [] = le_refl m
decimal_ge m (b ∷ l) = le_trans (omega arith) (decimal_ge (m * 10 + (b - 48)) l)

-- what is at the cap stays there
pub decimal_cap : (y cap : ℕ) (l : List ℕ) → min (digits_value (min y cap) l) cap ≡ min (digits_value y l) cap
decimal_cap y cap l = go (dec_le y cap)
  where
    above : (d k : ℕ) → k ≤ d → min d k ≡ k
    above d k h = omega arith

    go : Dec (y ≤ cap) → min (digits_value (min y cap) l) cap ≡ min (digits_value y l) cap
    go (yes h) = let e : min y cap ≡ y = omega arith in ap (λ (k : ℕ). min (digits_value k l) cap) e
    go (no n) =
        let h : cap ≤ y = omega arith in
        let e : min y cap ≡ cap = omega arith in
        ap (λ (k : ℕ). min (digits_value k l) cap) e ∙ above (digits_value cap l) cap (decimal_ge cap l) ∙ sym (above (digits_value y l) cap (le_trans h (decimal_ge y l)))

-- ---- as the loop over the digits goes

pub decimal_next : (m i : ℕ) (s : List ℕ) → i < length s → digits_value m (drop i s) ≡ digits_value (m * 10 + (get_or s i 0 - 48)) (drop (i + 1) s)
unfolding digits_value
decimal_next m i s h = rw add-one (ap (digits_value m) (drop-cons s i 0 h))

pub decimal_end : (m i : ℕ) (s : List ℕ) → length s ≤ i → digits_value m (drop i s) ≡ m
unfolding digits_value
decimal_end m i s h = ap (digits_value m) (drop_of_length-le s h)
