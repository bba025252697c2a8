-- Laws of merging, one frame's changes after the other.
use mathlib.Core.Path.{◌≡◌, ap, ◌∙◌}
use mathlib.Core.List.{List, ◌∷◌}
use Prim.Native.Nat.{ℕ, ◌+◌, ◌≤◌, ◌<◌}
use native.Mathlib.Omega.{arith}
use lib.ListN.{length, get_or, drop, drop_of_length-le}
use lib.Ieee.{Float, nan}
use borrow.Author.Tests.{eq-eqb, ne_eqb}
use Rattle.loops.proofs.Build.{at_build}
use Rattle.loops.proofs.Parts.{drop_next}
use Rattle.floats.specs.Operators.{◌+₃₂◌, at}
use Rattle.definition.specs.Changes.{Change, merged_from, merged}
use Rattle.program.specs.Rooms.{waiting_in}
use Rattle.program.proofs.WaitingRooms.{length_waiting}

module _ (n : ℕ) (fs : List ℕ) (ws : List Float) where
  abbrev W : List Change
  W = waiting_in n fs ws

  waiting_at : (e : ℕ) → e < n → drop e W ≡ (get_or fs e 0, at ws e) ∷ drop (e + 1) W
  unfolding waiting_in
  waiting_at e h =
      drop_next (0, nan) W e (omega (arith, length_waiting n fs ws)) ∙ ap (λ (c : Change). c ∷ drop (e + 1) W) (at_build (0, nan) n (λ i. (get_or fs i 0, at ws i)) e h)

  module _ (j : ℕ) where
    -- w is the sum of the changes of change j's frame, from change j to change e
    abbrev pub Sums : ℕ → Float → Type 0
    Sums e w = merged (drop j W) ≡ merged_from (get_or fs j 0) w (drop e W)

    pub sums_first : j < n → Sums (j + 1) (at ws j)
    unfolding merged
    sums_first h = rw (waiting_at j h)

    pub sums_more : (e : ℕ) (w : Float) → e < n → get_or fs e 0 ≡ get_or fs j 0 → Sums e w → Sums (e + 1) (w +₃₂ at ws e)
    unfolding merged_from
    sums_more e w l t s = s ∙ rw (waiting_at e l, eq-eqb (get_or fs e 0) (get_or fs j 0) t, t)

    pub sums_other : (e : ℕ) (w : Float) → e < n → (get_or fs e 0 ≡ get_or fs j 0 → ⊥) → Sums e w → merged (drop j W) ≡ (get_or fs j 0, w) ∷ merged (drop e W)
    unfolding merged_from merged
    sums_other e w l t s = s ∙ rw (waiting_at e l, ne_eqb (get_or fs e 0) (get_or fs j 0) t)

    pub sums_end : (e : ℕ) (w : Float) → n ≤ e → Sums e w → merged (drop j W) ≡ (get_or fs j 0, w) ∷ merged (drop e W)
    unfolding merged_from merged
    sums_end e w l s = let q : length W ≤ e = omega (arith, length_waiting n fs ws) in s ∙ rw (drop_of_length-le W q)
