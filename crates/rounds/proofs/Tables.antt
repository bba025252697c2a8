-- The table that three rooms hold, frame by frame.
use Prim.Native.Nat.{ℕ, ◌+◌, ◌≤◌, ◌<◌}
use mathlib.Core.Path.{◌≡◌, refl, ap, ◌∙◌}
use mathlib.Core.Bool.{Bool}
use mathlib.Core.List.{List}
use native.Mathlib.Omega.{arith}
use borrow.Author.Tests.{lt-ltb, le-ltb, ltb-true, ltb-false}
use lib.Dec.{ltb}
use lib.ListN.{length, get_or}
use lib.Ieee.{Float}
use Rattle.loops.specs.Lists.{build, over}
use Rattle.loops.proofs.Choose.{by-test, choose_true, choose_false}
use Rattle.loops.specs.Ring.{put}
use Rattle.loops.proofs.Build.{length_build, at_build, past_build}
use Rattle.loops.proofs.Fill.{over_at, put_fit}
use Rattle.definition.specs.Silence.{info_at, table_in}
use Rattle.rounds.specs.Inner.SilenceWeighting.{table_of, place_at, flag_at, weight_at}

module _ {A : Type 0} (d z : A) (n : ℕ) (room : List A) where
  pub place_in : (k : ℕ) → k < n → get_or room k d ≡ place_at d z n room k
  unfolding place_at
  place_in k h = choose_true _ (lt-ltb k n h) refl

  pub place_past : (k : ℕ) → n ≤ k → z ≡ place_at d z n room k
  unfolding place_at
  place_past k h = choose_false _ (le-ltb k n h) refl

  -- a room of which `more` frames more are used, each at z
  module _ (more size : ℕ) (l : List A) (e : size ≡ n + more) (h : size ≤ length room) (g : l ≡ put n (build more (λ i. z)) room) where
    pub grown : l ≡ over (build size (place_at d z n room)) room
    grown = g ∙ put_fit d n more size (λ i. z) (place_at d z n room) room e h (λ k p. place_in k p) (λ k p. place_past (n + k) (omega arith))

    pub grown_at : (k : ℕ) → place_at d z size l k ≡ place_at d z n room k
    unfolding place_at
    grown_at k =
        by-test (ltb k size)
        (λ t.
        let p : k < size = ltb-true k size t in
        rw t (ap (λ (s : List A). get_or s k d) grown ∙ over_at d (build size (place_at d z n room)) room k (omega (arith, length_build size (place_at d z n room))) ∙ at_build d size (place_at d z n room) k p))
        (λ t. rw t (place_past k (omega (arith, ltb-false k size t))))

module _ (n : ℕ) (ks ss : List Bool) (ws : List Float) where
  pub length_table : length (table_of n ks ss ws) ≡ n
  unfolding table_in
  length_table = length_build n _

  pub info_is : (k : ℕ) → info_at (table_of n ks ss ws) k ≡ record { known = flag_at n ks k; is_silence = flag_at n ss k; current_weight = weight_at n ws k }
  unfolding info_at table_in place_at
  info_is k =
      by-test (ltb k n) (λ e. at_build _ n _ k (ltb-true k n e) ∙ rw e) (λ e. past_build _ n _ k (ltb-false k n e) ∙ rw e)
