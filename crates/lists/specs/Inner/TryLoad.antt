-- try_load: words of inner contracts, the lists partway and a number that is read.
use Rattle.std.specs.Prelude.{◌≡◌, List, ℕ, ◌^◌, ◌≤◌, min, length, eqb, leb, Result, Ok, Err, Float, if◌then◌else◌}
use Rattle.loops.specs.Lists.{flat, over}
use Rattle.loops.specs.Inner.{fill}
use Rattle.definition.specs.declared.refusal.Refusal.{Refusal}
use Rattle.definition.specs.Number.{number_of}
use Rattle.definition.specs.Reader.{Got, read, refused, Parser, after, ◌>>◌, need, give}
use Rattle.lists.specs.Draws.{drawing_at, kind_at, numbers_at, frame_at, weight_at, size_refusal}
use Rattle.lists.specs.Input.{a_number, closing, Asked, asked_for, asked}
use Rattle.lists.specs.declared.try_load.Place.{Place}
use Rattle.lists.specs.declared.try_load.LoadSizes.{LoadSizes}

-- the lists with their first i calls
pub record Filled (dim seed i : ℕ) (frames₀ : List Float) (kinds₀ named₀ : List ℕ) (weights₀ : List Float) (frames : List Float) (kinds named : List ℕ) (weights : List Float) : Type 0 where
  pub frames_are : frames ≡ over (flat i (numbers_at dim seed)) frames₀
  pub kinds_are : kinds ≡ fill i (kind_at dim seed) kinds₀
  pub named_are : named ≡ fill i (frame_at dim seed) named₀
  pub weights_are : weights ≡ fill i (weight_at dim seed) weights₀

-- where the drawing stands after i calls
pub record Placed (dim seed i : ℕ) (p : Place) : Type 0 where
  pub state_is : p.state ≡ (drawing_at dim seed i).state
  pub pushes_are : p.pushes ≡ (drawing_at dim seed i).pushes
  pub few : p.pushes ≤ i

-- the program's input: a number that was read, as far as the limits can tell
abbrev pub capped : Got ℕ → Got ℕ
capped (read n next) = read (min n (2 ^ 32)) next
capped (refused e) = refused e

-- what the code says of the input
abbrev pub asked_by : Result LoadSizes Refusal → Asked
asked_by (Ok z) = asked_for 0 z.seed z.dim z.count
asked_by (Err e) = asked_for (number_of e) 0 0 0

-- the input by such numbers
unfoldable pub capped_numbers : Parser Asked
capped_numbers s i =
    after (capped (a_number s i)) (λ seed t p. after (capped (a_number t p)) (λ dim u q. after (capped (a_number u q)) (λ count v r.
    after (closing v r) (λ _. need (eqb (size_refusal seed dim count) 0) 33 >> give (asked_for 0 seed dim count)) v) u) t) s

unfoldable pub capped_of : List ℕ → Asked
capped_of s = if leb (length s) 100 then asked (capped_numbers s 0) else asked_for 33 0 0 0
