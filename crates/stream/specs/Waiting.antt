-- The waiting changes in the two lists that a call is lent.
use Rattle.std.specs.Prelude.{◌≡◌, ℕ, true, false, List, take, Float}
use Rattle.loops.specs.Lists.{over}
use Rattle.definition.specs.Changes.{Change, Changes}
use Rattle.definition.specs.Stream.{rising}
use Rattle.program.specs.Rooms.{waiting_in, frames_of, weights_of}

-- as a change call finds them: whether one was taken before, `called`, does not matter to it
abbrev pub waiting_changes : ℕ → ℕ → List ℕ → List Float → Changes
waiting_changes n past_highest frames weights = record { waiting = waiting_in n frames weights; past_highest = past_highest; called = false }

-- the frames in the first n places are in order
abbrev pub InOrder : ℕ → List ℕ → Type 0
InOrder n frames = rising 0 (take n frames) ≡ true

-- two lists hold these changes in their first places, and in the others what `frames` and `weights` hold there
abbrev pub Holds : List Change → List ℕ → List Float → List ℕ → List Float → Type 0
Holds cs frames weights new_frames new_weights = (new_frames ≡ over (frames_of cs) frames) × (new_weights ≡ over (weights_of cs) weights)
