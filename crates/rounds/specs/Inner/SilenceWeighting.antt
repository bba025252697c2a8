-- silence_weighting: words of inner contracts, a frame's status and weight and the changes that it gives.
use Rattle.std.specs.Prelude.{ℕ, suc, ◌+◌, Bool, false, ◌||◌, List, Option, Some, None, get_or, eqb, ltb, Float, if◌then◌else◌}
use Rattle.std.specs.Float.{nan}
use Rattle.std.specs.Float.Ieee.{ne}
use Rattle.loops.specs.Lists.{build, flat}
use Rattle.floats.specs.Operators.{◌-₃₂◌, zero₃₂}
use Rattle.definition.specs.declared.InputFrame.{InputFrame}
use Rattle.definition.specs.declared.DecoderFrame.{DecoderFrame}
use Rattle.definition.specs.Changes.{Change}
use Rattle.definition.specs.Silence.{decoder, FrameInfo, table_rooms, Table, info_at, table_in, begin, walked, input_frame}

-- the table of n frames in three rooms
abbrev pub table_of : ℕ → List Bool → List Bool → List Float → Table
table_of n ks ss ws = table_in (decoder n) (table_rooms ks ss ws)

-- place k of a room that n frames use, z where a frame past them is asked for
unfoldable pub place_at : {A : Type 0} → A → A → ℕ → List A → ℕ → A
place_at d z n room k = if ltb k n then get_or room k d else z

-- a flag and the weight of frame k, from the rooms of a table of n frames
abbrev pub flag_at : ℕ → List Bool → ℕ → Bool
flag_at = place_at false false

-- whether frame k is silence, where that is known
abbrev pub status_at : ℕ → List Bool → List Bool → ℕ → Option Bool
status_at n ks ss k = if flag_at n ks k then Some (flag_at n ss k) else None

abbrev pub status_of : FrameInfo → Option Bool
status_of f = if f.known then Some f.is_silence else None

abbrev pub weight_at : ℕ → List Float → ℕ → Float
weight_at = place_at nan zero₃₂

-- by how much the walk changes its frame i
unfoldable pub difference : Float → Table → ℕ → Float
difference w t i = walked w t (suc i) -₃₂ (info_at t (begin t + i)).current_weight

-- the changes that decoder frame k gives, and how many they are
unfoldable pub number : ℕ → Float → Bool → ℕ
number subsampling diff last = if ne diff zero₃₂ || last then subsampling else 0

unfoldable pub given : ℕ → InputFrame → DecoderFrame → Float → Bool → List Change
given subsampling first k diff last = build (number subsampling diff last) (λ j. ((input_frame subsampling first k j).0, diff))

-- the changes of the walk's first m frames
unfoldable pub changes_to : Float → ℕ → InputFrame → ℕ → Table → ℕ → List Change
changes_to w subsampling first n t m = flat m (λ i. given subsampling first (decoder (begin t + i)) (difference w t i) (eqb (begin t + i + 1) n))
