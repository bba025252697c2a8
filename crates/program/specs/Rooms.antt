-- A stream's rooms, and what they hold.
use Rattle.std.specs.Prelude.{ℕ, ◌+◌, List, map, length, take, get_or, Float}
use Rattle.loops.specs.Lists.{build}
use Rattle.loops.specs.Ring.{place}
use Rattle.floats.specs.Operators.{at}
use Rattle.definition.specs.declared.Dimensions.{Dimensions}
use Rattle.definition.specs.declared.RingLengths.{RingLengths}
use Rattle.definition.specs.declared.RoomLengths.{RoomLengths}
use Rattle.definition.specs.declared.IvectorStream.{IvectorStream}
use Rattle.definition.specs.Kaldi.{triangle}
use Rattle.definition.specs.Views.{Frames}
use Rattle.definition.specs.Changes.{Change, Changes}
use Rattle.definition.specs.Estimate.{Estimate}

-- ---- the rooms

-- those that every call is lent: a ring of frames, a ring of prefix rows, and the waiting changes' frames and weights
pub record Rings : Type 0 where
  pub frames : List Float
  pub rows : List Float
  pub waiting_frames : List ℕ
  pub waiting_weights : List Float

abbrev pub rings_from : List Float → List Float → List ℕ → List Float → Rings
rings_from frames rows waiting_frames waiting_weights =
    record { frames = frames; rows = rows; waiting_frames = waiting_frames; waiting_weights = waiting_weights }

-- those that a fetch is lent besides: the CMVN state, the statistics, the current vector. (Scratch holds nothing between calls.)
pub record EstimateRooms : Type 0 where
  pub cmvn : List Float
  pub linear : List Float
  pub quadratic : List Float
  pub current : List Float

abbrev pub estimate_from : List Float → List Float → List Float → List Float → EstimateRooms
estimate_from cmvn linear quadratic current = record { cmvn = cmvn; linear = linear; quadratic = quadratic; current = current }

pub record Rooms : Type 0 where
  pub rings : Rings
  pub estimate : EstimateRooms

abbrev pub rooms_from : Rings → EstimateRooms → Rooms
rooms_from r e = record { rings = r; estimate = e }

-- lengths, with scratch of n numbers
abbrev pub ring_lengths_of : Rings → RingLengths
ring_lengths_of z =
    record { frames = length z.frames; rows = length z.rows; waiting_frames = length z.waiting_frames; waiting_weights = length z.waiting_weights }

abbrev pub room_lengths_of : Rooms → ℕ → RoomLengths
room_lengths_of z n =
    let e = z.estimate in
    record {
      rings = ring_lengths_of z.rings;
      estimate = record { cmvn_stats = length e.cmvn; linear = length e.linear; quadratic = length e.quadratic; current = length e.current; scratch = n };
    }

-- ---- what they hold

-- element d of row t of a ring of rows, dim wide
unfoldable pub ring_at : ℕ → List Float → ℕ → ℕ → Float
ring_at dim room t d = at room (place (length room) dim t + d)

abbrev pub ring_frames : ℕ → ℕ → List Float → List Float → Frames
ring_frames dim accepted frames rows = record { accepted = accepted; frame = ring_at dim frames; prefix = ring_at dim rows }

abbrev pub frames_in : IvectorStream → Rings → Frames
frames_in s z = ring_frames s.info.dims.base_dim s.accepted z.frames z.rows

-- n changes, in the first n places of two lists
unfoldable pub waiting_in : ℕ → List ℕ → List Float → List Change
waiting_in n frames weights = build n (λ i. (get_or frames i 0, at weights i))

-- the frames and the weights of a list of changes, as the two lists have them
abbrev pub frames_of : List Change → List ℕ
frames_of cs = map (λ c. c.0) cs

abbrev pub weights_of : List Change → List Float
weights_of cs = map (λ c. c.1) cs

abbrev pub changes_in : IvectorStream → Rings → Changes
changes_in s z = record { waiting = waiting_in s.waiting z.waiting_frames z.waiting_weights; past_highest = s.past_highest; called = s.delta_weights_provided }

-- by a model's sizes, n being the statistics' frame count
abbrev pub estimate_at : Dimensions → Float → EstimateRooms → Estimate
estimate_at d n z =
    record {
      cmvn = take (d.base_dim + 1) z.cmvn;
      stats = record { num_frames = n; linear = take d.ivector_dim z.linear; quadratic = take (triangle d.ivector_dim) z.quadratic };
      current = take d.ivector_dim z.current;
    }

abbrev pub estimate_in : IvectorStream → EstimateRooms → Estimate
estimate_in s z = estimate_at s.info.dims s.num_frames z
