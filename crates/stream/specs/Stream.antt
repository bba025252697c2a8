-- A stream: its record, its rings and its estimate, as the definitions have them; and what a call on it leaves.
use Rattle.std.specs.Prelude.{◌≡◌, Result, Ok, Err, List, ℕ, ◌≤◌, length}
use Rattle.definition.specs.declared.refusal.Refusal.{Refusal}
use Rattle.definition.specs.Number.{refused_by}
use Rattle.definition.specs.declared.IvectorInfo.{IvectorInfo}
use Rattle.definition.specs.declared.IvectorStream.{IvectorStream}
use Rattle.program.specs.Rooms.{Rings, rings_from, EstimateRooms, estimate_from, Rooms, rooms_from, room_lengths_of}
use Rattle.definition.specs.declared.RoomLengths.{RoomLengths}
use Rattle.definition.specs.Model.{Tables}
use Rattle.program.specs.Calls.{call_of, RingStep, RingCall, ring_call, done_on, Step, FetchCall, fetch_call, fetched_on, get_frame, fresh_stream, fresh_rooms}
use Rattle.program.specs.Session.{Program, program}
use Rattle.stream.specs.declared.stream_rooms.Stream.{Stream}
use Rattle.stream.specs.declared.stream_rooms.Fetched.{Fetched}

abbrev pub record_of : Stream → IvectorStream
record_of s = s.record.now

abbrev pub rings_of : Stream → Rings
rings_of s = rings_from s.frames.now s.rows.now s.waiting_frames.now s.waiting_weights.now

abbrev pub estimate_of : Stream → EstimateRooms
estimate_of s = estimate_from s.cmvn_stats.now s.linear.now s.quadratic.now s.current.now

abbrev pub rooms_of : Stream → Rooms
rooms_of s = rooms_from (rings_of s) (estimate_of s)

abbrev pub program_of : Stream → Program
program_of s = program (record_of s) (rooms_of s)

abbrev pub lengths_of : Stream → RoomLengths
lengths_of s = room_lengths_of (rooms_of s) (length s.scratch.now)

-- the record and the slices are still those that were lent
pub record SameRooms (old new : Stream) : Type 0 where
  pub record_same : new.record.ghost_name ≡ old.record.ghost_name
  pub frames_same : new.frames.ghost_name ≡ old.frames.ghost_name
  pub rows_same : new.rows.ghost_name ≡ old.rows.ghost_name
  pub waiting_frames_same : new.waiting_frames.ghost_name ≡ old.waiting_frames.ghost_name
  pub waiting_weights_same : new.waiting_weights.ghost_name ≡ old.waiting_weights.ghost_name
  pub cmvn_same : new.cmvn_stats.ghost_name ≡ old.cmvn_stats.ghost_name
  pub linear_same : new.linear.ghost_name ≡ old.linear.ghost_name
  pub quadratic_same : new.quadratic.ghost_name ≡ old.quadratic.ghost_name
  pub current_same : new.current.ghost_name ≡ old.current.ghost_name
  pub scratch_same : new.scratch.ghost_name ≡ old.scratch.ghost_name

-- what the counts of an answer ask of the record, but beside refusal 10
abbrev pub Few : {A : Type 0} → Result A Refusal → Stream → Type 0
Few r s = (refused_by r ≡ 10 → ⊥) → (s.record.now.accepted ≤ 1000000000) × (s.record.now.mark ≤ 1000000000)

-- a fresh stream on a model, in these rooms
abbrev pub fresh_program : IvectorInfo → Stream → Program
fresh_program i s = program (fresh_stream i (lengths_of s)) (fresh_rooms i (rooms_of s))

-- ---- a call on the rings

-- what it returns and leaves
abbrev pub after : Result Unit Refusal → Stream → RingCall
after r s = ring_call (call_of (refused_by r) (record_of s) 0 0) (rings_of s)

-- what a step on a stream's record and rings returns and leaves
abbrev pub done_by : Stream → (IvectorStream → Rings → RingStep) → RingCall
done_by s f = done_on (record_of s) (rings_of s) (f (record_of s) (rings_of s))

-- it leaves the rest as it was
pub record Rest (old new : Stream) : Type 0 where
  pub estimate : estimate_of new ≡ estimate_of old
  pub scratch : new.scratch.now ≡ old.scratch.now
  pub loans : SameRooms old new

-- ---- a fetch

-- the step of a fetch of frame f, over tables t, into an output of n numbers
abbrev pub fetch_of : Stream → Tables → ℕ → ℕ → Step
fetch_of s t f n = get_frame (record_of s) t (rooms_of s) (length s.scratch.now) f n

-- what it tells beside its vector, nothing where it is refused
abbrev pub not_finite_in : Result Fetched Refusal → ℕ
not_finite_in (Ok a) = a.not_finite
not_finite_in (Err e) = 0

abbrev pub nans_in : Result Fetched Refusal → ℕ
nans_in (Ok a) = a.nan_likelihoods
nans_in (Err e) = 0

-- what it returns and leaves, beside an output
abbrev pub after_fetch : Result Fetched Refusal → Stream → List ℕ → FetchCall
after_fetch r s out = fetch_call (call_of (refused_by r) (record_of s) (not_finite_in r) (nans_in r)) (rooms_of s) out

-- what a step returns and leaves
abbrev pub fetched_by : Stream → List ℕ → Step → FetchCall
fetched_by s out x = fetched_on (record_of s) (rooms_of s) out x
