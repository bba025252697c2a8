-- The calls on a stream as functions on values: the record, and what the lent rooms hold. Each call is here once: the contract of the code, that
-- of the exported call and the claim over lists of calls cite it.
use Rattle.std.specs.Prelude.{ℕ, ◌+◌, max, Bool, true, false, not, List, [], ◌∷◌, ◌++◌, length, take, replicate, eqb, leb, Float, if◌then◌else◌, Result, Ok, Err}
use Rattle.loops.specs.Lists.{build, over}
use Rattle.loops.specs.Refusal.{first_of, taken}
use Rattle.loops.specs.Ring.{place, put}
use Rattle.floats.specs.Operators.{◌+₆₄◌, zero₆₄, at}
use Rattle.definition.specs.declared.IvectorInfo.{IvectorInfo}
use Rattle.definition.specs.declared.TableLengths.{TableLengths}
use Rattle.definition.specs.declared.RoomLengths.{RoomLengths}
use Rattle.definition.specs.declared.IvectorStream.{IvectorStream}
use Rattle.definition.specs.declared.StreamAnswer.{StreamAnswer}
use Rattle.definition.specs.declared.StreamCall.{StreamCall}
use Rattle.definition.specs.Model.{Tables, in_force, table_lengths_of, model_in}
use Rattle.definition.specs.Statistics.{new_stats}
use Rattle.definition.specs.Solve.{prior_vector}
use Rattle.definition.specs.Changes.{Changes, changed, reached, batch}
use Rattle.definition.specs.Estimate.{Estimate, updated, nans_over}
use Rattle.definition.specs.Machine.{frames_held, rows_held, frames_ready, forgotten, longest_from, push_tests, change_tests, window_tests, fetch_tests, fetched, bits_of, not_finite}
use Rattle.definition.specs.Stream.{new_refusal, same_tables, is_foreign, same_rings, same_rooms}
use Rattle.program.specs.Rooms.{Rings, rings_from, EstimateRooms, estimate_from, Rooms, rooms_from, ring_lengths_of, room_lengths_of, ring_at, frames_in, frames_of, weights_of, changes_in, estimate_in}

-- ---- the record

-- accepted, next, mark, how many changes wait, one more than the highest changed frame, whether a change call was taken, finished, the statistics'
-- frame count, the floor, the window in force, and the longest since the last rise of the mark
abbrev pub stream_from : IvectorInfo → RoomLengths → ℕ → ℕ → ℕ → ℕ → ℕ → Bool → Bool → Float → ℕ → ℕ → ℕ → IvectorStream
stream_from i z accepted next mark waiting past_highest called finished n floor window longest =
    record {
      info = i;
      lengths = z;
      accepted = accepted;
      num_frames_stats = next;
      mark = mark;
      waiting = waiting;
      past_highest = past_highest;
      delta_weights_provided = called;
      input_finished = finished;
      num_frames = n;
      floor = floor;
      window = window;
      longest = longest;
    }

-- ---- answers

abbrev pub answer_from : ℕ → ℕ → ℕ → ℕ → ℕ → StreamAnswer
answer_from r frames rows n m = record { refusal = r; frames_held = frames; rows_held = rows; not_finite = n; nan_likelihoods = m }

-- refusal r, on a record s, with n elements not finite and m likelihoods that were NaN; a refusal 10 is its number alone
unfoldable pub answer_of : ℕ → IvectorStream → ℕ → ℕ → StreamAnswer
answer_of r s n m =
    if eqb r 10 then answer_from r 0 0 0 0 else answer_from r (frames_held s.accepted s.mark) (rows_held s.longest s.accepted s.mark) n m

-- what a call returns, s being the record that it leaves
abbrev pub call_of : ℕ → IvectorStream → ℕ → ℕ → StreamCall
call_of r s n m = record { answer = answer_of r s n m; stream = s }

-- ---- a fresh stream

unfoldable pub fresh_stream : IvectorInfo → RoomLengths → IvectorStream
fresh_stream i z = stream_from i z 0 0 0 0 0 false false zero₆₄ 0 i.opts.cmn_window i.opts.cmn_window

-- on tables and rooms of these lengths
unfoldable pub new_answer : IvectorInfo → TableLengths → RoomLengths → Result StreamCall ℕ
new_answer i t z = let r = new_refusal i t z in taken r (Ok (call_of 0 (fresh_stream i z) 0 0)) (Err r)

-- the rooms of a fresh stream: prefix row 0, the CMVN state, the statistics, the current vector
unfoldable pub fresh_rooms : IvectorInfo → Rooms → Rooms
fresh_rooms i z =
    let s = i.dims.ivector_dim in
    let dim = i.dims.base_dim in
    let prior = i.prior_offset in
    let r = z.rings in
    let e = z.estimate in
    rooms_from (rings_from r.frames (over (replicate dim zero₆₄) r.rows) r.waiting_frames r.waiting_weights)
    (estimate_from (over (replicate (dim + 1) zero₆₄) e.cmvn) (over (new_stats s prior).linear e.linear) (over (new_stats s prior).quadratic e.quadratic) (over (prior_vector s prior) e.current))

-- ---- a record with another part

abbrev pub with_accepted : IvectorStream → ℕ → IvectorStream
with_accepted s n =
    stream_from s.info s.lengths n s.num_frames_stats s.mark s.waiting s.past_highest s.delta_weights_provided s.input_finished s.num_frames s.floor s.window s.longest

abbrev pub with_finished : IvectorStream → IvectorStream
with_finished s =
    stream_from s.info s.lengths s.accepted s.num_frames_stats s.mark s.waiting s.past_highest s.delta_weights_provided true s.num_frames s.floor s.window s.longest

-- with mark, floor and longest window
abbrev pub with_mark : IvectorStream → ℕ → ℕ → ℕ → IvectorStream
with_mark s m floor longest =
    stream_from s.info s.lengths s.accepted s.num_frames_stats m s.waiting s.past_highest s.delta_weights_provided s.input_finished s.num_frames floor s.window longest

-- with changes, next and the statistics' frame count
abbrev pub with_changes : IvectorStream → Changes → ℕ → Float → IvectorStream
with_changes s c next n =
    stream_from s.info s.lengths s.accepted next s.mark (length c.waiting) c.past_highest c.called s.input_finished n s.floor s.window s.longest

-- with the window in force and the longest
abbrev pub with_window : IvectorStream → ℕ → ℕ → IvectorStream
with_window s w longest =
    stream_from s.info s.lengths s.accepted s.num_frames_stats s.mark s.waiting s.past_highest s.delta_weights_provided s.input_finished s.num_frames s.floor w longest

-- ---- push, finish, change, forget and the window call: a call on the rings

-- its refusal number, and where that is 0 the record and the rings that it leaves
pub record RingStep : Type 0 where
  pub refusal : ℕ
  pub stream : IvectorStream
  pub rings : Rings

abbrev pub ring_step : List (Bool × ℕ) → IvectorStream → Rings → RingStep
ring_step tests s z = record { refusal = first_of tests; stream = s; rings = z }

-- what is returned, and the rings afterwards
pub record RingCall : Type 0 where
  pub call : StreamCall
  pub rings : Rings

abbrev pub ring_call : StreamCall → Rings → RingCall
ring_call c z = record { call = c; rings = z }

-- of a step on record s and rings z
abbrev pub done_on : IvectorStream → Rings → RingStep → RingCall
done_on s z x = ring_call (call_of x.refusal (taken x.refusal x.stream s) 0 0) (taken x.refusal x.rings z)

-- 10 of every call
abbrev pub record_tests : IvectorStream → Rings → List (Bool × ℕ)
record_tests s z = (not (same_rings (ring_lengths_of z) s.lengths.rings), 10) ∷ (is_foreign s z.waiting_frames, 10) ∷ []

-- a push: the new frame at its place, and the sum of all frames up to it as the next prefix row
unfoldable pub pushed_frames : IvectorStream → List Float → List Float → List Float
pushed_frames s frames x = put (place (length frames) s.info.dims.base_dim s.accepted) x frames

unfoldable pub pushed_rows : IvectorStream → List Float → List Float → List Float
pushed_rows s rows x =
    let dim = s.info.dims.base_dim in
    put (place (length rows) dim (s.accepted + 1)) (build dim (λ d. ring_at dim rows s.accepted d +₆₄ at x d)) rows

unfoldable pub push_frame : IvectorStream → Rings → List Float → RingStep
push_frame s z x =
    ring_step (record_tests s z ++ push_tests s.info.dims s.lengths.rings s.longest s.accepted s.mark x)
    (with_accepted s (s.accepted + 1)) (rings_from (pushed_frames s z.frames x) (pushed_rows s z.rows x) z.waiting_frames z.waiting_weights)

unfoldable pub set_input_finished : IvectorStream → Rings → RingStep
set_input_finished s z = ring_step (record_tests s z) (with_finished s) z

-- the rings with changes at the fronts of their lists
abbrev pub over_waiting : Changes → Rings → Rings
over_waiting c z = rings_from z.frames z.rows (over (frames_of c.waiting) z.waiting_frames) (over (weights_of c.waiting) z.waiting_weights)

unfoldable pub update_frame_weights : IvectorStream → Rings → List ℕ → List Float → RingStep
update_frame_weights s z fs ws =
    let c = changed (changes_in s z) fs ws in
    ring_step (record_tests s z ++ change_tests s.info.opts s.lengths.rings s.mark s.floor s.waiting fs ws)
    (with_changes s c s.num_frames_stats s.num_frames) (over_waiting c z)

unfoldable pub forget_mark : IvectorStream → List ℕ → ℕ → ℕ
forget_mark s fs f = forgotten s.info.opts.left_context s.num_frames_stats s.mark (take s.waiting fs) f

unfoldable pub forget_before : IvectorStream → Rings → ℕ → RingStep
forget_before s z f =
    let m = forget_mark s z.waiting_frames f in
    ring_step (record_tests s z) (with_mark s m (max s.floor f) (longest_from s.window s.longest s.mark m)) z

-- request 12
unfoldable pub set_cmn_window : IvectorStream → Rings → ℕ → RingStep
set_cmn_window s z w = ring_step (record_tests s z ++ window_tests s.longest s.mark w) (with_window s w (max s.longest w)) z

-- ---- fetch

-- its refusal number, and where that is 0 the record and the rooms that it leaves, the vector, and how many likelihoods were NaN
pub record Step : Type 0 where
  pub refusal : ℕ
  pub stream : IvectorStream
  pub rooms : Rooms
  pub vector : List Float
  pub nans : ℕ

-- what is returned, the rooms and the output afterwards
pub record FetchCall : Type 0 where
  pub call : StreamCall
  pub rooms : Rooms
  pub output : List ℕ

abbrev pub fetch_call : StreamCall → Rooms → List ℕ → FetchCall
fetch_call c z out = record { call = c; rooms = z; output = out }

-- of a step on record s, rooms z and an output: its first places take the vector's bits
abbrev pub fetched_on : IvectorStream → Rooms → List ℕ → Step → FetchCall
fetched_on s z out x =
    let r = x.refusal in
    fetch_call (call_of r (taken r x.stream s) (taken r (not_finite x.vector) 0) (taken r x.nans 0)) (taken r x.rooms z)
    (taken r (over (bits_of x.vector) out) out)

-- over lent tables t, with scratch of n numbers and an output of m numbers
unfoldable pub fetch_refusal : IvectorStream → TableLengths → RoomLengths → List ℕ → ℕ → ℕ → ℕ
fetch_refusal s t z fs f m =
    first_of
    ((not (same_tables t s.info.tables), 10)
    ∷ (not (same_rooms z s.lengths), 10)
    ∷ (is_foreign s fs, 10)
    ∷ fetch_tests s.info.dims (frames_ready s.info.opts s.input_finished s.accepted) s.num_frames_stats s.delta_weights_provided s.past_highest f m)

-- whether a fetch of f brings frames in; it does so by the window in force
abbrev pub catches_up : IvectorStream → ℕ → Bool
catches_up s f = leb s.num_frames_stats f

unfoldable pub fetch_estimate : IvectorStream → Tables → Rooms → ℕ → Estimate
fetch_estimate s t z f =
    let i = in_force s.info s.window in
    let e = estimate_in s z.estimate in
    if catches_up s f then updated (model_in i t) (frames_in s z.rings) (batch i.opts (changes_in s z.rings) s.num_frames_stats f) e else e

unfoldable pub fetch_changes : IvectorStream → Rings → ℕ → Changes
fetch_changes s z f = let c = changes_in s z in if catches_up s f then reached c f else c

unfoldable pub fetch_stream : IvectorStream → Tables → Rooms → ℕ → IvectorStream
fetch_stream s t z f =
    with_changes s (fetch_changes s z.rings f) (if catches_up s f then f + 1 else s.num_frames_stats) (fetch_estimate s t z f).stats.num_frames

-- the rooms with an estimate at their fronts
abbrev pub over_estimate : Estimate → EstimateRooms → EstimateRooms
over_estimate e z =
    estimate_from (over e.cmvn z.cmvn) (over e.stats.linear z.linear) (over e.stats.quadratic z.quadratic) (over e.current z.current)

unfoldable pub fetch_rooms : IvectorStream → Tables → Rooms → ℕ → Rooms
fetch_rooms s t z f = rooms_from (over_waiting (fetch_changes s z.rings f) z.rings) (over_estimate (fetch_estimate s t z f) z.estimate)

unfoldable pub fetch_vector : IvectorStream → Tables → Rooms → ℕ → List Float
fetch_vector s t z f = fetched (model_in s.info t) (fetch_estimate s t z f).current

-- request 4
unfoldable pub fetch_nans : IvectorStream → Tables → Rooms → ℕ → ℕ
fetch_nans s t z f =
    let i = in_force s.info s.window in
    let n = nans_over (model_in i t) (frames_in s z.rings) (batch i.opts (changes_in s z.rings) s.num_frames_stats f) (estimate_in s z.estimate).cmvn in
    if catches_up s f then n else 0

unfoldable pub get_frame : IvectorStream → Tables → Rooms → ℕ → ℕ → ℕ → Step
get_frame s t z n f m =
    record {
      refusal = fetch_refusal s (table_lengths_of t) (room_lengths_of z n) z.rings.waiting_frames f m;
      stream = fetch_stream s t z f;
      rooms = fetch_rooms s t z f;
      vector = fetch_vector s t z f;
      nans = fetch_nans s t z f;
    }
