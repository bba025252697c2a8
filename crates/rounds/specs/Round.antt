-- The trigger: a round over an utterance. Each step is a call of the stream, of the silence table or of the nearest voice on what the steps before it
-- left. The first refusal ends the round with its number and step, and what was done remains done.
use Rattle.std.specs.Prelude.{Result, Ok, Err, Some, None, Bool, true, false, ℕ, ◌+◌, ◌-◌, ◌*◌, ◌/◌, max, length, take, drop, eqb, ℤ, Float, if◌then◌else◌}
use mathlib.Core.List.{List, [], ◌∷◌, foldl}
use Rattle.loops.specs.Lists.{build}
use Rattle.floats.specs.Operators.{zero₃₂}
use Rattle.definition.specs.declared.IvectorStream.{IvectorStream}
use Rattle.definition.specs.declared.SilenceWeighting.{SilenceWeighting}
use Rattle.definition.specs.Model.{Tables}
use Rattle.definition.specs.Machine.{frames_ready}
use Rattle.definition.specs.Silence.{input, decoder, TableRooms, table_done, compute_current_traceback, get_delta_weights}
use Rattle.program.specs.Rooms.{Rings, Rooms, rooms_from}
use Rattle.program.specs.Calls.{RingCall, done_on, fetched_on, push_frame, update_frame_weights, forget_before, get_frame}
use Rattle.rounds.specs.Voice.{NearestVoice, nearest_voice}
use Rattle.rounds.specs.declared.trigger_steps.RoundEnd.{RoundEnd}
use Rattle.rounds.specs.declared.trigger_steps.RoundEnd.TheVariants as E
use Rattle.rounds.specs.declared.trigger_steps.Halt.{Halt}
use Rattle.rounds.specs.declared.trigger_steps.RoundOutcome.{RoundOutcome}

-- ---- what a round is given, and what it works on

-- the start frame, the numbers of the frames one frame after the other, and the phone segments
pub record Utterance : Type 0 where
  pub start : ℕ
  pub numbers : List Float
  pub phones : List ℤ
  pub starts : List ℕ
  pub ends : List ℕ

-- the enrolled vectors, as the nearest voice takes them
pub record Voices : Type 0 where
  pub count : ℕ
  pub enrolled : List ℕ
  pub limit : Float

-- the stream, the silence table, the two lists that weighing fills and how many changes it gave, the output of the fetch
pub record Bench : Type 0 where
  pub stream : IvectorStream
  pub rooms : Rooms
  pub silence : SilenceWeighting
  pub table : TableRooms
  pub frames : List ℕ
  pub weights : List Float
  pub given : ℕ
  pub out : List ℕ

abbrev pub bench : IvectorStream → Rooms → SilenceWeighting → TableRooms → List ℕ → List Float → ℕ → List ℕ → Bench
bench s z q t fs ws n out = record { stream = s; rooms = z; silence = q; table = t; frames = fs; weights = ws; given = n; out = out }

-- with another stream and its rings; with another table and lists; with another stream, its rooms and the output
abbrev pub with_rings : Bench → IvectorStream → Rings → Bench
with_rings b s z = bench s (rooms_from z b.rooms.estimate) b.silence b.table b.frames b.weights b.given b.out

abbrev pub with_table : Bench → SilenceWeighting → TableRooms → List ℕ → List Float → ℕ → Bench
with_table b q t fs ws n = bench b.stream b.rooms q t fs ws n b.out

abbrev pub with_fetch : Bench → IvectorStream → Rooms → List ℕ → Bench
with_fetch b s z out = bench s z b.silence b.table b.frames b.weights b.given out

-- how a round ends: full, with a voice or with nobody (`None`); with no vector; or with a refusal's number and its step
abbrev pub RoundResult : Type 0
RoundResult = Result RoundEnd Halt

abbrev pub refused_at : ℕ → ℕ → RoundResult
refused_at r k = Err (record { refusal = r; step = k })

-- and what it leaves
pub record Round : Type 0 where
  pub result : RoundResult
  pub bench : Bench

abbrev pub round_from : RoundResult → Bench → Round
round_from r b = record { result = r; bench = b }

-- ---- the steps

-- a step's refusal number, 0 where it is taken, and what it leaves
pub record Done : Type 0 where
  pub refusal : ℕ
  pub bench : Bench

abbrev pub done : ℕ → Bench → Done
done r b = record { refusal = r; bench = b }

-- a refusal r at step k ends the round; else it goes on
unfoldable pub ended : ℕ → ℕ → Bench → (Bench → Round) → Round
ended k r b next = if eqb r 0 then next b else round_from (refused_at r k) b

-- step k, and what comes after it
abbrev pub after : ℕ → Done → (Bench → Round) → Round
after k d next = ended k d.refusal d.bench next

-- what a call on the rings leaves
abbrev pub on_rings : Bench → RingCall → Done
on_rings b c = done c.call.answer.refusal (with_rings b c.call.stream c.rings)

-- 1: forget at the start
unfoldable pub forgets : ℕ → Bench → Done
forgets start b = let z = b.rooms.rings in on_rings b (done_on b.stream z (forget_before b.stream z start))

-- 2: numbers cut into frames of n, the last one as short as it is; their pushes, up to the first that is refused
unfoldable pub cut : {A : Type 0} → ℕ → List A → List (List A)
cut n xs = build ((length xs + (n - 1)) / n) (λ i. take n (drop (i * n) xs))

pub record Pushed : Type 0 where
  pub refusal : ℕ
  pub stream : IvectorStream
  pub rings : Rings

abbrev pub pushed : ℕ → IvectorStream → Rings → Pushed
pushed r s z = record { refusal = r; stream = s; rings = z }

unfoldable pub push_all : IvectorStream → Rings → List (List Float) → Pushed
push_all s z [] = pushed 0 s z
push_all s z (x ∷ xs) =
    let c = done_on s z (push_frame s z x) in
    let r = c.call.answer.refusal in
    if eqb r 0 then push_all c.call.stream c.rings xs else pushed r c.call.stream c.rings

-- a frame's length: a record of dimension 0 is refused at step 1
abbrev pub frame_length : IvectorStream → ℕ
frame_length s = max s.info.dims.base_dim 1

unfoldable pub pushes : List Float → Bench → Done
pushes numbers b =
    let p = push_all b.stream b.rooms.rings (cut (frame_length b.stream) numbers) in
    done p.refusal (with_rings b p.stream p.rings)

-- the frames decoded: the largest end of a segment, or 0
unfoldable pub decoded : List ℕ → ℕ
decoded ends = foldl max 0 ends

-- 3: note the path. A traceback is lent no list
unfoldable pub notes : List ℤ → Utterance → Bench → Done
notes silence_phones u b =
    let q = b.silence in
    let c = table_done q b.table [] [] (compute_current_traceback q b.table silence_phones u.phones u.starts u.ends (decoder (decoded u.ends))) in
    done c.answer.refusal (with_table b c.answer.silence c.rooms b.frames b.weights b.given)

-- the stream's ready count
abbrev pub ready : IvectorStream → ℕ
ready s = frames_ready s.info.opts s.input_finished s.accepted

-- 4: weigh, from the start frame up to the ready count n
unfoldable pub weighs : ℕ → ℕ → Bench → Done
weighs n start b =
    let q = b.silence in
    let c = table_done q b.table b.frames b.weights (get_delta_weights q b.table (input n) (input start) (length b.frames) (length b.weights)) in
    done c.answer.refusal (with_table b c.answer.silence c.rooms c.frames c.weights c.answer.changes)

-- 5: change by what weighing gave
unfoldable pub changes : Bench → Done
changes b =
    let z = b.rooms.rings in
    on_rings b (done_on b.stream z (update_frame_weights b.stream z (take b.given b.frames) (take b.given b.weights)))

-- 6: fetch the last ready frame, over tables t and with scratch of n numbers
unfoldable pub fetches : Tables → ℕ → Bench → Done
fetches t n b =
    let c = fetched_on b.stream b.rooms b.out (get_frame b.stream t b.rooms n (ready b.stream - 1) (length b.out)) in
    done c.call.answer.refusal (with_fetch b c.call.stream c.rooms c.output)

-- 7: find the nearest voice
unfoldable pub result_of : NearestVoice → RoundResult
result_of (Ok v) = Ok (E.Full v)
result_of (Err r) = refused_at r 7

unfoldable pub finds : Voices → Bench → Round
finds v b = round_from (result_of (nearest_voice b.stream.info.dims.ivector_dim b.out v.count v.enrolled v.limit)) b

-- ---- the round

-- steps 6 and 7; where no frame is ready the round ends before them, and that is no refusal
unfoldable pub last_steps : Tables → ℕ → Voices → Bench → Round
last_steps t n v b = if eqb (ready b.stream) 0 then round_from (Ok E.NoVector) b else after 6 (fetches t n b) (finds v)

unfoldable pub round : Tables → ℕ → List ℤ → Utterance → Voices → Bench → Round
round t n silence_phones u v b =
    after 1 (forgets u.start b) (λ b. after 2 (pushes u.numbers b)
    (λ b. after 3 (notes silence_phones u b) (λ b. after 4 (weighs (ready b.stream) u.start b)
    (λ b. after 5 (changes b) (last_steps t n v)))))

-- whether the fetch was taken: only then is scratch used
unfoldable pub worked : RoundResult → Bool
worked (Ok (E.Full v)) = true
worked (Ok E.NoVector) = false
worked (Err h) = eqb h.step 7

-- the numbers of each end: index and distance are 0 beside all but a voice
unfoldable pub round_outcome : RoundResult → RoundOutcome
round_outcome (Ok (E.Full (Some w))) = record { refusal = 0; step = 0; full = true; found = true; index = w.index; distance = w.distance }
round_outcome (Ok (E.Full None)) = record { refusal = 0; step = 0; full = true; found = false; index = 0; distance = zero₃₂ }
round_outcome (Ok E.NoVector) = record { refusal = 0; step = 0; full = false; found = false; index = 0; distance = zero₃₂ }
round_outcome (Err h) = record { refusal = h.refusal; step = h.step; full = false; found = false; index = 0; distance = zero₃₂ }
