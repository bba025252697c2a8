-- A chain of exported calls on a stream: what the calls' contracts say of a list of them, each on the record behind the reference and on the rooms as the
-- last one left them. Whatever chain meets them, its answers are the keeping machine's; one is worked out.
use Rattle.std.specs.Prelude.{◌≡◌, ◌≢◌, ℕ, List, [], ◌∷◌, length, replicate, Float, Ok}
use Rattle.loops.specs.Refusal.{taken}
use Rattle.floats.specs.Operators.{f32, as_f64, zero₃₂, zero₆₄, one₃₂}
use Rattle.definition.specs.declared.IvectorOptions.{IvectorOptions}
use Rattle.definition.specs.declared.IvectorInfo.{IvectorInfo}
use Rattle.definition.specs.declared.IvectorStream.{IvectorStream}
use Rattle.definition.specs.declared.StreamAnswer.{StreamAnswer}
use Rattle.definition.specs.declared.StreamCall.{StreamCall}
use Rattle.definition.specs.Reader.{read}
use Rattle.definition.specs.Model.{Tables, Model, Files, table_lengths_of, model_in, load, loaded_of, loaded_tables}
use Rattle.definition.specs.Stream.{new_refusal}
use Rattle.definition.specs.Machine.{Call, push, finish, change, forget, set_window, fetch, Answer, fresh, told_by, answers}
use Rattle.program.specs.Rooms.{Rings, rings_from, Rooms, rooms_from, ring_lengths_of, room_lengths_of}
use Rattle.program.specs.Calls.{answer_from, call_of, fresh_stream, new_answer, fresh_rooms, ring_call, done_on, push_frame, set_input_finished, update_frame_weights, forget_before, set_cmn_window, fetch_call, fetched_on, get_frame}
use Rattle.program.specs.Examples.{tables, info, rooms}
use Rattle.answers.specs.Answers.{load_answer, answered, new_stream_answer}
use Rattle.answers.specs.declared.LoadAnswer.{LoadAnswer}

-- what a call answers, as the machine's answer: the numbers that it returns, and of a fetch that is taken the whole output, of any other call nothing
abbrev pub told : StreamAnswer → Answer
told a = record { told = a; vector = [] }

abbrev pub told_with : StreamAnswer → List ℕ → Answer
told_with a out = record { told = a; vector = taken a.refusal out [] }

-- over lent tables t, and scratch of n numbers. `Run s z cs as`: from record s and rooms z on, the calls cs are answered as. A step is a call, with what it
-- returns (a), the record (s'), and the rooms (y, or the rings r) and the output at exit; its premise is the contract of the exported call, word for word
module _ (t : Tables) (n : ℕ) where
  pub data Run : IvectorStream → Rooms → List Call → List Answer → Type 0 where
    none : {s : IvectorStream} {z : Rooms} → Run s z [] []
    pushed : {s s' : IvectorStream} {z : Rooms} {r : Rings} {x : List Float} {a : StreamAnswer} {cs : List Call} {rest : List Answer}
        → ring_call (answered a s') r ≡ done_on s z.rings (push_frame s z.rings x)
        → Run s' (rooms_from r z.estimate) cs rest
        → Run s z (push x ∷ cs) (told a ∷ rest)
    finished : {s s' : IvectorStream} {z : Rooms} {r : Rings} {a : StreamAnswer} {cs : List Call} {rest : List Answer}
        → ring_call (answered a s') r ≡ done_on s z.rings (set_input_finished s z.rings)
        → Run s' (rooms_from r z.estimate) cs rest
        → Run s z (finish ∷ cs) (told a ∷ rest)
    changed : {s s' : IvectorStream} {z : Rooms} {r : Rings} {fs : List ℕ} {ws : List Float} {a : StreamAnswer} {cs : List Call} {rest : List Answer}
        → ring_call (answered a s') r ≡ done_on s z.rings (update_frame_weights s z.rings fs ws)
        → Run s' (rooms_from r z.estimate) cs rest
        → Run s z (change fs ws ∷ cs) (told a ∷ rest)
    forgotten : {s s' : IvectorStream} {z : Rooms} {r : Rings} {f : ℕ} {a : StreamAnswer} {cs : List Call} {rest : List Answer}
        → ring_call (answered a s') r ≡ done_on s z.rings (forget_before s z.rings f)
        → Run s' (rooms_from r z.estimate) cs rest
        → Run s z (forget f ∷ cs) (told a ∷ rest)
    windowed : {s s' : IvectorStream} {z : Rooms} {r : Rings} {w : ℕ} {a : StreamAnswer} {cs : List Call} {rest : List Answer}
        → ring_call (answered a s') r ≡ done_on s z.rings (set_cmn_window s z.rings w)
        → Run s' (rooms_from r z.estimate) cs rest
        → Run s z (set_window w ∷ cs) (told a ∷ rest)
    fetched : {s s' : IvectorStream} {z y : Rooms} {f : ℕ} (out : List ℕ) {out' : List ℕ} {a : StreamAnswer} {cs : List Call} {rest : List Answer}
        → fetch_call (answered a s') y out' ≡ fetched_on s z out (get_frame s t z n f (length out))
        → Run s' y cs rest
        → Run s z (fetch f (length out) ∷ cs) (told_with a out' ∷ rest)

-- The claim: a fresh stream by the exported call, c what it returns and y the rooms at exit, that is not refused; then any chain of calls, each of which
-- meets its contract. The fresh stream's numbers and the answers are those of the keeping machine over the model that the tables hold.
abbrev pub ChainKeeps : Type 0
ChainKeeps =
    (i : IvectorInfo) (t : Tables) (z y : Rooms) (n : ℕ) (c : StreamCall)
    → c ≡ new_stream_answer i (new_answer i (table_lengths_of t) (room_lengths_of z n))
    → y ≡ taken (new_refusal i (table_lengths_of t) (room_lengths_of z n)) (fresh_rooms i z) z
    → c.answer.refusal ≡ 0
    → (cs : List Call) (as' : List Answer)
    → Run t n c.stream y cs as'
    → let M = model_in i t in
    (c.answer ≡ told_by M 0 (fresh M) 0 0) × (as' ≡ answers M (ring_lengths_of z.rings) cs)

-- and over the model M of the bytes, where the tables and the record are those of an exported load that reads it: l is what the load returns, t' the tables at
-- exit
abbrev pub ChainFromBytes : Type 0
ChainFromBytes =
    (o : IvectorOptions) (f : Files) (t t' : Tables) (n : ℕ) (l : LoadAnswer) (M : Model) (at : ℕ)
    → let got = load o f (table_lengths_of t) n in
    got ≡ read M at
    → l ≡ load_answer o (loaded_of got)
    → t' ≡ loaded_tables got t
    → (z y : Rooms) (m : ℕ) (c : StreamCall)
    → c ≡ new_stream_answer l.info (new_answer l.info (table_lengths_of t') (room_lengths_of z m))
    → y ≡ taken (new_refusal l.info (table_lengths_of t') (room_lengths_of z m)) (fresh_rooms l.info z) z
    → c.answer.refusal ≡ 0
    → (cs : List Call) (as' : List Answer)
    → Run t' m c.stream y cs as'
    → as' ≡ answers M (ring_lengths_of z.rings) cs

-- every list of calls has a chain, on whatever record and rooms: outputs of zeros are lent
abbrev pub ChainExists : Type 0
ChainExists = (t : Tables) (n : ℕ) (s : IvectorStream) (z : Rooms) (cs : List Call) → (as' : List Answer) × Run t n s z cs as'

-- whatever the record and the rings are, what a change by the exported call answers is not 18
abbrev pub ChangeNever18 : Type 0
ChangeNever18 =
    (s s' : IvectorStream) (z r : Rings) (fs : List ℕ) (ws : List Float) (a : StreamAnswer)
    → ring_call (answered a s') r ≡ done_on s z (update_frame_weights s z fs ws)
    → a.refusal ≢ 18

-- ---- a worked chain: contexts 1 and 1, window 2, `min_energy` 50; room for four frames, six prefix rows, two changes

abbrev pub worked_rooms : Rooms
worked_rooms = rooms_from (rings_from (replicate 4 zero₃₂) (replicate 6 zero₆₄) (replicate 2 0) (replicate 2 zero₃₂)) (rooms 4 6).estimate

-- a push of a frame of c0 x, a fetch, and what a call answers: its number, frames and rows held, and a vector's bits
abbrev pub next : ℕ → Call
next x = push (as_f64 x ∷ [])

abbrev pub gave : ℕ → ℕ → ℕ → List ℕ → Answer
gave r frames rows v = record { told = answer_from r frames rows 0 0; vector = v }

-- Frame 1, of c0 40, and frame 5, of 45, are quiet. The first change is late for frame 0, which the first fetch brought in. The forget drops frames 0 and 1, and
-- frames 4 and 5 take their places. Four calls are refused: a push into the full room, a change below the floor, a fetch of a frame that is not ready, a window
-- for which rows are gone.
abbrev pub worked_calls : List Call
worked_calls =
    next 60 ∷ next 40 ∷ next 70 ∷ fetch 1 1 ∷ next 80 ∷ change (0 ∷ 2 ∷ []) (f32 0xbf00_0000 ∷ f32 0x3e80_0000 ∷ []) ∷ fetch 2 1 ∷ forget 3 ∷ next 90 ∷ next 45
    ∷ next 1 ∷ change (2 ∷ []) (one₃₂ ∷ []) ∷ change (3 ∷ 4 ∷ []) (one₃₂ ∷ f32 0x3f00_0000 ∷ []) ∷ fetch 5 1 ∷ set_window 3 ∷ set_window 1 ∷ finish ∷ fetch 4 1
    ∷ fetch 2 1 ∷ []

abbrev pub worked_answers : List Answer
worked_answers =
    gave 0 1 2 [] ∷ gave 0 2 3 [] ∷ gave 0 3 4 [] ∷ gave 0 3 4 (0x4259_5555 ∷ []) ∷ gave 0 4 5 [] ∷ gave 0 4 5 [] ∷ gave 0 4 5 (0x4255_d174 ∷ []) ∷ gave 0 2 4 []
    ∷ gave 0 3 5 [] ∷ gave 0 4 6 [] ∷ gave 14 4 6 [] ∷ gave 30 4 6 [] ∷ gave 0 4 6 [] ∷ gave 21 4 6 [] ∷ gave 32 4 6 [] ∷ gave 0 4 6 [] ∷ gave 0 4 6 []
    ∷ gave 0 4 6 (0x4296_3c3c ∷ []) ∷ gave 0 4 6 (0x4296_3c3c ∷ []) ∷ []

-- a fresh stream is made, the calls' contracts give these answers, and they are the keeping machine's
pub record Worked : Type 0 where
  pub made : new_answer (info 1 2) (table_lengths_of (tables 3)) (room_lengths_of worked_rooms 1) ≡ Ok (call_of 0 (fresh_stream (info 1 2) (room_lengths_of worked_rooms 1)) 0 0)
  pub chain : Run (tables 3) 1 (fresh_stream (info 1 2) (room_lengths_of worked_rooms 1)) (fresh_rooms (info 1 2) worked_rooms) worked_calls worked_answers
  pub machine : answers (model_in (info 1 2) (tables 3)) (ring_lengths_of worked_rooms.rings) worked_calls ≡ worked_answers
