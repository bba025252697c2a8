-- Refused, then every lent buffer and the record are as they were: of each exported call that is lent something to write, by its contract. (The others, the
-- settings, the lengths, the questions, a new silence table and the nearest voice, are lent nothing that a call could write.) Of a number that is a NaN
-- only this is said, that it is one: the logic has one NaN, and its bits may be others.
use Rattle.std.specs.Prelude.{◌≡◌, ◌≢◌, ◌≤◌, ◌<◌, ℕ, false, List, [], ◌∷◌, length, take, ℤ, Float}
use Rattle.std.specs.Float.{Format}
use Rattle.loops.specs.Refusal.{taken}
use Rattle.definition.specs.declared.IvectorOptions.{IvectorOptions}
use Rattle.definition.specs.declared.IvectorInfo.{IvectorInfo}
use Rattle.definition.specs.declared.IvectorStream.{IvectorStream}
use Rattle.definition.specs.declared.StreamAnswer.{StreamAnswer}
use Rattle.definition.specs.declared.StreamCall.{StreamCall}
use Rattle.definition.specs.declared.SilenceWeighting.{SilenceWeighting}
use Rattle.definition.specs.declared.InputFrame.{InputFrame}
use Rattle.definition.specs.declared.DecoderFrame.{DecoderFrame}
use Rattle.definition.specs.Model.{Tables, Files, table_lengths_of, load, loaded_of, loaded_tables}
use Rattle.definition.specs.Machine.{Call}
use Rattle.definition.specs.Stream.{new_refusal}
use Rattle.definition.specs.Silence.{TableRooms, compute_current_traceback, get_delta_weights, table_call, table_done}
use Rattle.program.specs.Rooms.{Rings, Rooms, room_lengths_of}
use Rattle.program.specs.Calls.{new_answer, fresh_rooms, RingStep, ring_call, done_on, push_frame, set_input_finished, update_frame_weights, forget_before, set_cmn_window, fetch_call, fetched_on, get_frame}
use Rattle.program.specs.Session.{program, step_of}
use Rattle.writer.specs.Written.{Params, written, written_out, written_answer}
use Rattle.writer.specs.declared.model_bytes.WrittenAnswer.{WrittenAnswer}
use Rattle.board.specs.Board.{board, block_refusal, command_of, board_step, FetchTaken}
use Rattle.kaldi.specs.Settings.{settings_of, load_with}
use Rattle.rounds.specs.Round.{Utterance, Voices, Bench, bench, with_rings, Pushed, push_all, cut, frame_length, ready, forgets, pushes, notes, weighs, changes, fetches, round, worked, round_outcome}
use Rattle.rounds.specs.declared.trigger_steps.RoundOutcome.{RoundOutcome}
use Rattle.model.specs.Load.{scratch_kept}
use Rattle.answers.specs.Answers.{load_answer, answered, new_stream_answer}
use Rattle.answers.specs.declared.LoadAnswer.{LoadAnswer}
use Rattle.exports.specs.declared.silence_calls.SilenceCounts.{SilenceCounts}
use Rattle.exports.specs.declared.register_calls.StepAnswer.{StepAnswer}
use Rattle.exports.specs.Answers.{settings_answer, counted}

-- a call on the rings: record s and rings z, s' and z' at exit
abbrev pub RingsKept : (IvectorStream → Rings → RingStep) → Type 0
RingsKept does =
    (s s' : IvectorStream) (z z' : Rings) (a : StreamAnswer)
    → ring_call (answered a s') z' ≡ done_on s z (does s z)
    → a.refusal ≢ 0
    → (s' ≡ s) × (z' ≡ z)

-- a model that is written, at either width
abbrev pub OutputKept : Type 0
OutputKept =
    (f : Format) (o : IvectorOptions) (cmvn : List ℕ) (p : Params) (out out' : List ℕ) (a : WrittenAnswer)
    → a ≡ written_answer (written f o cmvn p (length out))
    → out' ≡ written_out f o cmvn p out
    → a.refusal ≢ 0
    → out' ≡ out

-- ---- a round: phones of silence, the utterance, and the bench that it begins with

module _ (t : Tables) (n : ℕ) (silence_phones : List ℤ) (u : Utterance) (b : Bench) where
  -- what its first steps leave
  abbrev pub forgot : Bench
  forgot = (forgets u.start b).bench

  abbrev pub heard : Bench
  heard = (pushes u.numbers forgot).bench

  abbrev pub noted : Bench
  noted = (notes silence_phones u heard).bench

  abbrev pub weighed : Bench
  weighed = (weighs (ready noted.stream) u.start noted).bench

  abbrev pub changed : Bench
  changed = (changes weighed).bench

  abbrev pub fetched : Bench
  fetched = (fetches t n changed).bench

  abbrev pub frames_of : List (List Float)
  frames_of = cut (frame_length forgot.stream) u.numbers

  -- after its first m frames
  abbrev pub some_pushed : ℕ → Pushed
  some_pushed m = push_all forgot.stream forgot.rooms.rings (take m frames_of)

  -- a round that is refused, by its step: that step leaves all of the bench as the steps before it left it; of the pushes those before the one that is refused
  -- remain
  pub data Stopped : ℕ → Bench → Type 0 where
    at_forget : Stopped 1 b
    at_push : (m : ℕ) → m < length frames_of → (some_pushed m).refusal ≡ 0 → Stopped 2 (with_rings forgot (some_pushed m).stream (some_pushed m).rings)
    at_path : Stopped 3 heard
    at_weighing : Stopped 4 noted
    at_change : Stopped 5 weighed
    at_fetch : Stopped 6 changed
    at_voice : Stopped 7 fetched

-- ---- each exported call, by its contract: what is lent to it, what it returns (a), and at exit (with a stroke)

pub record KeptWhereRefused : Type 0 where
  pub shofrakin_load :
      (o : IvectorOptions) (f : Files) (t t' : Tables) (scratch scratch' : List Float) (a : LoadAnswer)
      → let got = load o f (table_lengths_of t) (length scratch) in
      a ≡ load_answer o (loaded_of got)
      → t' ≡ loaded_tables got t
      → scratch_kept got scratch scratch'
      → a.refusal ≢ 0
      → (t' ≡ t) × (scratch' ≡ scratch)
  pub shofrakin_load_with_settings :
      (splice cmvn : List ℕ) (f : Files) (t t' : Tables) (scratch scratch' : List Float) (a : LoadAnswer)
      → let got = load_with splice cmvn f (table_lengths_of t) (length scratch) in
      a ≡ load_answer (settings_answer (settings_of splice cmvn)).opts (loaded_of got)
      → t' ≡ loaded_tables got t
      → scratch_kept got scratch scratch'
      → a.refusal ≢ 0
      → (t' ≡ t) × (scratch' ≡ scratch)
  pub shofrakin_new_stream :
      (i : IvectorInfo) (t : Tables) (z z' : Rooms) (scratch scratch' : List Float) (a : StreamCall)
      → let lengths = room_lengths_of z (length scratch) in
      a ≡ new_stream_answer i (new_answer i (table_lengths_of t) lengths)
      → z' ≡ taken (new_refusal i (table_lengths_of t) lengths) (fresh_rooms i z) z
      → scratch' ≡ scratch
      → a.answer.refusal ≢ 0
      → (z' ≡ z) × (scratch' ≡ scratch)
  pub shofrakin_push_frame : (x : List Float) → RingsKept (λ s z. push_frame s z x)
  pub shofrakin_set_input_finished : RingsKept set_input_finished
  pub shofrakin_update_frame_weights : (fs : List ℕ) (ws : List Float) → RingsKept (λ s z. update_frame_weights s z fs ws)
  pub shofrakin_forget_before : (f : ℕ) → RingsKept (λ s z. forget_before s z f)
  pub shofrakin_set_cmn_window : (w : ℕ) → RingsKept (λ s z. set_cmn_window s z w)
  pub shofrakin_get_frame :
      (t : Tables) (s s' : IvectorStream) (z z' : Rooms) (f : ℕ) (out out' : List ℕ) (scratch scratch' : List Float) (a : StreamAnswer)
      → let x = get_frame s t z (length scratch) f (length out) in
      fetch_call (answered a s') z' out' ≡ fetched_on s z out x
      → ((x.refusal ≡ 0 → ⊥) → scratch' ≡ scratch)
      → a.refusal ≢ 0
      → (s' ≡ s) × (z' ≡ z) × (out' ≡ out) × (scratch' ≡ scratch)
  pub shofrakin_compute_current_traceback :
      (s s' : SilenceWeighting) (z z' : TableRooms) (silence_phones phones : List ℤ) (starts ends : List ℕ) (n : DecoderFrame) (a : SilenceCounts)
      → table_call (counted a s') z' [] [] ≡ table_done s z [] [] (compute_current_traceback s z silence_phones phones starts ends n)
      → a.refusal ≢ 0
      → (s' ≡ s) × (z' ≡ z)
  pub shofrakin_get_delta_weights :
      (s s' : SilenceWeighting) (z z' : TableRooms) (ready first : InputFrame) (fs fs' : List ℕ) (ws ws' : List Float) (a : SilenceCounts)
      → table_call (counted a s') z' fs' ws' ≡ table_done s z fs ws (get_delta_weights s z ready first (length fs) (length ws))
      → a.refusal ≢ 0
      → (s' ≡ s) × (z' ≡ z) × (fs' ≡ fs) × (ws' ≡ ws)
  -- a step over registers that is refused, for its block's length; and one whose command is refused, which only its block tells
  pub shofrakin_registers_step :
      (t : Tables) (s s' : IvectorStream) (z z' : Rooms) (block block' out out' : List ℕ) (x scratch scratch' : List Float) (a : StepAnswer)
      → let b = board (program s z) block out in
      let n = length scratch in
      a.refusal ≡ block_refusal block
      → board (program s' z') block' out' ≡ board_step t n x b
      → ((FetchTaken t n b → ⊥) → scratch' ≡ scratch)
      → (a.refusal ≢ 0 → (s' ≡ s) × (z' ≡ z) × (block' ≡ block) × (out' ≡ out) × (scratch' ≡ scratch))
      × ((c : Call) → command_of block x (length out) ≡ c ∷ [] → (step_of t n (program s z) c).refusal ≢ 0
      → (s' ≡ s) × (z' ≡ z) × (out' ≡ out) × (scratch' ≡ scratch))
  -- a round that is refused at a step keeps what the steps before it did
  pub shofrakin_round :
      (t : Tables) (s s' : IvectorStream) (z z' : Rooms) (q q' : SilenceWeighting) (y y' : TableRooms) (silence_phones : List ℤ) (u : Utterance) (v : Voices)
      (fs fs' : List ℕ) (ws ws' : List Float) (n' : ℕ) (out out' : List ℕ) (scratch scratch' : List Float) (o : RoundOutcome)
      → let b = bench s z q y fs ws 0 out in
      let n = length scratch in
      let x = round t n silence_phones u v b in
      o ≡ round_outcome x.result
      → bench s' z' q' y' fs' ws' n' out' ≡ x.bench
      → (worked x.result ≡ false → scratch' ≡ scratch)
      → o.refusal ≢ 0
      → Stopped t n silence_phones u b o.step (bench s' z' q' y' fs' ws' n' out') × (o.step ≤ 6 → scratch' ≡ scratch)
  pub shofrakin_write : OutputKept
