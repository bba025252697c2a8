-- `kept-where-refused`: an answer with a refusal's number comes of a step with that number, which leaves what it was given (`taken_old`). Of a round: each of its
-- steps by turns, the first whose number is not 0 ends it (`round_stops`).
use Rattle.std.specs.Prelude.{Ok, Err, Some, None}
use mathlib.Core.Path.{◌≡◌, refl, sym, ap, ap₂, subst, ◌∙◌}
use mathlib.Core.Bool.{false}
use mathlib.Core.List.{List, [], ◌∷◌}
use Prim.Native.Nat.{ℕ, zero, suc, ◌-◌, ◌≤◌, ◌<◌}
use native.Mathlib.Omega.{arith}
use lib.IntN.{ℤ}
use lib.ListN.{length, take}
use lib.Dec.{eqb}
use lib.Ieee.{Float}
use borrow.Author.Tests.{ne_eqb, eqb-false}
use Rattle.loops.specs.Refusal.{taken}
use Rattle.loops.proofs.Choose.{by-test}
use Rattle.loops.proofs.Refusal.{taken_old}
use Rattle.definition.specs.declared.IvectorInfo.{IvectorInfo}
use Rattle.definition.specs.declared.IvectorOptions.{IvectorOptions}
use Rattle.definition.specs.declared.IvectorStream.{IvectorStream}
use Rattle.definition.specs.declared.SilenceWeighting.{SilenceWeighting}
use Rattle.definition.specs.declared.StreamCall.{StreamCall}
use Rattle.definition.specs.Reader.{Got, read, refused}
use Rattle.definition.specs.Model.{Tables, Model, table_lengths_of, loaded_of, loaded_tables}
use Rattle.definition.specs.Stream.{new_refusal}
use Rattle.definition.specs.Machine.{Call, fetch}
use Rattle.definition.specs.Silence.{input, TableRooms, TableStep, compute_current_traceback, get_delta_weights, silence_answer, TableCall, table_done}
use Rattle.program.specs.Rooms.{Rings, Rooms, room_lengths_of}
use Rattle.program.specs.Calls.{call_of, fresh_stream, new_answer, fresh_rooms, RingStep, RingCall, done_on, push_frame, update_frame_weights, forget_before, set_input_finished, set_cmn_window, Step, FetchCall, fetched_on, get_frame}
use Rattle.program.specs.Session.{Program, program, step_of}
use Rattle.program.proofs.Returned.{number_is}
use Rattle.writer.specs.Written.{write_refusal, written, written_out, written_answer, Files as Wrote, Refused}
use Rattle.writer.specs.declared.model_bytes.WrittenAnswer.{WrittenAnswer}
use Rattle.board.specs.Board.{Board, board, byte, frame_number, block_refusal, command_of, performed, board_step}
use Rattle.rounds.specs.Round.{Utterance, Voices, Bench, bench, with_rings, with_table, with_fetch, Done, on_rings, push_all, cut, frame_length, ready, ended, forgets, pushes, notes, weighs, changes, fetches, result_of, finds, last_steps, Round, round_from, refused_at, round, worked, round_outcome}
use Rattle.rounds.specs.declared.trigger_steps.RoundOutcome.{RoundOutcome}
use Rattle.rounds.specs.Voice.{NearestVoice, nearest_voice}
use Rattle.model.specs.Load.{scratch_kept}
use Rattle.answers.specs.Answers.{load_answer, new_stream_answer}
use Rattle.answers.specs.declared.LoadAnswer.{LoadAnswer}
use Rattle.exports.specs.Kept.{RingsKept, OutputKept, forgot, heard, noted, weighed, changed, fetched, Stopped, at_forget, at_push, at_path, at_weighing, at_change, at_fetch, at_voice, KeptWhereRefused}

-- ---- a load, a fresh stream, a model that is written

load_kept : (o : IvectorOptions) (got : Got Model) (t t' : Tables) (n n' : List Float) (a : LoadAnswer) → a ≡ load_answer o (loaded_of got) → t' ≡ loaded_tables got t
    → scratch_kept got n n' → (a.refusal ≡ 0 → ⊥) → (t' ≡ t) × (n' ≡ n)
unfolding load_answer
load_kept o (refused r) t t' n n' a e h k r' = (h, k)
load_kept o (read M at) t t' n n' a e h k r' = absurd (r' (ap (λ (b : LoadAnswer). b.refusal) e))

new_kept : (i : IvectorInfo) (r : ℕ) (s a : StreamCall) (z y z' : Rooms) → a ≡ new_stream_answer i (taken r (Ok s) (Err r)) → s.answer.refusal ≡ 0 → z' ≡ taken r y z
    → (a.answer.refusal ≡ 0 → ⊥) → z' ≡ z
unfolding new_stream_answer
new_kept i zero s a z y z' e o h k = absurd (k (ap (λ (b : StreamCall). b.answer.refusal) e ∙ o))
new_kept i (suc r) s a z y z' e o h k = h

-- with refusal r, beside three lengths
answered_kept : (r x y l : ℕ) (bytes out out' : List ℕ) (a : WrittenAnswer) → a ≡ written_answer (taken r (Wrote x y l) (Refused r)) → out' ≡ taken r bytes out
    → (a.refusal ≡ 0 → ⊥) → out' ≡ out
unfolding written_answer
answered_kept zero x y l bytes out out' a e h k = absurd (k (ap (λ (b : WrittenAnswer). b.refusal) e))
answered_kept (suc r) x y l bytes out out' a e h k = h

write_kept : OutputKept
unfolding written written_out
write_kept f o cmvn p out out' a e h k = answered_kept (write_refusal f o cmvn p (length out)) _ _ _ _ out out' a e h k

-- ---- calls on a stream

-- of a call on the rings
done_kept : (s : IvectorStream) (z : Rings) (x : RingStep) → (((done_on s z x).call.answer.refusal ≡ 0) → ⊥) → ((done_on s z x).call.stream ≡ s) × ((done_on s z x).rings ≡ z)
done_kept s z x r =
    let n : x.refusal ≡ 0 → ⊥ = λ e. r (number_is x.refusal _ 0 0 ∙ e) in
    (taken_old x.refusal x.stream s n, taken_old x.refusal x.rings z n)

rings_kept : (does : IvectorStream → Rings → RingStep) → RingsKept does
rings_kept does s s' z z' a h r =
    let k = done_kept s z (does s z) (λ e. r (ap (λ (c : RingCall). c.call.answer.refusal) h ∙ e)) in
    (ap (λ (c : RingCall). c.call.stream) h ∙ k.0, ap (λ (c : RingCall). c.rings) h ∙ k.1)

fetch_kept : (s : IvectorStream) (z : Rooms) (out : List ℕ) (x : Step) → ((fetched_on s z out x).call.answer.refusal ≡ 0 → ⊥)
    → ((fetched_on s z out x).call.stream ≡ s) × ((fetched_on s z out x).rooms ≡ z) × ((fetched_on s z out x).output ≡ out) × (x.refusal ≡ 0 → ⊥)
fetch_kept s z out x r =
    let n : x.refusal ≡ 0 → ⊥ = λ e. r (number_is x.refusal _ _ _ ∙ e) in
    (taken_old x.refusal x.stream s n, taken_old x.refusal x.rooms z n, taken_old x.refusal _ out n, n)

-- ---- calls on a silence table

table_kept : (s : SilenceWeighting) (z : TableRooms) (fs : List ℕ) (ws : List Float) (x : TableStep) → let d = table_done s z fs ws x in
    (d.answer.refusal ≡ 0 → ⊥) → (d.answer.silence ≡ s) × (d.rooms ≡ z) × (d.frames ≡ fs) × (d.weights ≡ ws) × (d.answer.changes ≡ 0)
unfolding silence_answer
table_kept s z fs ws x n = (taken_old x.refusal _ s n, taken_old x.refusal _ z n, taken_old x.refusal _ fs n, taken_old x.refusal _ ws n, taken_old x.refusal _ 0 n)

-- ---- a step over registers

module _ (t : Tables) (n : ℕ) (b : Board) (x : List Float) where
  block_kept : (block_refusal b.block ≡ 0 → ⊥) → board_step t n x b ≡ b
  unfolding board_step
  block_kept h = taken_old (block_refusal b.block) _ b h

  module _ (c : Call) (e : command_of b.block x (length b.vector) ≡ c ∷ []) (r : (step_of t n b.stream c).refusal ≡ 0 → ⊥) where
    performed_kept : ((performed t n b (c ∷ [])).stream ≡ b.stream) × ((performed t n b (c ∷ [])).vector ≡ b.vector)
    unfolding performed
    performed_kept = (taken_old (step_of t n b.stream c).refusal _ b.stream r, taken_old (step_of t n b.stream c).refusal _ b.vector r)

    command_kept : ((board_step t n x b).stream ≡ b.stream) × ((board_step t n x b).vector ≡ b.vector)
    unfolding board_step
    command_kept = by (block_refusal b.block)
      where
        by : (m : ℕ) → ((taken m (performed t n b (command_of b.block x (length b.vector))) b).stream ≡ b.stream)
            × ((taken m (performed t n b (command_of b.block x (length b.vector))) b).vector ≡ b.vector)
        by zero = rw e performed_kept
        by (suc m) = (refl, refl)

    no_fetch : byte b.block 0 ≡ 4 → ((step_of t n b.stream (fetch (frame_number b.block) (length b.vector))).refusal ≡ 0) → ⊥
    unfolding command_of
    no_fetch k f = let q : fetch (frame_number b.block) (length b.vector) ≡ c = cc (rw k at e) in r (ap (λ (d : Call). (step_of t n b.stream d).refusal) (sym q) ∙ f)

-- ---- a round

-- one push after the other, up to the first that is refused: those before it
pushes_stop : (s : IvectorStream) (z : Rings) (fs : List (List Float)) → ((push_all s z fs).refusal ≡ 0 → ⊥)
    → (m : ℕ) × (m < length fs) × ((push_all s z (take m fs)).refusal ≡ 0)
    × ((push_all s z (take m fs)).stream ≡ (push_all s z fs).stream) × ((push_all s z (take m fs)).rings ≡ (push_all s z fs).rings)
unfolding push_all
pushes_stop s z [] h = absurd (h refl)
pushes_stop s z (x ∷ fs) h =
    let c : RingCall = done_on s z (push_frame s z x) in
    by-test (eqb c.call.answer.refusal 0)
    (λ e.
    let g = pushes_stop c.call.stream c.rings fs (λ q. h (rw e q)) in
    (suc g.0, omega (arith, g.1), rw e g.2, rw e g.3, rw e g.4))
    (λ e.
    let k = done_kept s z (push_frame s z x) (eqb-false _ _ e) in
    (0, omega arith, refl, rw e (sym k.0), rw e (sym k.1)))

module _ (t : Tables) (n : ℕ) (silence_phones : List ℤ) (u : Utterance) (v : Voices) (b : Bench) (none_given : b.given ≡ 0) where
  -- a round that is refused at step k, as it stops
  pub record Stops (x : Round) : Type 0 where
    pub stopped : Stopped t n silence_phones u b (round_outcome x.result).step x.bench
    pub scratch : (round_outcome x.result).step ≤ 6 → worked x.result ≡ false

  abbrev Refused-round : Round → Type 0
  Refused-round x = ((round_outcome x.result).refusal ≡ 0 → ⊥) → Stops x

  here : (k r : ℕ) (e : Bench) → k ≤ 6 → Stopped t n silence_phones u b k e → Stops (round_from (refused_at r k) e)
  unfolding round_outcome worked
  here k r e l s = record { stopped = s; scratch = λ q. ne_eqb k 7 (λ p. omega arith) }

  -- a step: it ends the round, or the round goes on
  turn : (k : ℕ) (d : Done) (next : Bench → Round) → k ≤ 6 → ((d.refusal ≡ 0 → ⊥) → Stopped t n silence_phones u b k d.bench) → Refused-round (next d.bench)
      → Refused-round (ended k d.refusal d.bench next)
  unfolding ended
  turn k d next l stop go = by-test (eqb d.refusal 0) (λ e. rw e go) (λ e. rw e (λ h. here k d.refusal d.bench l (stop (eqb-false d.refusal 0 e))))

  -- ---- what a step that is refused leaves

  table_same : (e : Bench) (d : TableCall) → d.answer.silence ≡ e.silence → d.rooms ≡ e.table → d.frames ≡ e.frames → d.weights ≡ e.weights → d.answer.changes ≡ e.given
      → with_table e d.answer.silence d.rooms d.frames d.weights d.answer.changes ≡ e
  table_same e d p q r s g = rw (p, q, r, s, g)

  fetch_same : (e : Bench) (d : FetchCall) → d.call.stream ≡ e.stream → d.rooms ≡ e.rooms → d.output ≡ e.out → with_fetch e d.call.stream d.rooms d.output ≡ e
  fetch_same e d p q r = rw (p, q, r)

  rings_bench : (e : Bench) (x : RingStep) → let d = on_rings e (done_on e.stream e.rooms.rings x) in (d.refusal ≡ 0 → ⊥) → d.bench ≡ e
  rings_bench e x h = let k = done_kept e.stream e.rooms.rings x h in ap₂ (with_rings e) k.0 k.1

  forget_stops : ((forgets u.start b).refusal ≡ 0 → ⊥) → Stopped t n silence_phones u b 1 (forgets u.start b).bench
  unfolding forgets
  forget_stops h = subst (Stopped t n silence_phones u b 1) (sym (rings_bench b _ h)) at_forget

  push_stops : ((pushes u.numbers (forgot t n silence_phones u b)).refusal ≡ 0 → ⊥) → Stopped t n silence_phones u b 2 (pushes u.numbers (forgot t n silence_phones u b)).bench
  unfolding pushes
  push_stops h =
      let e : Bench = forgot t n silence_phones u b in
      let g = pushes_stop e.stream e.rooms.rings (cut (frame_length e.stream) u.numbers) h in
      subst (Stopped t n silence_phones u b 2) (ap₂ (with_rings e) g.3 g.4) (at_push g.0 g.1 g.2)

  path_stops : let e = heard t n silence_phones u b in ((notes silence_phones u e).refusal ≡ 0 → ⊥) → Stopped t n silence_phones u b 3 (notes silence_phones u e).bench
  unfolding notes
  path_stops h =
      let e : Bench = heard t n silence_phones u b in
      let k = table_kept e.silence e.table [] [] _ h in
      subst (Stopped t n silence_phones u b 3) (sym (ap₂ (λ (q : SilenceWeighting) (y : TableRooms). with_table e q y e.frames e.weights e.given) k.0 k.1)) at_path

  given_is : (noted t n silence_phones u b).given ≡ 0
  unfolding forgets pushes notes
  given_is = none_given

  weighing_stops : let e = noted t n silence_phones u b in ((weighs (ready e.stream) u.start e).refusal ≡ 0 → ⊥)
      → Stopped t n silence_phones u b 4 (weighs (ready e.stream) u.start e).bench
  unfolding weighs
  weighing_stops h =
      let e : Bench = noted t n silence_phones u b in
      let x : TableStep = get_delta_weights e.silence e.table (input (ready e.stream)) (input u.start) (length e.frames) (length e.weights) in
      let k = table_kept e.silence e.table e.frames e.weights x h in
      subst (Stopped t n silence_phones u b 4)
      (sym (table_same e (table_done e.silence e.table e.frames e.weights x) k.0 k.1 k.2 k.3 (k.4 ∙ sym given_is))) at_weighing

  change_stops : let e = weighed t n silence_phones u b in ((changes e).refusal ≡ 0 → ⊥) → Stopped t n silence_phones u b 5 (changes e).bench
  unfolding changes
  change_stops h = subst (Stopped t n silence_phones u b 5) (sym (rings_bench (weighed t n silence_phones u b) _ h)) at_change

  fetch_stops : let e = changed t n silence_phones u b in ((fetches t n e).refusal ≡ 0 → ⊥) → Stopped t n silence_phones u b 6 (fetches t n e).bench
  unfolding fetches
  fetch_stops h =
      let e : Bench = changed t n silence_phones u b in
      let x : Step = get_frame e.stream t e.rooms n (ready e.stream - 1) (length e.out) in
      let k = fetch_kept e.stream e.rooms e.out x h in
      subst (Stopped t n silence_phones u b 6)
      (sym (fetch_same e (fetched_on e.stream e.rooms e.out x) k.0 k.1 k.2)) at_fetch

  voice_stops : Refused-round (finds v (fetched t n silence_phones u b))
  unfolding finds result_of round_outcome
  voice_stops = by (nearest_voice (fetched t n silence_phones u b).stream.info.dims.ivector_dim (fetched t n silence_phones u b).out v.count v.enrolled v.limit)
    where
      by : (a : NearestVoice) → Refused-round (round_from (result_of a) (fetched t n silence_phones u b))
      by (Ok (Some w)) h = absurd (h refl)
      by (Ok None) h = absurd (h refl)
      by (Err r) h = record { stopped = at_voice; scratch = λ q. absurd (omega arith) }

  last_stops : Refused-round (last_steps t n v (changed t n silence_phones u b))
  unfolding last_steps round_outcome
  last_stops =
      by-test (eqb (ready (changed t n silence_phones u b).stream) 0)
      (λ e. rw e (λ h. absurd (h refl)))
      (λ e. rw e (turn 6 (fetches t n (changed t n silence_phones u b)) (finds v) (omega arith) fetch_stops voice_stops))

  pub round_stops : Refused-round (round t n silence_phones u v b)
  unfolding round
  round_stops =
      turn 1 _ _ (omega arith) forget_stops
      (turn 2 _ _ (omega arith) push_stops
      (turn 3 _ _ (omega arith) path_stops
      (turn 4 _ _ (omega arith) weighing_stops
      (turn 5 _ (last_steps t n v) (omega arith) change_stops last_stops))))

-- ---- every call

pub kept-where-refused : KeptWhereRefused
unfolding new_answer
kept-where-refused =
    record {
      shofrakin_load = λ o f t t' m m' a e h k r. load_kept o _ t t' m m' a e h k r;
      shofrakin_load_with_settings = λ splice cmvn f t t' m m' a e h k r. load_kept _ _ t t' m m' a e h k r;
      shofrakin_new_stream = λ i t z z' m m' a e h q r.
          let n = room_lengths_of z (length m) in
          (new_kept i (new_refusal i (table_lengths_of t) n) (call_of 0 (fresh_stream i n) 0 0) a z (fresh_rooms i z) z' e (number_is 0 _ 0 0) h r, q);
      shofrakin_push_frame = λ x. rings_kept (λ s z. push_frame s z x);
      shofrakin_set_input_finished = rings_kept set_input_finished;
      shofrakin_update_frame_weights = λ fs ws. rings_kept (λ s z. update_frame_weights s z fs ws);
      shofrakin_forget_before = λ f. rings_kept (λ s z. forget_before s z f);
      shofrakin_set_cmn_window = λ w. rings_kept (λ s z. set_cmn_window s z w);
      shofrakin_get_frame = λ t s s' z z' f out out' m m' a h q r.
          let x = get_frame s t z (length m) f (length out) in
          let k = fetch_kept s z out x (λ e. r (ap (λ (c : FetchCall). c.call.answer.refusal) h ∙ e)) in (
            ap (λ (c : FetchCall). c.call.stream) h ∙ k.0,
            ap (λ (c : FetchCall). c.rooms) h ∙ k.1,
            ap (λ (c : FetchCall). c.output) h ∙ k.2,
            q k.3,
          );
      shofrakin_compute_current_traceback = λ s s' z z' silence_phones phones starts ends n a h r.
          let k = table_kept s z [] [] (compute_current_traceback s z silence_phones phones starts ends n) (λ e. r (ap (λ (c : TableCall). c.answer.refusal) h ∙ e)) in
          (ap (λ (c : TableCall). c.answer.silence) h ∙ k.0, ap (λ (c : TableCall). c.rooms) h ∙ k.1);
      shofrakin_get_delta_weights = λ s s' z z' ready first fs fs' ws ws' a h r.
          let k = table_kept s z fs ws (get_delta_weights s z ready first (length fs) (length ws)) (λ e. r (ap (λ (c : TableCall). c.answer.refusal) h ∙ e)) in (
            ap (λ (c : TableCall). c.answer.silence) h ∙ k.0,
            ap (λ (c : TableCall). c.rooms) h ∙ k.1,
            ap (λ (c : TableCall). c.frames) h ∙ k.2,
            ap (λ (c : TableCall). c.weights) h ∙ k.3,
          );
      shofrakin_registers_step = λ t s s' z z' block block' out out' x m m' a e h q.
          let b : Board = board (program s z) block out in
          let n : ℕ = length m in (
            λ r.
                let no : block_refusal block ≡ 0 → ⊥ = λ g. r (e ∙ g) in
                let k : board (program s' z') block' out' ≡ b = h ∙ block_kept t n b x no in (
                  ap (λ (c : Board). c.stream.stream) k,
                  ap (λ (c : Board). c.stream.rooms) k,
                  ap (λ (c : Board). c.block) k,
                  ap (λ (c : Board). c.vector) k,
                  q (λ g. no g.0),
                ),
            λ c d r.
                let k = command_kept t n b x c d r in (
                  ap (λ (c : Board). c.stream.stream) h ∙ ap (λ (p : Program). p.stream) k.0,
                  ap (λ (c : Board). c.stream.rooms) h ∙ ap (λ (p : Program). p.rooms) k.0,
                  ap (λ (c : Board). c.vector) h ∙ k.1,
                  q (λ g. no_fetch t n b x c d r g.1 g.2),
                ),
          );
      shofrakin_round = λ t s s' z z' w w' y y' silence_phones u v fs fs' ws ws' n' out out' m m' o e h q r.
          let b : Bench = bench s z w y fs ws 0 out in
          let n : ℕ = length m in
          let x : Round = round t n silence_phones u v b in
          let k = round_stops t n silence_phones u v b refl (λ g. r (ap (λ (p : RoundOutcome). p.refusal) e ∙ g)) in (
            rw (h, e) k.stopped,
            λ l. q (k.scratch (rw e at l)),
          );
      shofrakin_write = write_kept;
    }
