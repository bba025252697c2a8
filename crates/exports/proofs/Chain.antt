-- `chain-keeps`: a chain of exported calls answers what the keeping machine answers. Each step is one of the program, by its contract (`Returned` of `program`);
-- `Kept` is the program's invariant, which each step keeps, and by which a fetch that is taken fills its whole output. Then `keeps`.
use Rattle.std.specs.Prelude.{Ok, Err}
use mathlib.Core.Path.{◌≡◌, refl, sym, ap, ap₂, subst, ◌∙◌}
use mathlib.Core.List.{List, [], ◌∷◌}
use Prim.Native.Nat.{ℕ, zero, suc}
use native.Mathlib.Omega.{arith}
use lib.ListN.{length, replicate, length-map, length-set, length-replicate}
use lib.Ieee.{Float}
use borrow.Author.Tests.{eqb-true, not-false}
use Rattle.loops.specs.Lists.{over}
use Rattle.loops.specs.Refusal.{taken}
use Rattle.loops.proofs.Fill.{over_whole}
use Rattle.loops.proofs.Refusal.{none_first, taken_new}
use Rattle.definition.specs.declared.IvectorInfo.{IvectorInfo}
use Rattle.definition.specs.declared.IvectorStream.{IvectorStream}
use Rattle.definition.specs.declared.StreamAnswer.{StreamAnswer}
use Rattle.definition.specs.declared.StreamCall.{StreamCall}
use Rattle.definition.specs.declared.RoomLengths.{RoomLengths}
use Rattle.definition.specs.Reader.{Got}
use Rattle.definition.specs.Model.{loaded_of, Tables, Model, table_lengths_of, model_in}
use Rattle.definition.specs.Stream.{new_refusal}
use Rattle.definition.specs.Machine.{Call, push, finish, change, forget, set_window, fetch, Answer, Machine, Move, moved, bits_of, fetch_tests, fresh, does, fetched as fetched_vector, answers}
use Rattle.definition.proofs.Computed.{computed}
use Rattle.program.specs.Rooms.{Rings, Rooms, rooms_from, ring_lengths_of, room_lengths_of, ring_at, waiting_in}
use Rattle.program.specs.Calls.{RingStep, RingCall, ring_call, done_on, Step, FetchCall, fetch_call, fetched_on, answer_of, call_of, fresh_stream, new_answer, fresh_rooms, pushed_frames, pushed_rows, push_frame, set_input_finished, update_frame_weights, forget_mark, forget_before, set_cmn_window, fetch_refusal, fetch_estimate, fetch_changes, fetch_stream, fetch_rooms, fetch_vector, fetch_nans, get_frame}
use Rattle.program.specs.Examples.{tables, info}
use Rattle.program.specs.Session.{Program, program, on_rings, stepped, reply, step_of, program_answers}
use Rattle.program.proofs.Sound.{stream_of, Made, Inv, refusal_same}
use Rattle.program.proofs.Moves.{MovedOn, moved_on}
use Rattle.program.proofs.Fresh.{fresh_inv}
use Rattle.program.proofs.Returned.{number_is, left, fetched_is, done_is, left_program, left_told, left_output}
use Rattle.program.proofs.Keeps.{Begun, begun, keeps}
use Rattle.program.proofs.Never18.{change-never-18 as program-change-never-18}
use Rattle.whole.proofs.Whole.{read_back}
use Rattle.answers.specs.declared.LoadAnswer.{LoadAnswer}
use Rattle.answers.specs.Answers.{load_answer, answered, new_stream_answer}
use Rattle.exports.specs.Chain.{told, told_with, Run, none, pushed, finished, changed, forgotten, windowed, fetched, ChainKeeps, ChainFromBytes, ChainExists, ChangeNever18, worked_rooms, worked_calls, worked_answers, Worked}

-- ---- the program's state along a chain

module _ (i : IvectorInfo) (t : Tables) (z : RoomLengths) (n : ℕ) (made : Made i t z) where
  abbrev M : Model
  M = model_in i t

  -- it is that of a keeping machine, with what holds between the two
  abbrev Kept : Program → Type 0
  Kept p = (k : Machine) × (p ≡ program (stream_of i z k) p.rooms) × Inv i z n k p.rooms

  abbrev step : Program → Call → Step
  step p c = step_of t n p c

  abbrev move_of : Machine → Call → Move
  move_of k c = does M z.rings k c

  kept_on : (p : Program) → Kept p → (c : Call) → Kept (stepped p (step p c))
  kept_on p (k, e, v) c =
      let m : MovedOn i z n t made k p.rooms c = moved_on i z n t made k p.rooms v c in
      let k' : Machine = moved k (move_of k c) in
      let f : stepped p (step p c) ≡ program (stream_of i z k') m.rooms = ap (λ (q : Program). stepped q (step q c)) e ∙ m.state_is in
      let w : m.rooms ≡ (stepped p (step p c)).rooms = sym (ap (λ (q : Program). q.rooms) f) in
      (k', f ∙ ap (program (stream_of i z k')) w, subst (Inv i z n k') w m.holds)

  -- ---- a fetch that is taken fills its output

  length_fetched : (v : List Float) → length (fetched_vector M v) ≡ length v
  unfolding fetched_vector
  length_fetched v = length-set _ 0 _ ∙ length-map v _

  output_long : (k : Machine) (f m : ℕ) → (move_of k (fetch f m)).refusal ≡ 0 → m ≡ i.dims.ivector_dim
  unfolding does fetch_tests
  output_long k f m e = eqb-true _ _ (not-false _ (none_first _ tt e).0)

  gives_is : (k : Machine) (f m : ℕ) → (move_of k (fetch f m)).gives ≡ fetched_vector M (move_of k (fetch f m)).left.estimate.current
  unfolding does
  gives_is k f m = refl

  vector_long : (p : Program) → Kept p → (f m : ℕ) → (step p (fetch f m)).refusal ≡ 0 → length (step p (fetch f m)).vector ≡ m
  vector_long p (k, e, v) f m r =
      let c : Call = fetch f m in
      let y : Move = move_of k c in
      let g : MovedOn i z n t made k p.rooms c = moved_on i z n t made k p.rooms v c in
      let same : step p c ≡ step (program (stream_of i z k) p.rooms) c = ap (λ (q : Program). step q c) e in
      let x : Step = step (program (stream_of i z k) p.rooms) c in
      let rx : x.refusal ≡ 0 = ap (λ (q : Step). q.refusal) (sym same) ∙ r in
      let ry : y.refusal ≡ 0 = sym (refusal_same i z n t made k p.rooms v c) ∙ rx in
      let vector : x.vector ≡ y.gives = sym (taken_new x.refusal x.vector [] rx) ∙ g.gives ∙ taken_new y.refusal y.gives [] ry in
      let left_is : moved k y ≡ y.left = taken_new y.refusal y.left k ry in
      ap (λ (q : Step). length q.vector) same ∙ ap length vector ∙ ap length (gives_is k f m) ∙ length_fetched _
      ∙ ap (λ (q : Machine). length q.estimate.current) (sym left_is) ∙ g.holds.long.current_is ∙ sym (output_long k f m ry)

  -- ---- one step more

  -- of a call on the rings
  module _ (p : Program) (x : RingStep) {s' : IvectorStream} {r : Rings} {a : StreamAnswer} (h : ring_call (answered a s') r ≡ done_on p.stream p.rooms.rings x) where
    ring_left : fetch_call (answered a s') (rooms_from r p.rooms.estimate) [] ≡ left p [] (on_rings p.rooms x)
    ring_left = ap (λ (q : RingCall). fetch_call q.call (rooms_from q.rings p.rooms.estimate) []) h ∙ done_is p [] x

    ring_program : stepped p (on_rings p.rooms x) ≡ program s' (rooms_from r p.rooms.estimate)
    ring_program = left_program p [] (on_rings p.rooms x) ring_left

    ring_told : told a ≡ reply p (on_rings p.rooms x)
    unfolding reply
    ring_told = ap told (sym (left_told p [] (on_rings p.rooms x) ring_left)) ∙ none_given x.refusal
      where
        none_given : (m : ℕ) → told (reply p (on_rings p.rooms x)).told ≡ record { told = (reply p (on_rings p.rooms x)).told; vector = bits_of (taken m [] []) }
        none_given zero = refl
        none_given (suc m) = refl

  ring_more : (p : Program) → Kept p → (c : Call) (x : RingStep) → step p c ≡ on_rings p.rooms x
      → {s' : IvectorStream} {r : Rings} {a : StreamAnswer} → ring_call (answered a s') r ≡ done_on p.stream p.rooms.rings x
      → (cs : List Call) (rest : List Answer)
      → (Kept (program s' (rooms_from r p.rooms.estimate)) → rest ≡ program_answers t n (program s' (rooms_from r p.rooms.estimate)) cs)
      → told a ∷ rest ≡ program_answers t n p (c ∷ cs)
  unfolding program_answers
  ring_more p kept c x e {s'} {r} {a} h cs rest next =
      let q : stepped p (step p c) ≡ program s' (rooms_from r p.rooms.estimate) = ap (stepped p) e ∙ ring_program p x h in
      ap₂ ◌∷◌ (ring_told p x h ∙ ap (reply p) (sym e))
      (next (subst Kept q (kept_on p kept c)) ∙ ap (λ (u : Program). program_answers t n u cs) (sym q))

  -- of a fetch
  module _ (p : Program) (kept : Kept p) (f : ℕ) (out : List ℕ) {s' : IvectorStream} {y : Rooms} {out' : List ℕ} {a : StreamAnswer}
      (h : fetch_call (answered a s') y out' ≡ fetched_on p.stream p.rooms out (get_frame p.stream t p.rooms n f (length out))) where
    abbrev x : Step
    x = step p (fetch f (length out))

    fetch_left : fetch_call (answered a s') y out' ≡ left p out x
    unfolding step_of
    fetch_left = h ∙ fetched_is p out (get_frame p.stream t p.rooms n f (length out))

    filled : (m : ℕ) → x.refusal ≡ m → taken m (over (bits_of (taken m x.vector [])) out) [] ≡ bits_of (taken m x.vector [])
    filled zero e = over_whole (bits_of x.vector) out (length-map x.vector _ ∙ vector_long p kept f (length out) e)
    filled (suc m) e = refl

    fetch_told : told_with a out' ≡ reply p x
    unfolding reply
    fetch_told =
        let told_is : a ≡ (reply p x).told = sym (left_told p out x fetch_left) in
        let number : a.refusal ≡ x.refusal = ap (λ (b : StreamAnswer). b.refusal) told_is ∙ number_is x.refusal _ _ _ in
        ap₂ (λ (b : StreamAnswer) (v : List ℕ). record { told = b; vector = v }) told_is
        (ap₂ (λ (m : ℕ) (v : List ℕ). taken m v []) number (left_output p out x fetch_left) ∙ filled x.refusal refl)

    fetch_more : (cs : List Call) (rest : List Answer) → (Kept (program s' y) → rest ≡ program_answers t n (program s' y) cs)
        → told_with a out' ∷ rest ≡ program_answers t n p (fetch f (length out) ∷ cs)
    unfolding program_answers
    fetch_more cs rest next =
        let q : stepped p x ≡ program s' y = left_program p out x fetch_left in
        ap₂ ◌∷◌ fetch_told (next (subst Kept q (kept_on p kept (fetch f (length out)))) ∙ ap (λ (u : Program). program_answers t n u cs) (sym q))

  -- ---- a chain

  chain : {s : IvectorStream} {w : Rooms} {cs : List Call} {as' : List Answer} → Kept (program s w) → Run t n s w cs as' → as' ≡ program_answers t n (program s w) cs
  unfolding program_answers step_of
  chain kept none = refl
  chain {s} {w} kept (pushed {x = x} {cs = cs} {rest = rest} h run) =
      ring_more (program s w) kept (push x) (push_frame s w.rings x) refl h cs rest (λ q. chain q run)
  chain {s} {w} kept (finished {cs = cs} {rest = rest} h run) =
      ring_more (program s w) kept finish (set_input_finished s w.rings) refl h cs rest (λ q. chain q run)
  chain {s} {w} kept (changed {fs = fs} {ws = ws} {cs = cs} {rest = rest} h run) =
      ring_more (program s w) kept (change fs ws) (update_frame_weights s w.rings fs ws) refl h cs rest (λ q. chain q run)
  chain {s} {w} kept (forgotten {f = f} {cs = cs} {rest = rest} h run) =
      ring_more (program s w) kept (forget f) (forget_before s w.rings f) refl h cs rest (λ q. chain q run)
  chain {s} {w} kept (windowed {w = v} {cs = cs} {rest = rest} h run) =
      ring_more (program s w) kept (set_window v) (set_cmn_window s w.rings v) refl h cs rest (λ q. chain q run)
  chain {s} {w} kept (fetched {f = f} out {cs = cs} {rest = rest} h run) =
      fetch_more (program s w) kept f out h cs rest (λ q. chain q run)

-- ---- from a fresh stream

made_ok : (i : IvectorInfo) (r : ℕ) (s c : StreamCall) → c ≡ new_stream_answer i (taken r (Ok s) (Err r)) → c.answer.refusal ≡ 0
    → (r ≡ 0) × (taken r (Ok s) (Err r) ≡ Ok c)
unfolding new_stream_answer
made_ok i zero s c e h = (refl, ap Ok (sym e))
made_ok i (suc r) s c e h = absurd (omega (arith, ap (λ (q : StreamCall). q.answer.refusal) e, h))

pub chain-keeps : ChainKeeps
unfolding new_answer
chain-keeps i t z y n c ec ey e cs as' run =
    let lengths : RoomLengths = room_lengths_of z n in
    let r : ℕ = new_refusal i (table_lengths_of t) lengths in
    let ok = made_ok i r (call_of 0 (fresh_stream i lengths) 0 0) c ec e in
    let b : Begun i t z n c ok.1 = begun i t z n c ok.1 in
    let there : y ≡ fresh_rooms i z = ey ∙ taken_new r (fresh_rooms i z) z ok.0 in
    let start : program c.stream y ≡ program c.stream (fresh_rooms i z) = ap (program c.stream) there in
    let k = keeps i t z n c ok.1 cs in
    let k₀ : Machine = fresh (model_in i t) in
    let first : Kept i t lengths n b.made_is (program c.stream y) =
    (k₀, start ∙ b.start_is ∙ ap (program (stream_of i lengths k₀)) (sym there), subst (Inv i lengths n k₀) (sym there) (fresh_inv i t z n b.made_is)) in
    (k.0, chain i t lengths n b.made_is first run ∙ ap (λ (p : Program). program_answers t n p cs) start ∙ k.1)

-- ---- from bytes

pub chain-from-bytes : ChainFromBytes
unfolding load_answer
chain-from-bytes o f t t' n l M at g el et z y m c ec ey e cs as' run =
    let info_is : l.info ≡ M.info = ap (λ (a : LoadAnswer). a.info) el ∙ ap (λ (q : Got Model). (load_answer o (loaded_of q)).info) g in
    let model_is : model_in l.info t' ≡ M = ap₂ model_in info_is et ∙ read_back o f t n M at g in
    (chain-keeps l.info t' z y m c ec ey e cs as' run).1 ∙ ap (λ (N : Model). answers N (ring_lengths_of z.rings) cs) model_is

-- ---- there is a chain

pub chain-exists : ChainExists
chain-exists t n s z [] = ([], none)
chain-exists t n s z (push x ∷ cs) =
    let d : RingCall = done_on s z.rings (push_frame s z.rings x) in
    let q = chain-exists t n d.call.stream (rooms_from d.rings z.estimate) cs in
    (told d.call.answer ∷ q.0, pushed {s' = d.call.stream} {r = d.rings} {a = d.call.answer} refl q.1)
chain-exists t n s z (finish ∷ cs) =
    let d : RingCall = done_on s z.rings (set_input_finished s z.rings) in
    let q = chain-exists t n d.call.stream (rooms_from d.rings z.estimate) cs in
    (told d.call.answer ∷ q.0, finished {s' = d.call.stream} {r = d.rings} {a = d.call.answer} refl q.1)
chain-exists t n s z (change fs ws ∷ cs) =
    let d : RingCall = done_on s z.rings (update_frame_weights s z.rings fs ws) in
    let q = chain-exists t n d.call.stream (rooms_from d.rings z.estimate) cs in
    (told d.call.answer ∷ q.0, changed {s' = d.call.stream} {r = d.rings} {a = d.call.answer} refl q.1)
chain-exists t n s z (forget f ∷ cs) =
    let d : RingCall = done_on s z.rings (forget_before s z.rings f) in
    let q = chain-exists t n d.call.stream (rooms_from d.rings z.estimate) cs in
    (told d.call.answer ∷ q.0, forgotten {s' = d.call.stream} {r = d.rings} {a = d.call.answer} refl q.1)
chain-exists t n s z (set_window w ∷ cs) =
    let d : RingCall = done_on s z.rings (set_cmn_window s z.rings w) in
    let q = chain-exists t n d.call.stream (rooms_from d.rings z.estimate) cs in
    (told d.call.answer ∷ q.0, windowed {s' = d.call.stream} {r = d.rings} {a = d.call.answer} refl q.1)
chain-exists t n s z (fetch f m ∷ cs) =
    let out : List ℕ = replicate m 0 in
    let d : FetchCall = fetched_on s z out (get_frame s t z n f (length out)) in
    let q = chain-exists t n d.call.stream d.rooms cs in (
      told_with d.call.answer d.output ∷ q.0,
      subst (λ (l : ℕ). Run t n s z (fetch f l ∷ cs) (told_with d.call.answer d.output ∷ q.0)) (length-replicate m 0)
          (fetched {s' = d.call.stream} {y = d.rooms} out {out' = d.output} {a = d.call.answer} refl q.1),
    )

-- every definition of the program that is met on the way
unfoldable opened : Unit {0}
unfolding computed answer_of fresh_stream new_answer fresh_rooms ring_at waiting_in pushed_frames pushed_rows push_frame set_input_finished update_frame_weights forget_mark
    forget_before set_cmn_window fetch_refusal fetch_estimate fetch_changes fetch_stream fetch_rooms fetch_vector fetch_nans get_frame
opened = tt

-- the answers are those that the definitions compute
pub worked : Worked
unfolding opened chain-exists
worked =
    let i : IvectorInfo = info 1 2 in
    let s : IvectorStream = fresh_stream i (room_lengths_of worked_rooms 1) in
    let z : Rooms = fresh_rooms i worked_rooms in
    let there = chain-exists (tables 3) 1 s z worked_calls in
    let same : there.0 ≡ worked_answers = refl in
    record { made = refl; chain = subst (Run (tables 3) 1 s z worked_calls) same there.1; machine = refl }

pub change-never-18 : ChangeNever18
change-never-18 s s' z r fs ws a h e =
    program-change-never-18 s z fs ws (sym (number_is (update_frame_weights s z fs ws).refusal _ 0 0) ∙ ap (λ (q : RingCall). q.call.answer.refusal) (sym h) ∙ e)
