-- The steps of a round, from what a call returned: each law takes the equation of a call's contract and says what the step is then.
use Rattle.std.specs.Prelude.{if◌then◌else◌, Result, Ok, Err, IfOk, IfErr}
use mathlib.Core.Path.{◌≡◌, refl, sym, ap, ap₂, ◌∙◌}
use mathlib.Core.Bool.{true}
use mathlib.Core.List.{List, [], ◌∷◌, ◌++◌}
use Prim.Native.Nat.{ℕ, zero, suc, ◌-◌, ◌≤◌, ◌<◌, min}
use native.Mathlib.Omega.{arith}
use lib.ListN.{length, take}
use lib.Dec.{eqb}
use lib.IntN.{ℤ}
use lib.Ieee.{Float}
use borrow.Author.Tests.{eq-eqb, ne_eqb, ltb-false}
use Rattle.loops.specs.Refusal.{taken}
use Rattle.loops.proofs.Choose.{choose_true, choose_false, choose_map, choose_same}
use Rattle.loops.proofs.Refusal.{none_first}
use Rattle.definition.specs.declared.IvectorStream.{IvectorStream}
use Rattle.definition.specs.declared.StreamAnswer.{StreamAnswer}
use Rattle.definition.specs.declared.StreamCall.{StreamCall}
use Rattle.definition.specs.declared.SilenceWeighting.{SilenceWeighting}
use Rattle.definition.specs.declared.SilenceAnswer.{SilenceAnswer}
use Rattle.definition.specs.declared.refusal.Refusal.{Refusal}
use Rattle.definition.specs.Number.{number_of as refusal_number, refused_by}
use Rattle.definition.specs.Model.{Tables}
use Rattle.definition.specs.Machine.{frames_held, rows_held}
use Rattle.definition.specs.Silence.{input, decoder, TableRooms, table_call, table_done, compute_current_traceback, get_delta_weights, delta_tests, asked, table_in, table_broken, silence_answer}
use Rattle.program.specs.Rooms.{Rings, EstimateRooms, Rooms, rooms_from}
use Rattle.program.specs.Calls.{answer_from, answer_of, call_of, ring_call, done_on, fetch_call, fetched_on, push_frame, update_frame_weights, forget_before, get_frame}
use Rattle.rounds.specs.Inner.SilenceWeightingRooms.{given_by}
use Rattle.rounds.proofs.SilenceRefusals.{numbered}
use Rattle.rounds.specs.Voice.{NearestVoice, nearest_voice}
use Rattle.rounds.specs.declared.trigger_steps.Halt.{Halt}
use Rattle.rounds.specs.declared.trigger_steps.Step.{Step}
use Rattle.rounds.specs.declared.trigger_steps.Step.TheVariants as S
use Rattle.rounds.specs.Halts.{number_of, halted, step_in, refusal_in, given_in}
use Rattle.rounds.specs.declared.trigger_steps.RoundEnd.TheVariants as E
use Rattle.rounds.specs.Round.{RoundResult, refused_at, Utterance, Voices, Bench, bench, with_rings, with_table, with_fetch, Round, round_from, done, ended, after}
use Rattle.rounds.specs.Round.{forgets, cut, pushed, push_all, frame_length, pushes, decoded, notes, ready, weighs, changes, fetches, result_of, finds, last_steps, round, worked}
use Rattle.rounds.proofs.Frames.{cut_none, cut_front}

-- ---- going on, and not

module _ (k r : ℕ) (b : Bench) (next : Bench → Round) where
  pub goes_on : r ≡ 0 → ended k r b next ≡ next b
  unfolding ended
  goes_on e = sym (choose_true _ (eq-eqb r 0 e) refl)

  pub stops : (r ≡ 0 → ⊥) → ended k r b next ≡ round_from (refused_at r k) b
  unfolding ended
  stops h = sym (choose_false _ (ne_eqb r 0 h) refl)

told-number : (q : ℕ) (s : IvectorStream) (n m : ℕ) → (answer_of q s n m).refusal ≡ q
unfolding answer_of
told-number q s n m = choose_map (λ (a : StreamAnswer). a.refusal) (eqb q 10) (answer_from q 0 0 0 0) (answer_from q (frames_held s.accepted s.mark) (rows_held s.longest s.accepted s.mark) n m) ∙ choose_same (eqb q 10) q

-- what a call of step k with refusal r gave
abbrev pub stopped : ℕ → ℕ → Result Unit Halt
stopped k r = if eqb r 0 then Ok tt else Err (record { refusal = r; step = k })

-- a call on a stream that left s, by the call of the definition
module _ {A : Type 0} (k : Step) (x : Result A Refusal) (s : IvectorStream) (n m : ℕ) where
  pub halts : (h : Halt) → Err h ≡ halted k x → Err h ≡ stopped (number_of k) (call_of (refused_by x) s n m).answer.refusal
  halts h e = by_result x e
    where
      by_result : (x : Result A Refusal) → Err h ≡ halted k x → Err h ≡ stopped (number_of k) (call_of (refused_by x) s n m).answer.refusal
      by_result (Ok a) e = let z : ◌≡◌ {A = ℕ} 0 1 = cc in absurd (omega arith)
      by_result (Err d) e =
          let told = told-number (refusal_number d) s n m in
          let halt : h ≡ record { refusal = refusal_number d; step = number_of k } = cc in
          ap Err halt ∙ ap (λ (r : ℕ). Err (record { refusal = r; step = number_of k })) (sym told) ∙ choose_false _ (ne_eqb _ 0 (λ z. numbered d (sym told ∙ z))) refl

  pub no_halt : (a : A) → Ok a ≡ halted k x → Ok tt ≡ stopped (number_of k) (call_of (refused_by x) s n m).answer.refusal
  no_halt a e = by_result x e
    where
      by_result : (x : Result A Refusal) → Ok a ≡ halted k x → Ok tt ≡ stopped (number_of k) (call_of (refused_by x) s n m).answer.refusal
      by_result (Ok b) e = choose_true _ (eq-eqb _ 0 (told-number 0 s n m)) refl
      by_result (Err d) e = let z : ◌≡◌ {A = ℕ} 0 1 = cc in absurd (omega arith)

-- what its halt is, and that it had none
pub stopped_err : (k r : ℕ) (h : Halt) → Err h ≡ stopped k r → (h ≡ record { refusal = r; step = k }) × (r ≡ 0 → ⊥)
stopped_err k zero h e = let z : ◌≡◌ {A = ℕ} 0 1 = cc in absurd (omega arith)
stopped_err k (suc r) h e = let q : Err h ≡ Err (record { refusal = suc r; step = k }) = e ∙ sym (choose_false _ (ne_eqb (suc r) 0 (λ z. absurd (omega (arith, z)))) refl) in (cc, λ z. absurd (omega (arith, z)))

pub stopped_ok : (k r : ℕ) (u : Unit) → Ok u ≡ stopped k r → r ≡ 0
stopped_ok k zero u e = refl
stopped_ok k (suc r) u e =
    let q : ◌≡◌ {A = Result Unit Halt} (Ok u) (Err (record { refusal = suc r; step = k })) = e ∙ sym (choose_false _ (ne_eqb (suc r) 0 (λ z. absurd (omega (arith, z)))) refl) in
    let z : ◌≡◌ {A = ℕ} 0 1 = cc in
    absurd (omega arith)

-- ---- 1 and 2

-- the pushes' halts are of step 2
pub ends_at : {A : Type 0} (k : ℕ) (r : Result A Halt) → IfErr r (λ h. (0 < h.refusal) × (h.step ≡ k)) → (b : Bench) (next : Bench → Round)
    → ended k (refusal_in r) b next ≡ ended (step_in r) (refusal_in r) b next
unfolding ended
ends_at k (Ok a) h b next = refl
ends_at k (Err d) h b next = ap (λ (j : ℕ). ended j d.refusal b next) (sym h.1)

module _ (s : IvectorStream) (z : Rings) where
  pub forget_is : (start : ℕ) (r : StreamCall) (y : Rings) (b : Bench) → ring_call r y ≡ done_on s z (forget_before s z start) → forgets start (with_rings b s z) ≡ done r.answer.refusal (with_rings b r.stream y)
  unfolding forgets
  forget_is start r y b e = ap (λ c. done c.call.answer.refusal (with_rings b c.call.stream c.rings)) (sym e)

  push_is :
      (x : List Float) (r : StreamCall) (y : Rings) (xs : List (List Float)) → ring_call r y ≡ done_on s z (push_frame s z x)
      → push_all s z (x ∷ xs) ≡ (if eqb r.answer.refusal 0 then push_all r.stream y xs else pushed r.answer.refusal r.stream y)
  unfolding push_all
  push_is x r y xs e =
      ap (λ c. if eqb c.call.answer.refusal 0 then push_all c.call.stream c.rings xs else pushed c.call.answer.refusal c.call.stream c.rings) (sym e)

  pub pushes_are :
      (q : ℕ) (t : IvectorStream) (y : Rings) (xs : List Float) (b : Bench) → pushed q t y ≡ push_all s z (cut (frame_length s) xs)
      → pushes xs (with_rings b s z) ≡ done q (with_rings b t y)
  unfolding pushes
  pushes_are q t y xs b e = ap (λ p. done p.refusal (with_rings b p.stream p.rings)) (sym e)

-- both steps
module _ (s : IvectorStream) (z : Rings) (start : ℕ) (xs : List Float) (r : StreamCall) (w : Rings) (e : ring_call r w ≡ done_on s z (forget_before s z start)) (b : Bench) (next : Bench → Round) where
  forgotten : after 1 (forgets start (with_rings b s z)) (λ c. after 2 (pushes xs c) next) ≡ ended 1 r.answer.refusal (with_rings b r.stream w) (λ c. after 2 (pushes xs c) next)
  forgotten = ap (λ d. after 1 d (λ c. after 2 (pushes xs c) next)) (forget_is s z start r w b e)

  pub not_forgotten : (h : Halt) → Err h ≡ stopped 1 r.answer.refusal
      → after 1 (forgets start (with_rings b s z)) (λ c. after 2 (pushes xs c) next) ≡ ended h.step h.refusal (with_rings b r.stream w) next
  not_forgotten h e =
      let q = stopped_err 1 r.answer.refusal h e in
      forgotten ∙ stops _ _ _ _ q.1 ∙ sym (stops _ _ _ next q.1) ∙ ap (λ (h : Halt). ended h.step h.refusal (with_rings b r.stream w) next) (sym q.0)

  pub then_pushed :
      (u : Unit) → Ok u ≡ stopped 1 r.answer.refusal → (p : Result Unit Halt) → IfErr p (λ h. (0 < h.refusal) × (h.step ≡ 2)) → (t : IvectorStream) (y : Rings)
      → pushed (refusal_in p) t y ≡ push_all r.stream w (cut (frame_length r.stream) xs)
      → after 1 (forgets start (with_rings b s z)) (λ c. after 2 (pushes xs c) next) ≡ ended (step_in p) (refusal_in p) (with_rings b t y) next
  then_pushed u o p halts t y e =
      forgotten ∙ goes_on 1 r.answer.refusal (with_rings b r.stream w) (λ c. after 2 (pushes xs c) next) (stopped_ok 1 r.answer.refusal u o)
      ∙ ap (λ d. after 2 d next) (pushes_are r.stream w (refusal_in p) t y xs b e)
      ∙ ends_at 2 p halts (with_rings b t y) next

-- a frame of an utterance pushed: l is what is left of the numbers, x the frame, l' what is left behind it
module _ (n : ℕ) (some : 0 < n) (l x l' : List Float) (l-is : l ≡ x ++ l') (long : length x ≡ min n (length l)) (more : 0 < length l)
    (s : IvectorStream) (z : Rings) (r : StreamCall) (y : Rings) (call : ring_call r y ≡ done_on s z (push_frame s z x)) where
  turn : push_all s z (cut n l) ≡ (if eqb r.answer.refusal 0 then push_all r.stream y (cut n l') else pushed r.answer.refusal r.stream y)
  turn = ap (push_all s z) (cut_front n some l x l' l-is long more) ∙ push_is s z x r y (cut n l') call

  pub push_refused : (h : Halt) → Err h ≡ stopped 2 r.answer.refusal → pushed h.refusal r.stream y ≡ push_all s z (cut n l)
  push_refused h e =
      let q = stopped_err 2 r.answer.refusal h e in
      ap (λ (h : Halt). pushed h.refusal r.stream y) q.0 ∙ choose_false _ (ne_eqb _ 0 q.1) refl ∙ sym turn

  pub push_taken : (u : Unit) → Ok u ≡ stopped 2 r.answer.refusal → push_all r.stream y (cut n l') ≡ push_all s z (cut n l)
  push_taken u e = choose_true _ (eq-eqb _ 0 (stopped_ok 2 r.answer.refusal u e)) refl ∙ sym turn

-- none is left
pub push-none : (n : ℕ) → 0 < n → (l : List Float) → length l ≡ 0 → (s : IvectorStream) (z : Rings) → pushed 0 s z ≡ push_all s z (cut n l)
unfolding push_all
push-none n some l h s z = sym (ap (push_all s z) (cut_none n some l h))

-- ---- 3 and 4

module _ (q : SilenceWeighting) (t : TableRooms) (fs : List ℕ) (ws : List Float) (g : ℕ) (r : SilenceAnswer) (y : TableRooms) where
  pub note_is :
      (ps : List ℤ) (u : Utterance) (k : ℕ) (b : Bench) → k ≡ decoded u.ends
      → table_call r y [] [] ≡ table_done q t [] [] (compute_current_traceback q t ps u.phones u.starts u.ends (decoder k))
      → notes ps u (with_table b q t fs ws g) ≡ done r.refusal (with_table b r.silence y fs ws g)
  unfolding notes
  note_is ps u k b d e =
      let call : table_call r y [] [] ≡ table_done q t [] [] (compute_current_traceback q t ps u.phones u.starts u.ends (decoder (decoded u.ends))) =
      e ∙ ap (λ (k : ℕ). table_done q t [] [] (compute_current_traceback q t ps u.phones u.starts u.ends (decoder k))) d in
      ap (λ c. done c.answer.refusal (with_table b c.answer.silence c.rooms fs ws g)) (sym call)

  module _ (fs' : List ℕ) (ws' : List Float) (n start : ℕ) (e : table_call r y fs' ws' ≡ table_done q t fs ws (get_delta_weights q t (input n) (input start) (length fs) (length ws))) where
    pub weigh_is : (b : Bench) → weighs n start (with_table b q t fs ws g) ≡ done r.refusal (with_table b r.silence y fs' ws' r.changes)
    unfolding weighs
    weigh_is b = ap (λ c. done c.answer.refusal (with_table b c.answer.silence c.rooms c.frames c.weights c.answer.changes)) (sym e)

    number_is : r.refusal ≡ (get_delta_weights q t (input n) (input start) (length fs) (length ws)).refusal
    unfolding silence_answer
    number_is = ap (λ c. c.answer.refusal) e

    -- where it is taken the lists have room for the changes
    pub changes_fit : r.refusal ≡ 0 → (r.changes ≤ length fs) × (r.changes ≤ length ws)
    unfolding silence_answer get_delta_weights delta_tests
    changes_fit h =
        let x = get_delta_weights q t (input n) (input start) (length fs) (length ws) in
        let none : x.refusal ≡ 0 = sym number_is ∙ h in
        let test = none_first ((table_broken q (length t.known) (length t.is_silence) (length t.current_weight), 10) ∷ delta_tests q (input n) (input start) (table_in q.length t) (length fs) (length ws)) tt none in
        let room : length (asked q (input n) (input start) (table_in q.length t)) ≤ min (length fs) (length ws) = ltb-false _ _ test.1.1.0 in
        let count : r.changes ≡ length (asked q (input n) (input start) (table_in q.length t)) =
        ap (λ c. c.answer.changes) e ∙ ap (λ (k : ℕ). taken k (length x.changes) 0) none in
        (omega arith, omega arith)

-- both steps: a is what the traceback returned, w what the weighing did
module _ (q : SilenceWeighting) (t : TableRooms) (fs : List ℕ) (ws : List Float) (ps : List ℤ) (u : Utterance) (k : ℕ) (k-is : k ≡ decoded u.ends) (a : SilenceAnswer) (y : TableRooms)
    (e : table_call a y [] [] ≡ table_done q t [] [] (compute_current_traceback q t ps u.phones u.starts u.ends (decoder k))) (b : Bench) (next : Bench → Round) where
  pub noted : after 3 (notes ps u (with_table b q t fs ws 0)) (λ c. after 4 (weighs (ready c.stream) u.start c) next) ≡ ended 3 a.refusal (with_table b a.silence y fs ws 0) (λ c. after 4 (weighs (ready c.stream) u.start c) next)
  noted = ap (λ d. after 3 d (λ c. after 4 (weighs (ready c.stream) u.start c) next)) (note_is q t fs ws 0 a y ps u k b k-is e)

  pub then_weighed :
      a.refusal ≡ 0 → (n : ℕ) → ready b.stream ≡ n → (w : SilenceAnswer) (y' : TableRooms) (fs' : List ℕ) (ws' : List Float)
      → table_call w y' fs' ws' ≡ table_done a.silence y fs ws (get_delta_weights a.silence y (input n) (input u.start) (length fs) (length ws))
      → after 3 (notes ps u (with_table b q t fs ws 0)) (λ c. after 4 (weighs (ready c.stream) u.start c) next) ≡ ended 4 w.refusal (with_table b w.silence y' fs' ws' w.changes) next
  then_weighed h n n_is w y' fs' ws' g =
      noted ∙ goes_on 3 a.refusal (with_table b a.silence y fs ws 0) (λ c. after 4 (weighs (ready c.stream) u.start c) next) h
      ∙ ap (λ (j : ℕ). after 4 (weighs j u.start (with_table b a.silence y fs ws 0)) next) n_is
      ∙ ap (λ d. after 4 d next) (weigh_is a.silence y fs ws 0 w y' fs' ws' n u.start g b)

-- the same by what the code has of the two calls: r and w, each at its step
pub note_stopped : (r : Result Unit Refusal) (h : Halt) (b : Bench) (next next' : Bench → Round) → Err h ≡ halted S.Note r
    → ended 3 (refused_by r) b next ≡ ended h.step h.refusal b next'
note_stopped (Ok u) h b next next' e = let z : ◌≡◌ {A = ℕ} 0 1 = cc in absurd (omega arith)
note_stopped (Err d) h b next next' e =
    let q : h ≡ record { refusal = refusal_number d; step = 3 } = cc in
    stops 3 (refusal_number d) b next (numbered d) ∙ sym (stops 3 (refusal_number d) b next' (numbered d)) ∙ ap (λ (h : Halt). ended h.step h.refusal b next') (sym q)

pub note_halt : (r : Result Unit Refusal) (h : Halt) → Err h ≡ halted S.Note r → 0 < h.refusal
note_halt (Ok u) h e = let z : ◌≡◌ {A = ℕ} 0 1 = cc in absurd (omega arith)
note_halt (Err d) h e = let q : h ≡ record { refusal = refusal_number d; step = 3 } = cc in rw q (omega (arith, numbered d))

pub note_went_on : (r : Result Unit Refusal) (u : Unit) → Ok u ≡ halted S.Note r → refused_by r ≡ 0
note_went_on (Ok u) v e = refl
note_went_on (Err d) v e = let z : ◌≡◌ {A = ℕ} 0 1 = cc in absurd (omega arith)

pub weigh_ends : (w : Result ℕ Refusal) (f : ℕ → Bench) (next : Bench → Round)
    → ended 4 (refused_by w) (f (given_by w)) next ≡ ended (step_in (halted S.Weigh w)) (refusal_in (halted S.Weigh w)) (f (given_in (halted S.Weigh w))) next
unfolding ended
weigh_ends (Ok n) f next = refl
weigh_ends (Err e) f next = refl

pub weigh_fits : (w : Result ℕ Refusal) (m : ℕ) → (refused_by w ≡ 0 → given_by w ≤ m) → IfOk (halted S.Weigh w) (λ n. n ≤ m)
weigh_fits (Ok n) m h = h refl
weigh_fits (Err e) m h = tt

pub weigh_halt : (w : Result ℕ Refusal) → IfErr (halted S.Weigh w) (λ h. 0 < h.refusal)
weigh_halt (Ok n) = tt
weigh_halt (Err d) = omega (arith, numbered d)

-- ---- 5

pub change_is :
    (s : IvectorStream) (z : Rings) (r : StreamCall) (y : Rings) (b : Bench)
    → ring_call r y ≡ done_on s z (update_frame_weights s z (take b.given b.frames) (take b.given b.weights)) → changes (with_rings b s z) ≡ done r.answer.refusal (with_rings b r.stream y)
unfolding changes
change_is s z r y b e = ap (λ c. done c.call.answer.refusal (with_rings b c.call.stream c.rings)) (sym e)

-- ---- 6 and 7

module _ (t : Tables) (n : ℕ) (v : Voices) (s : IvectorStream) (z : Rooms) (out : List ℕ) (k : ℕ) (k-is : k ≡ ready s) where
  pub no_vector : k ≡ 0 → (b : Bench) → round_from (Ok E.NoVector) (with_fetch b s z out) ≡ last_steps t n v (with_fetch b s z out)
  unfolding last_steps
  no_vector h b = choose_true _ (eq-eqb _ 0 (sym k-is ∙ h)) refl

  module _ (some : k ≡ 0 → ⊥) (r : StreamCall) (y : Rooms) (out' : List ℕ) (e : fetch_call r y out' ≡ fetched_on s z out (get_frame s t z n (k - 1) (length out))) where
    fetch_is : (b : Bench) → fetches t n (with_fetch b s z out) ≡ done r.answer.refusal (with_fetch b r.stream y out')
    unfolding fetches
    fetch_is b =
        ap (λ c. done c.call.answer.refusal (with_fetch b c.call.stream c.rooms c.output))
        (ap (λ (j : ℕ). fetched_on s z out (get_frame s t z n (j - 1) (length out))) (sym k-is) ∙ sym e)

    last_is : (b : Bench) → last_steps t n v (with_fetch b s z out) ≡ ended 6 r.answer.refusal (with_fetch b r.stream y out') (finds v)
    unfolding last_steps
    last_is b = sym (choose_false _ (ne_eqb _ 0 (λ h. some (k-is ∙ h))) refl) ∙ ap (λ d. after 6 d (finds v)) (fetch_is b)

    pub fetch_refused : (h : Halt) → Err h ≡ stopped 6 r.answer.refusal → (b : Bench) → round_from (Err h) (with_fetch b r.stream y out') ≡ last_steps t n v (with_fetch b s z out)
    fetch_refused h g b =
        let q = stopped_err 6 r.answer.refusal h g in
        ap (λ (h : Halt). round_from (Err h) (with_fetch b r.stream y out')) q.0 ∙ sym (stops _ _ _ (finds v) q.1) ∙ sym (last_is b)

    pub fetch_taken :
        (u : Unit) → Ok u ≡ stopped 6 r.answer.refusal → (x : RoundResult) → x ≡ result_of (nearest_voice r.stream.info.dims.ivector_dim out' v.count v.enrolled v.limit)
        → (b : Bench) → round_from x (with_fetch b r.stream y out') ≡ last_steps t n v (with_fetch b s z out)
    unfolding finds
    fetch_taken u g x x-is b =
        ap (λ (q : RoundResult). round_from q (with_fetch b r.stream y out')) x-is
        ∙ sym (goes_on 6 r.answer.refusal (with_fetch b r.stream y out') (finds v) (stopped_ok 6 r.answer.refusal u g)) ∙ sym (last_is b)

    -- the number that the fetch's own contract tells scratch by
    pub fetch_number : r.answer.refusal ≡ (get_frame s t z n (k - 1) (length out)).refusal
    fetch_number = ap (λ c. c.call.answer.refusal) e ∙ told-number _ _ _ _

-- the result, by what the calls returned
pub found_is :
    (d d' : ℕ) (o : List ℕ) (n : ℕ) (e : List ℕ) (l : Float) (a : NearestVoice) (x : RoundResult)
    → d ≡ d' → a ≡ nearest_voice d o n e l → x ≡ result_of a → x ≡ result_of (nearest_voice d' o n e l)
found_is d d' o n e l a x g f h = h ∙ ap result_of (f ∙ ap (λ (k : ℕ). nearest_voice k o n e l) g)

-- a fetch that was taken is behind every answer of the nearest voice
pub found-worked : (a : NearestVoice) (x : RoundResult) → x ≡ result_of a → worked x ≡ true
unfolding result_of worked
found-worked a x e = ap worked e ∙ all a
  where
    all : (a : NearestVoice) → worked (result_of a) ≡ true
    all (Ok v) = refl
    all (Err r) = refl

-- ---- the round: where it ends

-- each of the four calls of `round` has said what its steps are
module _ (t : Tables) (n : ℕ) (ps : List ℤ) (v : Voices) (start : ℕ) (xs : List Float) (phones : List ℤ) (starts ends : List ℕ)
    (s : IvectorStream) (z : Rings) (x : EstimateRooms) (q : SilenceWeighting) (w : TableRooms) (fs : List ℕ) (ws : List Float) (out : List ℕ) where
  abbrev spoken : Utterance
  spoken = record { start = start; numbers = xs; phones = phones; starts = starts; ends = ends }

  abbrev lent : Bench
  lent = bench s (rooms_from z x) q w fs ws 0 out

  abbrev changing : Bench → Round
  changing c = after 5 (changes c) (last_steps t n v)

  abbrev weighing : Bench → Round
  weighing c = after 3 (notes ps spoken c) (λ c. after 4 (weighs (ready c.stream) start c) changing)

  module _ (k r : ℕ) (s₁ : IvectorStream) (z₁ : Rings)
      (heard : (b : Bench) (next : Bench → Round) → after 1 (forgets start (with_rings b s z)) (λ c. after 2 (pushes xs c) next) ≡ ended k r (with_rings b s₁ z₁) next) where
    begun : round t n ps spoken v lent ≡ ended k r (with_rings lent s₁ z₁) weighing
    unfolding round
    begun = heard lent weighing

    pub ends_hearing : {x' : EstimateRooms} → x' ≡ x → (r ≡ 0 → ⊥) → round_from (refused_at r k) (bench s₁ (rooms_from z₁ x') q w fs ws 0 out) ≡ round t n ps spoken v lent
    ends_hearing e h =
        ap (λ (x : EstimateRooms). round_from (refused_at r k) (bench s₁ (rooms_from z₁ x) q w fs ws 0 out)) e
        ∙ sym (stops k r (with_rings lent s₁ z₁) weighing h) ∙ sym begun

    module _ (none : r ≡ 0) (m : ℕ) (m_is : m ≡ ready s₁) (k' r' : ℕ) (q' : SilenceWeighting) (w' : TableRooms) (fs' : List ℕ) (ws' : List Float) (g : ℕ)
        (weighed :
        (b : Bench) (xs : List Float) (next : Bench → Round)
        → ready b.stream ≡ m
        → after 3 (notes ps (record { start = start; numbers = xs; phones = phones; starts = starts; ends = ends }) (with_table b q w fs ws 0)) (λ c. after 4 (weighs (ready c.stream) start c) next)
        ≡ ended k' r' (with_table b q' w' fs' ws' g) next) where
      abbrev weighed_bench : Bench
      weighed_bench = bench s₁ (rooms_from z₁ x) q' w' fs' ws' g out

      weighed_on : round t n ps spoken v lent ≡ ended k' r' weighed_bench changing
      weighed_on = begun ∙ goes_on k r (with_rings lent s₁ z₁) weighing none ∙ weighed (with_rings lent s₁ z₁) xs changing (sym m_is)

      pub ends_weighing : {x' : EstimateRooms} → x' ≡ x → (r' ≡ 0 → ⊥) → round_from (refused_at r' k') (bench s₁ (rooms_from z₁ x') q' w' fs' ws' g out) ≡ round t n ps spoken v lent
      ends_weighing e h =
          ap (λ (x : EstimateRooms). round_from (refused_at r' k') (bench s₁ (rooms_from z₁ x) q' w' fs' ws' g out)) e ∙ sym (stops k' r' weighed_bench changing h) ∙ sym weighed_on

      module _ (none' : r' ≡ 0) (c : StreamCall) (z₂ : Rings) (e : ring_call c z₂ ≡ done_on s₁ z₁ (update_frame_weights s₁ z₁ (take g fs') (take g ws'))) where
        abbrev changed_bench : Bench
        changed_bench = bench c.stream (rooms_from z₂ x) q' w' fs' ws' g out

        changed_on : round t n ps spoken v lent ≡ ended 5 c.answer.refusal changed_bench (last_steps t n v)
        changed_on = weighed_on ∙ goes_on k' r' weighed_bench changing none' ∙ ap (λ d. after 5 d (last_steps t n v)) (change_is s₁ z₁ c z₂ weighed_bench e)

        pub ends_changing : {x' : EstimateRooms} → x' ≡ x → (h : Halt) → Err h ≡ stopped 5 c.answer.refusal
            → round_from (Err h) (bench c.stream (rooms_from z₂ x') q' w' fs' ws' g out) ≡ round t n ps spoken v lent
        ends_changing e' h o =
            let p = stopped_err 5 c.answer.refusal h o in
            ap (λ (x : EstimateRooms). round_from (Err h) (bench c.stream (rooms_from z₂ x) q' w' fs' ws' g out)) e'
            ∙ ap (λ (h : Halt). round_from (Err h) changed_bench) p.0 ∙ sym (stops 5 c.answer.refusal changed_bench (last_steps t n v) p.1) ∙ sym changed_on

        -- scratch is as long as it was
        pub ends_full : {x' : EstimateRooms} → x' ≡ x → {n' : ℕ} → n' ≡ n
            → (u : Unit) → Ok u ≡ stopped 5 c.answer.refusal → (a : RoundResult) (s₃ : IvectorStream) (y : Rooms) (out' : List ℕ)
            → ((b : Bench) → round_from a (with_fetch b s₃ y out') ≡ last_steps t n' v (with_fetch b c.stream (rooms_from z₂ x') out))
            → round_from a (bench s₃ y q' w' fs' ws' g out') ≡ round t n ps spoken v lent
        ends_full e' long u o a s₃ y out' d =
            d changed_bench ∙ ap₂ (λ (x : EstimateRooms) (n : ℕ). last_steps t n v (with_fetch changed_bench c.stream (rooms_from z₂ x) out)) e' long ∙ sym (goes_on 5 c.answer.refusal changed_bench (last_steps t n v) (stopped_ok 5 c.answer.refusal u o)) ∙ sym changed_on
