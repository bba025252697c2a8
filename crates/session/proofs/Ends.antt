-- How a session ends: the load is refused; the list or the stream is refused; or the calls are played. What `run` says of the record and the tables that the load
-- left is the keeping machine's session over the model of the bytes, by the parts of the claim (`Whole` of `whole`).
use Rattle.std.specs.Prelude.{Result, Ok, Err, if◌then◌else◌}
use mathlib.Core.Path.{◌≡◌, refl, sym, ap, subst, ◌∙◌}
use mathlib.Core.Bool.{Bool, true, false}
use mathlib.Core.List.{List}
use Prim.Native.Nat.{ℕ, zero, suc, ◌-◌, ◌≤◌}
use native.Mathlib.Omega.{arith}
use Rattle.loops.specs.Refusal.{taken}
use Rattle.loops.proofs.Refusal.{taken_old}
use Rattle.definition.specs.declared.refusal.Refusal.{Refusal}
use Rattle.definition.specs.declared.IvectorInfo.{IvectorInfo}
use Rattle.definition.specs.declared.IvectorOptions.{IvectorOptions}
use Rattle.definition.specs.declared.StreamAnswer.{StreamAnswer}
use Rattle.definition.specs.Number.{number_of}
use Rattle.definition.specs.Reader.{Got, read, refused}
use Rattle.definition.specs.Model.{Tables, Model, Files, model_in, loaded_of}
use Rattle.definition.specs.Stream.{rooms_fit}
use Rattle.definition.specs.Machine.{Call, Answer, frames_held, rows_held, fresh, told_by, answers}
use Rattle.definition.proofs.Ranges.{option_ranges, info_sound_lem}
use Rattle.program.specs.Rooms.{Rooms, ring_lengths_of, room_lengths_of}
use Rattle.program.specs.Calls.{answer_from, fresh_stream, fresh_rooms}
use Rattle.program.specs.Session.{Program, program, program_after}
use Rattle.lists.specs.Listed.{Written, writes, list_refusal, run_refusal}
use Rattle.whole.specs.Whole.{Answered, not_loaded, not_made, played, model_read, left, on_model, machine_session}
use Rattle.whole.proofs.Whole.{loaded_sound, refused_for-rooms, answers-from-bytes}
use Rattle.session.specs.Session.{written_of, returned_with, of_list, session_answered, after_calls, program_left}
use Rattle.session.specs.declared.NotPlayed.{NotPlayed}
use Rattle.session.specs.declared.NotPlayed.TheVariants as N

-- no refusal has the number 0
not_zero : (e : Refusal) → number_of e ≡ 0 → ⊥
not_zero e h = grind arith

-- a fresh stream's answer
abbrev first : StreamAnswer
first = answer_from 0 0 1 0 0

module _ (o : IvectorOptions) (f : Files) (t : Tables) (n : ℕ) (p : Program) (m : ℕ) (cs : List Call) (numbers : List ℕ) (a b c : ℕ) (w : Written) where
  abbrev z : Rooms
  z = p.rooms

  abbrev listed : ℕ
  listed = list_refusal a b c

  abbrev x : Answered
  x = session_answered o f t n z m cs listed

  -- what is said of what is returned, what is written, and the program
  abbrev Ends : Result StreamAnswer NotPlayed → Written → Program → Type 0
  Ends r w' y = (returned_with r (written_of x) ≡ x) × (w' ≡ writes numbers 0 (written_of x) w) × (y ≡ program_left o f t n p m cs x)

  -- the same of what the session answers by another name
  abbrev Ends-as : Answered → Result StreamAnswer NotPlayed → Written → Program → Type 0
  Ends-as v r w' y = (returned_with r (written_of v) ≡ v) × (w' ≡ writes numbers 0 (written_of v) w) × (y ≡ program_left o f t n p m cs v)

  as_x : (r : Result StreamAnswer NotPlayed) (w' : Written) (y : Program) (v : Answered) → v ≡ x → Ends-as v r w' y → Ends r w' y
  as_x r w' y v e h = subst (λ (v : Answered). Ends-as v r w' y) e h

  -- ---- a load that is refused

  session_not_loaded : (r : ℕ) → loaded_of (model_read o f t n z m) ≡ Err r → not_loaded r ≡ x
  unfolding machine_session
  session_not_loaded r e = ap (of_list listed) (by (model_read o f t n z m) e)
    where
      by : (g : Got Model) → loaded_of g ≡ Err r → not_loaded r ≡ on_model o f t n z m cs g
      by (refused s) e = let q : s ≡ r = cc in ap not_loaded (sym q)
      by (read M at) e = absurd (let q : ◌≡◌ {A = ℕ} 0 1 = cc in omega arith)

  pub load_ends : (e : Refusal) → loaded_of (model_read o f t n z m) ≡ Err (number_of e) → Ends (Err (N.Load e)) w p
  unfolding writes
  load_ends e h = as_x (Err (N.Load e)) w p (not_loaded (number_of e)) (session_not_loaded (number_of e) h) (refl, refl, refl)

  -- what `run` says of a record i and tables t', r being the number of its refusal
  abbrev Ran : IvectorInfo → Tables → ℕ → Written → Program → Type 0
  Ran i t' r w' y =
      (r ≡ run_refusal i t' z m a b c)
      × (w' ≡ taken r (writes numbers 0 (answers (model_in i t') (ring_lengths_of z.rings) cs) w) w)
      × (y ≡ taken r (program_after t' m (program (fresh_stream i (room_lengths_of z m)) (fresh_rooms i z)) cs) p)

  -- ---- a model that is loaded

  module _ (M : Model) (at : ℕ) (e : model_read o f t n z m ≡ read M at) where
    abbrev fits : Bool
    fits = rooms_fit M.info.dims (room_lengths_of z m)

    session_is : of_list listed (if fits then played (told_by M 0 (fresh M) 0 0) (answers M (ring_lengths_of z.rings) cs) else not_made 8) ≡ x
    unfolding machine_session
    session_is = ap (λ (g : Got Model). of_list listed (on_model o f t n z m cs g)) (sym e)

    number_is : run_refusal M.info (left o f t n z m) z m a b c ≡ taken listed (if fits then 0 else 8) listed
    unfolding run_refusal
    number_is = ap (λ (r : ℕ). taken listed r listed) (refused_for-rooms o f t n M at e z m)

    -- one row is held at first
    first_is : first ≡ told_by M 0 (fresh M) 0 0
    unfolding told_by fresh frames_held rows_held
    first_is =
        let s = (info_sound_lem M.info (loaded_sound o f t n M at e).0).0 in
        let some : 1 ≤ M.info.opts.cmn_window = omega (arith, (option_ranges M.info.opts s.options_are).some_window) in
        let one : 1 ≡ 1 - (1 - M.info.opts.cmn_window) = omega arith in
        ap (λ (rows : ℕ). answer_from 0 0 rows 0 0) one

    abbrev model_answers : List Answer
    model_answers = answers M (ring_lengths_of z.rings) cs

    answers_are : answers (model_in M.info (left o f t n z m)) (ring_lengths_of z.rings) cs ≡ model_answers
    answers_are = answers-from-bytes o f t n M at e (ring_lengths_of z.rings) cs

    -- the session by the list's number and whether the rooms are enough
    abbrev by_tests : ℕ → Bool → Answered
    by_tests r y = of_list r (if y then played (told_by M 0 (fresh M) 0 0) model_answers else not_made 8)

    played_by : (r : ℕ) (y : Bool) → 0 ≡ taken r (if y then 0 else 8) r → by_tests r y ≡ played first model_answers
    played_by zero true q = ap (λ (q : StreamAnswer). played q model_answers) (sym first_is)
    played_by zero false q = absurd (omega (arith, q))
    played_by (suc r) y q = absurd (omega (arith, q))

    refused_tests : (r : ℕ) (y : Bool) (q : ℕ) → (q ≡ 0 → ⊥) → q ≡ taken r (if y then 0 else 8) r → by_tests r y ≡ not_made q
    refused_tests zero true q h p = absurd (h p)
    refused_tests zero false q h p = ap not_made (sym p)
    refused_tests (suc r) true q h p = ap not_made (sym p)
    refused_tests (suc r) false q h p = ap not_made (sym p)

    -- the calls are played
    played_ends : (w' : Written) (y : Program) → Ran M.info (left o f t n z m) 0 w' y → Ends (Ok first) w' y
    played_ends w' y (r, wrote, rooms) =
        as_x (Ok first) w' y (played first model_answers) (sym (played_by listed fits (r ∙ number_is)) ∙ session_is) (
          refl,
          wrote ∙ ap (λ (as' : List Answer). writes numbers 0 as' w) answers_are,
          rooms ∙ ap (after_calls o f t n p m cs) (sym e),
        )

    -- the list or the stream is refused
    stream_ends : (r : Refusal) (w' : Written) (y : Program) → Ran M.info (left o f t n z m) (number_of r) w' y → Ends (Err (N.Stream r)) w' y
    unfolding writes
    stream_ends r w' y (q, wrote, rooms) =
        as_x (Err (N.Stream r)) w' y (not_made (number_of r)) (sym (refused_tests listed fits (number_of r) (not_zero r) (q ∙ number_is)) ∙ session_is)
        (refl, wrote ∙ taken_old (number_of r) _ w (not_zero r), rooms ∙ taken_old (number_of r) _ p (not_zero r))

  -- by the record that the load returned, and the tables that it left
  module _ (i : IvectorInfo) (t' : Tables) (loaded : Ok i ≡ loaded_of (model_read o f t n z m)) (tables_are : t' ≡ left o f t n z m) (w' : Written) (y : Program) where
    by_model : (P : Result StreamAnswer NotPlayed) (r : ℕ) → ((M : Model) (at : ℕ) → model_read o f t n z m ≡ read M at → Ran M.info (left o f t n z m) r w' y → Ends P w' y)
        → Ran i t' r w' y → Ends P w' y
    by_model P r ends ran = go (model_read o f t n z m) refl loaded
      where
        go : (g : Got Model) → model_read o f t n z m ≡ g → Ok i ≡ loaded_of g → Ends P w' y
        go (refused k) e h = absurd (let q : ◌≡◌ {A = ℕ} 0 1 = cc in omega arith)
        go (read M at) e h =
            let q : i ≡ M.info = cc in
            ends M at e (subst (λ (j : IvectorInfo). Ran j (left o f t n z m) r w' y) q (subst (λ (u : Tables). Ran i u r w' y) tables_are ran))

    pub session_played : Ran i t' 0 w' y → Ends (Ok first) w' y
    session_played = by_model (Ok first) 0 (λ M at e. played_ends M at e w' y)

    pub session_refused : (r : Refusal) → Ran i t' (number_of r) w' y → Ends (Err (N.Stream r)) w' y
    session_refused r = by_model (Err (N.Stream r)) (number_of r) (λ M at e. stream_ends M at e r w' y)
