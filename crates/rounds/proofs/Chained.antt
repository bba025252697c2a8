-- Calls on a table chain: over every list of them, each on the record and the rooms as the last one left them, the answers that their
-- contracts give are those of the definition run on the table alone.
use Rattle.std.specs.Prelude.{Ok, Err}
use Prim.Native.Nat.{ℕ, zero, suc, ◌≤◌, min, max}
use mathlib.Core.Path.{◌≡◌, refl, sym, ap, ◌∙◌}
use mathlib.Core.Bool.{Bool, false, not, ◌||◌}
use mathlib.Core.List.{List, [], ◌∷◌, map}
use native.Mathlib.Omega.{arith}
use borrow.Author.Tests.{eq-eqb, le-ltb}
use lib.Dec.{eqb, leb, ltb}
use lib.ListN.{length, length-map, get_or-map}
use lib.Ieee.{Float, nan}
use Rattle.loops.specs.Lists.{build, over}
use Rattle.loops.specs.Refusal.{taken}
use Rattle.loops.proofs.Choose.{by-test, or_none, or_fails}
use Rattle.loops.proofs.Build.{build_ext, build_list}
use Rattle.loops.proofs.Fill.{length_over, over_at}
use Rattle.loops.proofs.Refusal.{first_past, taken_same}
use Rattle.definition.specs.declared.InputFrame.{InputFrame}
use Rattle.definition.specs.declared.DecoderFrame.{DecoderFrame}
use Rattle.definition.specs.declared.SilenceWeighting.{SilenceWeighting}
use Rattle.definition.specs.declared.SilenceAnswer.{SilenceAnswer}
use Rattle.definition.specs.Silence.{decoder, FrameInfo, TableRooms, Table, table_in, over_rooms, segments, settings_refusal, new_table, places, table_broken, traceback_tests, wanted, asked, asked_table, delta_tests}
use Rattle.definition.specs.Silence.{compute_current_traceback, get_delta_weights, silence_answer, TableCall}
use Rattle.rounds.specs.Chain.{Call, traceback, deltas, Answer, number, made, after, saying, said, answers, with_lists, Run, none, recorded, weighs, Chained}
use Rattle.rounds.proofs.SilenceRefusals.{sound, traceback_taken, delta_taken}
use Rattle.rounds.proofs.Tables.{length_table}
use Rattle.rounds.proofs.Marks.{length-traced}
use Rattle.rounds.proofs.Walk.{length-weighted}
use Rattle.rounds.proofs.Calls.{knowns, silences, weights}

-- ---- the rooms at exit hold the new table

abbrev broken : SilenceWeighting → TableRooms → Bool
broken s z = table_broken s (length z.known) (length z.is_silence) (length z.current_weight)

table_back : (t : Table) (z : TableRooms) → table_in (decoder (length t)) (over_rooms t z) ≡ t
unfolding table_in
table_back t z =
    let d : FrameInfo = record { known = false; is_silence = false; current_weight = nan } in
    build_ext (length t) _ _
    (λ k l.
    let a = over_at false (knowns t) z.known k (omega (arith, length-map t (λ (f : FrameInfo). f.known))) in
    let b = over_at false (silences t) z.is_silence k (omega (arith, length-map t (λ (f : FrameInfo). f.is_silence))) in
    let c = over_at nan (weights t) z.current_weight k (omega (arith, length-map t (λ (f : FrameInfo). f.current_weight))) in
    rw (a, b, c)
    (rw (get_or-map (λ (f : FrameInfo). f.known) t k d, get_or-map (λ (f : FrameInfo). f.is_silence) t k d, get_or-map (λ (f : FrameInfo). f.current_weight) t k d)))
    ∙ build_list d t

module _ (s : SilenceWeighting) (z : TableRooms) (t : Table) (b : broken s z ≡ false) where
  abbrev grown : SilenceWeighting
  grown = record { silence_weight = s.silence_weight; subsampling = s.subsampling; phones = s.phones; table = s.table; length = decoder (length t) }

  unbroken : (k i w : ℕ) → length t ≤ places s → k ≡ length z.known → i ≡ length z.is_silence → w ≡ length z.current_weight → table_broken grown k i w ≡ false
  unfolding table_broken
  unbroken k i w h ek ei ew =
      let rest : Bool = not (eqb (length z.known) s.table) || not (eqb (length z.is_silence) s.table) || not (eqb (length z.current_weight) s.table) || not (eqb (settings_refusal s.phones s.silence_weight s.subsampling) 0) in
      rw (ek, ei, ew) (or_none rest _ (or_fails rest (ltb (places s) s.length.0) b).0 (le-ltb (places s) (length t) h))

  -- what a call leaves that makes the table t, or is refused: the record is not broken, and the rooms hold the machine's table
  pub left : (n c : ℕ) (r : SilenceAnswer) (z' : TableRooms) → (n ≡ 0 → length t ≤ places s) → r ≡ silence_answer n s c (length t) → z' ≡ taken n (over_rooms t z) z
      → (broken r.silence z' ≡ false) × (table_in r.silence.length z' ≡ taken n t (table_in s.length z)) × (r.silence ≡ taken n grown s)
  unfolding silence_answer
  left zero c r z' h a ez =
      let e : r.silence ≡ grown = ap (λ (x : SilenceAnswer). x.silence) a in
      let l = h refl in
      let d = sound s _ _ _ b in
      let ks = length_over (knowns t) z.known (omega (arith, length-map t (λ (f : FrameInfo). f.known))) in
      let ss = length_over (silences t) z.is_silence (omega (arith, length-map t (λ (f : FrameInfo). f.is_silence))) in
      let ws = length_over (weights t) z.current_weight (omega (arith, length-map t (λ (f : FrameInfo). f.current_weight))) in (
        rw (e, ez) (unbroken _ _ _ l ks ss ws),
        rw (e, ez) (table_back t z),
        e,
      )
  left (suc n) c r z' h a ez =
      let e : r.silence ≡ s = ap (λ (x : SilenceAnswer). x.silence) a in
      (rw (e, ez) b, rw (e, ez), e)

-- ---- the machine asks of a record only its settings

module _ (s : SilenceWeighting) (m : ℕ) where
  abbrev other : SilenceWeighting
  other = record { silence_weight = s.silence_weight; subsampling = s.subsampling; phones = s.phones; table = s.table; length = decoder m }

  said_same : (t : Table) (c : Call) → said other t c ≡ said s t c
  unfolding traceback_tests delta_tests asked
  said_same t (traceback phones ps starts ends decoded) = refl
  said_same t (deltas ready first fs os) = refl

  after_same : (t : Table) (c : Call) → after other t c ≡ after s t c
  unfolding traceback_tests delta_tests asked asked_table
  after_same t (traceback phones ps starts ends decoded) = refl
  after_same t (deltas ready first fs os) = refl

  answers_same : (t : Table) (cs : List Call) → answers other t cs ≡ answers s t cs
  answers_same t [] = refl
  answers_same t (c ∷ cs) = rw (said_same t c, after_same t c) (ap (λ (l : List Answer). said s t c ∷ l) (answers_same (after s t c) cs))

answers-kept : (n m : ℕ) (s s' : SilenceWeighting) (t : Table) (cs : List Call) → s' ≡ taken n (other s m) s → answers s' t cs ≡ answers s t cs
answers-kept zero m s s' t cs e = ap (λ (x : SilenceWeighting). answers x t cs) e ∙ answers_same s m t cs
answers-kept (suc n) m s s' t cs e = ap (λ (x : SilenceWeighting). answers x t cs) e

-- ---- the lists of calls

-- one call more
module _ (s : SilenceWeighting) (z : TableRooms) (b : broken s z ≡ false) (c : Call) where
  abbrev t : Table
  t = table_in s.length z

  more : (k n : ℕ) (r : SilenceAnswer) (z' : TableRooms) (a : Answer) (cs : List Call) (as' : List Answer) → k ≡ number s t c → (k ≡ 0 → length (made s t c) ≤ places s)
      → r ≡ silence_answer k s n (length (made s t c)) → z' ≡ taken k (over_rooms (made s t c) z) z
      → a ≡ saying k s t c → (broken r.silence z' ≡ false → as' ≡ answers r.silence (table_in r.silence.length z') cs)
      → a ∷ as' ≡ answers s t (c ∷ cs)
  more k n r z' a cs as' e h er ez ea rest =
      let x = left s z (made s t c) b k n r z' h er ez in
      ap (λ (z : Answer). z ∷ as') (ea ∙ ap (λ (i : ℕ). saying i s t c) e)
      ∙ ap (λ (l : List Answer). said s t c ∷ l)
      (rest x.0 ∙ answers-kept k (length (made s t c)) s r.silence _ cs x.2 ∙ ap (λ (z : Table). answers s z cs) (x.1 ∙ ap (λ (i : ℕ). taken i (made s t c) t) e))

length-made : (s : SilenceWeighting) (ready first : InputFrame) (t : Table) → length (asked_table s ready first t) ≤ max (length t) (wanted s ready first).0
unfolding asked_table
length-made s ready first t = by-test (leb ready.0 first.0) (λ e. rw e (omega arith)) (λ e. rw e (omega (arith, length-weighted s.silence_weight (max (length t) (wanted s ready first).0) t)))

chain : {s : SilenceWeighting} {z : TableRooms} {cs : List Call} {as' : List Answer} → broken s z ≡ false → Run s z cs as' → as' ≡ answers s (table_in s.length z) cs
unfolding silence_answer compute_current_traceback get_delta_weights
chain b none = refl
chain {s} {z} b (recorded {z' = z'} {phones = phones} {ps = ps} {starts = starts} {ends = ends} {n = n} {r = r} {cs = cs} {as' = as'} h run) =
    let k : ℕ = (compute_current_traceback s z phones ps starts ends n).refusal in
    let er = ap (λ (x : TableCall). x.answer) h in
    more s z b (traceback phones ps starts ends n) k 0 r z' (with_lists r [] []) cs as' (first_past _ _ b)
    (λ q.
    let d = traceback_taken s _ _ _ (length phones) n (length ps) (length starts) (length ends) q in
    omega (arith, length-traced phones n.0 (segments ps starts ends) (table_in s.length z), length_table s.length.0 z.known z.is_silence z.current_weight))
    er (ap (λ (x : TableCall). x.rooms) h)
    (ap (λ (x : SilenceAnswer). with_lists x [] []) er ∙ ap (λ (i : ℕ). record { refusal = k; changes = i; frames = []; weights = [] }) (taken_same k 0))
    (λ d. chain d run)
chain {s} {z} b (weighs {z' = z'} {ready = ready} {first = first} {fs = fs} {fs' = fs'} {os = os} {os' = os'} {r = r} {cs = cs} {as' = as'} h run) =
    let k : ℕ = (get_delta_weights s z ready first (length fs) (length os)).refusal in
    let t : Table = table_in s.length z in
    let er = ap (λ (x : TableCall). x.answer) h in
    more s z b (deltas ready first fs os) k (length (asked s ready first t)) r z' (with_lists r fs' os') cs as' (first_past _ _ b)
    (λ q.
    let d = delta_taken s z ready first (length fs) (length os) q in
    omega (arith, length-made s ready first t, length_table s.length.0 z.known z.is_silence z.current_weight))
    er (ap (λ (x : TableCall). x.rooms) h)
    (ap (λ (x : SilenceAnswer). with_lists x fs' os') er
    ∙ ap (λ (l : List ℕ). record { refusal = k; changes = taken k (length (asked s ready first t)) 0; frames = l; weights = os' }) (ap (λ (x : TableCall). x.frames) h)
    ∙ ap (λ (l : List Float). record { refusal = k; changes = taken k (length (asked s ready first t)) 0; frames = taken k (over (map (λ x. x.0) (asked s ready first t)) fs) fs; weights = l }) (ap (λ (x : TableCall). x.weights) h))
    (λ d. chain d run)

-- a table that was made
made_is : (r : ℕ) (s s' : SilenceWeighting) → taken r (Ok s) (Err r) ≡ Ok s' → (r ≡ 0) × (s ≡ s')
made_is zero s s' e = (refl, cc)
made_is (suc r) s s' e = let z : ◌≡◌ {A = ℕ} 0 1 = cc in absurd (omega arith)

pub chained : Chained
unfolding new_table table_broken table_in build
chained phones w subsampling n s z cs as' e lk ls lw run =
    let m = made_is (settings_refusal phones w subsampling) _ s e in
    let b : broken s z ≡ false = rw (← m.1, lk, ls, lw, eq-eqb n n refl, m.0, le-ltb (min n 1000000) 0 (omega arith)) in
    chain b run ∙ ap (λ (i : DecoderFrame). answers s (table_in i z) cs) (ap (λ (x : SilenceWeighting). x.length) (sym m.1))
