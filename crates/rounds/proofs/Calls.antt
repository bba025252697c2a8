-- What the two calls on a table return and leave, over plain values: each is taken apart by its refusal, and a call that is taken by its table and its
-- changes.
use Prim.Native.Nat.{ℕ, zero, suc, ◌+◌, ◌-◌, ◌*◌, ◌≤◌, ◌<◌, min, max}
use mathlib.Core.Path.{◌≡◌, refl, sym, ap, ◌∙◌}
use mathlib.Core.Bool.{Bool, false, not, ◌||◌}
use mathlib.Core.List.{List, [], ◌∷◌, map}
use native.Mathlib.Omega.{arith}
use borrow.Author.Tests.{le-leb, lt-leb, leb-true, leb-false, lt-ltb, le-ltb}
use lib.Dec.{leb, ltb}
use lib.IntN.{ℤ}
use lib.ListN.{length, get_or}
use lib.Ieee.{Float, nan}
use Rattle.loops.specs.Lists.{build, over}
use Rattle.loops.specs.Refusal.{first_of}
use Rattle.loops.specs.Ring.{put}
use Rattle.loops.proofs.Choose.{by-test, choose_true, choose_false, or_none}
use Rattle.loops.proofs.Build.{length_build, build_ext, map-build}
use Rattle.loops.proofs.Fill.{length_put, over_none, over_self}
use Rattle.loops.proofs.Refusal.{first_is, first-none, taken_new, taken_old}
use Rattle.floats.specs.Operators.{zero₃₂}
use Rattle.definition.specs.declared.InputFrame.{InputFrame}
use Rattle.definition.specs.declared.DecoderFrame.{DecoderFrame}
use Rattle.definition.specs.declared.SilenceWeighting.{SilenceWeighting}
use Rattle.definition.specs.declared.SilenceAnswer.{SilenceAnswer}
use Rattle.definition.specs.declared.refusal.Refusal.{Refusal}
use Rattle.definition.specs.Number.{number_of}
use Rattle.definition.specs.Changes.{Change}
use Rattle.definition.specs.Silence.{decoder, FrameInfo, TableRooms, table_rooms, Table, info_at, table_in, over_rooms, segments, traced, weighted, delta_weights, places, table_broken, traceback_tests, wanted, asked, asked_table, delta_tests}
use Rattle.definition.specs.Silence.{TableStep, compute_current_traceback, get_delta_weights, silence_answer, table_call, table_done}
use Rattle.rounds.specs.Inner.SilenceWeighting.{table_of, flag_at}
use Rattle.rounds.specs.Inner.SilenceWeightingRooms.{noted}
use Rattle.rounds.proofs.SilenceRefusals.{TracebackTaken, DeltaTaken, not_broken, at_most, numbered}
use Rattle.rounds.proofs.Tables.{length_table, grown}
use Rattle.rounds.proofs.Walk.{known_at, silence-at, length-weighted, few_changes}
use Rattle.rounds.proofs.Marks.{length-traced, marked_room, marked_weight}

abbrev pub knowns : Table → List Bool
knowns = map (λ f. f.known)

abbrev pub silences : Table → List Bool
silences = map (λ f. f.is_silence)

abbrev pub weights : Table → List Float
weights = map (λ f. f.current_weight)

-- ---- what a step leaves

call_is : {a a' : SilenceAnswer} {z z' : TableRooms} {fs fs' : List ℕ} {os os' : List Float} → a ≡ a' → z ≡ z' → fs ≡ fs' → os ≡ os' → table_call a z fs os ≡ table_call a' z' fs' os'
call_is ea ez ef eo = rw (ea, ez, ef, eo)

rooms_are : {ks ks' ss ss' : List Bool} {ws ws' : List Float} → ks ≡ ks' → ss ≡ ss' → ws ≡ ws' → table_rooms ks ss ws ≡ table_rooms ks' ss' ws'
rooms_are ek es ew = rw (ek, es, ew)

-- what a call answers: its refusal, how many changes it gives, and the record as it leaves it
abbrev pub answer : ℕ → ℕ → SilenceWeighting → SilenceAnswer
answer k c s = record { refusal = k; changes = c; silence = s }

-- the record with m frames in its table
abbrev pub with_length : SilenceWeighting → DecoderFrame → SilenceWeighting
with_length s m = record { silence_weight = s.silence_weight; subsampling = s.subsampling; phones = s.phones; table = s.table; length = m }

answer_refused : (k : ℕ) (s : SilenceWeighting) (c m : ℕ) → (k ≡ 0 → ⊥) → answer k 0 s ≡ silence_answer k s c m
unfolding silence_answer
answer_refused zero s c m h = absurd (h refl)
answer_refused (suc k) s c m h = refl

module _ (s : SilenceWeighting) (z : TableRooms) (fs : List ℕ) (os : List Float) (x : TableStep) where
  step_refused : (k : ℕ) → k ≡ x.refusal → (k ≡ 0 → ⊥) → table_call (answer k 0 s) z fs os ≡ table_done s z fs os x
  step_refused k e h =
      let q : x.refusal ≡ 0 → ⊥ = λ y. h (e ∙ y) in
      call_is (answer_refused k s (length x.changes) (length x.table) h ∙ ap (λ (i : ℕ). silence_answer i s (length x.changes) (length x.table)) e)
      (sym (taken_old _ _ z q)) (sym (taken_old _ _ fs q)) (sym (taken_old _ _ os q))

  -- c changes, a table of m frames
  step_taken : (c : ℕ) (m : DecoderFrame) (z' : TableRooms) (fs' : List ℕ) (os' : List Float) → 0 ≡ x.refusal → c ≡ length x.changes → m.0 ≡ length x.table
      → z' ≡ over_rooms x.table z → fs' ≡ over (map (λ x. x.0) x.changes) fs → os' ≡ over (map (λ x. x.1) x.changes) os
      → table_call (answer 0 c (with_length s m)) z' fs' os' ≡ table_done s z fs os x
  unfolding silence_answer
  step_taken c m z' fs' os' e ec em ez ef eo =
      call_is (ap (λ (i : ℕ). silence_answer 0 s i m.0) ec ∙ ap (λ (i : ℕ). silence_answer 0 s (length x.changes) i) em ∙ ap (λ (i : ℕ). silence_answer i s (length x.changes) (length x.table)) e)
      (ez ∙ sym (taken_new _ _ z (sym e))) (ef ∙ sym (taken_new _ _ fs (sym e))) (eo ∙ sym (taken_new _ _ os (sym e)))

-- a part of a room that is set leaves the room as long as it was
pub put_long : {A : Type 0} (a n : ℕ) (v : A) (room : List A) {new : List A} → a + n ≤ length room → new ≡ put a (build n (λ i. v)) room → length new ≡ length room
put_long a n v room h e = ap length e ∙ length_put a _ room (omega (arith, length_build n (λ i. v)))

-- ---- compute_current_traceback

module _ (s : SilenceWeighting) (phones : List ℤ) (ks ss : List Bool) (ws : List Float) (ps : List ℤ) (starts ends : List ℕ) (n : DecoderFrame) where
  abbrev traceback_refusal : ℕ
  traceback_refusal = first_of ((table_broken s (length ks) (length ss) (length ws), 10) ∷ traceback_tests s (length phones) n (length ps) (length starts) (length ends))

  abbrev Traced : SilenceAnswer → List Bool → List Bool → List Float → Type 0
  Traced r ks' ss' ws' = table_call r (table_rooms ks' ss' ws') [] [] ≡ table_done s (table_rooms ks ss ws) [] [] (compute_current_traceback s (table_rooms ks ss ws) phones ps starts ends n)

  pub traceback_refused : (e : Refusal) → number_of e ≡ traceback_refusal → Traced (noted (number_of e) s) ks ss ws
  unfolding compute_current_traceback
  traceback_refused e h = step_refused s (table_rooms ks ss ws) [] [] (compute_current_traceback s (table_rooms ks ss ws) phones ps starts ends n) _ h (numbered e)

  pub traceback_done : (more : ℕ) (m : DecoderFrame) (ks₁ ss₁ : List Bool) (ws₁ : List Float) (ks₂ ss₂ : List Bool) → 0 ≡ traceback_refusal
      → TracebackTaken s (length ks) (length ss) (length ws) n (length ps) (length starts) (length ends)
      → more ≡ n.0 - s.length.0 → m.0 ≡ max s.length.0 n.0
      → ks₁ ≡ put s.length.0 (build more (λ i. false)) ks → ss₁ ≡ put s.length.0 (build more (λ i. false)) ss → ws₁ ≡ put s.length.0 (build more (λ i. zero₃₂)) ws
      → ((i : ℕ) (v : List Float) → n.0 ≤ i → i ≤ length ks₁ → i ≤ length ss₁
      → (ks₂ ≡ over (knowns (traced phones n (segments ps starts ends) (table_of i ks₁ ss₁ v))) ks₁) × (ss₂ ≡ over (silences (traced phones n (segments ps starts ends) (table_of i ks₁ ss₁ v))) ss₁))
      → length ks₁ ≡ length ks → length ss₁ ≡ length ss
      → Traced (noted 0 (with_length s m)) ks₂ ss₂ ws₁
  unfolding compute_current_traceback
  traceback_done more m ks₁ ss₁ ws₁ ks₂ ss₂ e t em es k1 s1 w1 marked lk ls =
      let size = m.0 in
      let g = segments ps starts ends in
      let l = s.length.0 in
      let d = n.0 in
      let u = marked size ws₁ (omega arith) (omega arith) (omega arith) in
      let a : size ≡ s.length.0 + more = omega arith in
      let x : size ≤ length ks = omega arith in
      let y : size ≤ length ss = omega arith in
      let z : size ≤ length ws = omega arith in
      step_taken s (table_rooms ks ss ws) [] [] (compute_current_traceback s (table_rooms ks ss ws) phones ps starts ends n) 0 m _ [] [] e refl
      (es ∙ sym (length-traced phones d g (table_of l ks ss ws) ∙ ap (λ (i : ℕ). max i d) (length_table l ks ss ws)))
      (rooms_are (marked_room l more size a ks ss ws ks₁ ss₁ ws₁ x y z k1 s1 w1 phones d g es (λ f. f.known) ks ks₁ ks₂ x k1 u.0)
      (marked_room l more size a ks ss ws ks₁ ss₁ ws₁ x y z k1 s1 w1 phones d g es (λ f. f.is_silence) ss ss₁ ss₂ y s1 u.1)
      (marked_weight l more size a ks ss ws ks₁ ss₁ ws₁ x y z k1 s1 w1 phones d g es))
      (over_none []) (over_none [])

-- ---- get_delta_weights

module _ (s : SilenceWeighting) (ks ss : List Bool) (ws : List Float) (ready first : InputFrame) where
  nothing_table : ready.0 ≤ first.0 → asked_table s ready first (table_of s.length.0 ks ss ws) ≡ table_of s.length.0 ks ss ws
  unfolding asked_table
  nothing_table l = sym (choose_true _ (le-leb ready.0 first.0 l) refl)

  pub nothing_asked : ready.0 ≤ first.0 → asked s ready first (table_of s.length.0 ks ss ws) ≡ []
  unfolding asked
  nothing_asked l = sym (choose_true _ (le-leb ready.0 first.0 l) refl)

  module _ (l : first.0 < ready.0) (n : ℕ) (en : n ≡ max s.length.0 (wanted s ready first).0) where
    size_is : n ≡ max (length (table_of s.length.0 ks ss ws)) (wanted s ready first).0
    size_is = en ∙ ap (λ (z : ℕ). max z (wanted s ready first).0) (sym (length_table s.length.0 ks ss ws))

    some_table : asked_table s ready first (table_of s.length.0 ks ss ws) ≡ weighted s.silence_weight (decoder n) (table_of s.length.0 ks ss ws)
    unfolding asked_table
    some_table = sym (choose_false _ (lt-leb ready.0 first.0 l) (ap (λ (z : ℕ). weighted s.silence_weight (decoder z) (table_of s.length.0 ks ss ws)) size_is))

    pub some_asked : asked s ready first (table_of s.length.0 ks ss ws) ≡ delta_weights s.silence_weight s.subsampling first (decoder n) (table_of s.length.0 ks ss ws)
    unfolding asked
    some_asked = sym (choose_false _ (lt-leb ready.0 first.0 l) (ap (λ (z : ℕ). delta_weights s.silence_weight s.subsampling first (decoder z) (table_of s.length.0 ks ss ws)) size_is))

-- ---- the refusal, from what the code's branches tell

-- no refusal before the count: the table is whole, the frames are in range, and its places reach the d decoder frames that are wanted
pub record Reached (s : SilenceWeighting) (ks ss : List Bool) (ws : List Float) (ready first : InputFrame) (d : DecoderFrame) : Type 0 where
  pub unbroken : table_broken s (length ks) (length ss) (length ws) ≡ false
  pub ready_in : ready.0 ≤ 1000000000
  pub first_in : first.0 ≤ 1000000000
  pub wanted_is : d ≡ wanted s ready first
  pub in_places : d.0 ≤ places s

-- the code's tests, each of them met
pub reached : (s : SilenceWeighting) (ks ss : List Bool) (ws : List Float) (ready first : InputFrame) (d : DecoderFrame) (whole : Bool) (p : ℕ)
    → table_broken s (length ks) (length ss) (length ws) ≡ not whole → 0 ≡ first_of ((not whole, 10) ∷ []) → 0 ≡ first_of ((not (leb ready.0 1000000000), 23) ∷ [])
    → 0 ≡ first_of ((not (leb first.0 1000000000), 23) ∷ []) → d ≡ wanted s ready first → p ≡ places s → 0 ≡ first_of ((not (leb d.0 p), 23) ∷ [])
    → Reached s ks ss ws ready first d
reached s ks ss ws ready first d whole p b n r f e ep i =
    record { unbroken = not_broken _ whole b n; ready_in = at_most _ _ _ r; first_in = at_most _ _ _ f; wanted_is = e; in_places = omega (arith, at_most d.0 p 22 i) }

-- the answer's lists have f and w places
module _ (s : SilenceWeighting) (ks ss : List Bool) (ws : List Float) (ready first : InputFrame) (f w : ℕ) where
  abbrev refusal : ℕ
  refusal = (get_delta_weights s (table_rooms ks ss ws) ready first f w).refusal

  module _ {d : DecoderFrame} (q : Reached s ks ss ws ready first d) where
    wanted_same : d.0 ≡ (wanted s ready first).0
    wanted_same = ap (λ (x : DecoderFrame). x.0) q.wanted_is

    no_23 : (ltb 1000000000 ready.0 || ltb 1000000000 first.0 || ltb (places s) (wanted s ready first).0) ≡ false
    no_23 =
        or_none _ _ (or_none _ _ (le-ltb 1000000000 ready.0 q.ready_in) (le-ltb 1000000000 first.0 q.first_in))
        (le-ltb (places s) (wanted s ready first).0 (omega (arith, wanted_same, q.in_places)))

    pub refusal_nothing : ready.0 ≤ first.0 → 0 ≡ refusal
    unfolding delta_tests get_delta_weights
    refusal_nothing l = first-none _ (q.unbroken, (no_23, (le-ltb (min f w) _ (omega (arith, ap length (nothing_asked s ks ss ws ready first l))), tt)))

    -- n frames are wanted, which give c changes, and r places are there for them
    module _ (l : first.0 < ready.0) {n c r : ℕ} (en : n ≡ max s.length.0 d.0)
        (ec : c ≡ length (delta_weights s.silence_weight s.subsampling first (decoder n) (table_of s.length.0 ks ss ws))) (er : r ≡ min f w) where
      count_is : c ≡ length (asked s ready first (table_of s.length.0 ks ss ws))
      count_is = ec ∙ ap length (sym (some_asked s ks ss ws ready first l n (en ∙ ap (max s.length.0) wanted_same)))

      pub refusal_short : r < c → 24 ≡ refusal
      unfolding delta_tests get_delta_weights
      refusal_short h = first_is 2 _ (q.unbroken, (no_23, lt-ltb (min f w) (length (asked s ready first (table_of s.length.0 ks ss ws))) (omega (arith, count_is))))

      pub refusal_none : c ≤ r → 0 ≡ refusal
      unfolding delta_tests get_delta_weights
      refusal_none h = first-none _ (q.unbroken, (no_23, (le-ltb (min f w) (length (asked s ready first (table_of s.length.0 ks ss ws))) (omega (arith, count_is)), tt)))

      -- the one or the other, as the last test tells
      pub refusal_counted : first_of ((not (leb c r), 24) ∷ []) ≡ refusal
      unfolding first_of
      refusal_counted = by-test (leb c r) (λ e. rw e (refusal_none (leb-true c r e))) (λ e. rw e (refusal_short (leb-false c r e)))

      -- where a change of each input frame would find room
      pub refusal_roomy : (b o : ℕ) → b ≡ s.length.0 - 100 → o ≡ n - b → o * s.subsampling ≤ r → 0 ≡ refusal
      refusal_roomy b o eb eo h =
          let t : Table = table_of s.length.0 ks ss ws in
          let e : o ≡ n - (length t - 100) = eo ∙ ap (λ (z : ℕ). n - z) (eb ∙ ap (λ (z : ℕ). z - 100) (sym (length_table s.length.0 ks ss ws))) in
          refusal_none (omega (arith, ec, few_changes s.silence_weight s.subsampling first n t, ap (λ (z : ℕ). z * s.subsampling) e, h))

module _ (s : SilenceWeighting) (ks ss : List Bool) (ws : List Float) (ready first : InputFrame) (fs : List ℕ) (os : List Float) where
  abbrev t : Table
  t = table_of s.length.0 ks ss ws

  abbrev refused : ℕ
  refused = (get_delta_weights s (table_rooms ks ss ws) ready first (length fs) (length os)).refusal

  abbrev Weighs : SilenceAnswer → List Bool → List Bool → List Float → List ℕ → List Float → Type 0
  Weighs r ks' ss' ws' fs' os' = table_call r (table_rooms ks' ss' ws') fs' os' ≡ table_done s (table_rooms ks ss ws) fs os (get_delta_weights s (table_rooms ks ss ws) ready first (length fs) (length os))

  pub delta_refused : (e : Refusal) → number_of e ≡ refused → Weighs (answer (number_of e) 0 s) ks ss ws fs os
  delta_refused e h = step_refused s (table_rooms ks ss ws) fs os (get_delta_weights s (table_rooms ks ss ws) ready first (length fs) (length os)) _ h (numbered e)

  -- a call that is taken, the table and the changes given by equations
  delta_taken_as : (u : Table) (g : List Change) (c : ℕ) (m : DecoderFrame) (ks' ss' : List Bool) (ws' : List Float) (fs' : List ℕ) (os' : List Float) → 0 ≡ refused
      → u ≡ asked_table s ready first t → g ≡ asked s ready first t → c ≡ length g → m.0 ≡ length u
      → ks' ≡ over (knowns u) ks → ss' ≡ over (silences u) ss → ws' ≡ over (weights u) ws → fs' ≡ over (map (λ x. x.0) g) fs → os' ≡ over (map (λ x. x.1) g) os
      → Weighs (answer 0 c (with_length s m)) ks' ss' ws' fs' os'
  unfolding get_delta_weights
  delta_taken_as u g c m ks' ss' ws' fs' os' e eu eg ec em k1 s1 w1 f1 o1 =
      step_taken s (table_rooms ks ss ws) fs os (get_delta_weights s (table_rooms ks ss ws) ready first (length fs) (length os)) c m _ fs' os' e (ec ∙ ap length eg) (em ∙ ap length eu)
      (rooms_are k1 s1 w1 ∙ ap (λ (x : Table). over_rooms x (table_rooms ks ss ws)) eu)
      (f1 ∙ ap (λ (x : List Change). over (map (λ x. x.0) x) fs) eg) (o1 ∙ ap (λ (x : List Change). over (map (λ x. x.1) x) os) eg)

  -- a room's own table
  own : {A : Type 0} (part : FrameInfo → A) (d : A) (room : List A) → s.length.0 ≤ length room → ((k : ℕ) → part (record { known = get_or ks k false; is_silence = get_or ss k false; current_weight = get_or ws k nan }) ≡ get_or room k d)
      → room ≡ over (map part t) room
  unfolding table_in
  own {A} part d room l h = sym (ap (λ (x : List A). over x room) (map-build part _ _ ∙ build_ext _ _ _ (λ k q. h k)) ∙ over_self d s.length.0 room l)

  pub delta_nothing : 0 ≡ refused → ready.0 ≤ first.0 → DeltaTaken s (length ks) (length ss) (length ws) ready first t (length fs) (length os)
      → Weighs (answer 0 0 s) ks ss ws fs os
  delta_nothing e l d =
      delta_taken_as t [] 0 s.length ks ss ws fs os e (sym (nothing_table s ks ss ws ready first l)) (sym (nothing_asked s ks ss ws ready first l)) refl (sym (length_table s.length.0 ks ss ws))
      (own (λ f. f.known) false ks (omega arith) (λ k. refl)) (own (λ f. f.is_silence) false ss (omega arith) (λ k. refl)) (own (λ f. f.current_weight) nan ws (omega arith) (λ k. refl)) (over_none fs) (over_none os)

  module _ (l : first.0 < ready.0) (m : DecoderFrame) (en : m.0 ≡ max s.length.0 (wanted s ready first).0) where
    abbrev n : ℕ
    n = m.0

    -- a room of flags that has grown
    flags : (part : FrameInfo → Bool) (room l' : List Bool) (more : ℕ) → more ≡ n - s.length.0 → n ≤ length room → l' ≡ put s.length.0 (build more (λ i. false)) room
        → ((k : ℕ) → flag_at s.length.0 room k ≡ part (info_at t k)) → map part (weighted s.silence_weight (decoder n) t) ≡ build n (λ k. part (info_at t k)) → l' ≡ over (map part (weighted s.silence_weight (decoder n) t)) room
    flags part room l' more em h g p q =
        grown false false s.length.0 room more n l' (omega arith) h g ∙ ap (λ (x : List Bool). over x room) (build_ext n _ _ (λ k i. p k) ∙ sym q)

    weighted_known : knowns (weighted s.silence_weight (decoder n) t) ≡ build n (λ k. (info_at t k).known)
    unfolding weighted
    weighted_known = map-build _ _ _

    weighted_silence : silences (weighted s.silence_weight (decoder n) t) ≡ build n (λ k. (info_at t k).is_silence)
    unfolding weighted
    weighted_silence = map-build _ _ _

    pub delta_done : (more c : ℕ) (ks' ss' : List Bool) (ws' : List Float) (fs' : List ℕ) (os' : List Float) → 0 ≡ refused → DeltaTaken s (length ks) (length ss) (length ws) ready first t (length fs) (length os) → more ≡ n - s.length.0
        → c ≡ length (delta_weights s.silence_weight s.subsampling first (decoder n) t) → ks' ≡ put s.length.0 (build more (λ i. false)) ks → ss' ≡ put s.length.0 (build more (λ i. false)) ss
        → ws' ≡ over (weights (weighted s.silence_weight (decoder n) t)) ws
        → fs' ≡ over (map (λ x. x.0) (delta_weights s.silence_weight s.subsampling first (decoder n) t)) fs → os' ≡ over (map (λ x. x.1) (delta_weights s.silence_weight s.subsampling first (decoder n) t)) os
        → Weighs (answer 0 c (with_length s m)) ks' ss' ws' fs' os'
    delta_done more c ks' ss' ws' fs' os' e d em ec k1 s1 w1 f1 o1 =
        delta_taken_as _ _ c m ks' ss' ws' fs' os' e (sym (some_table s ks ss ws ready first l n en)) (sym (some_asked s ks ss ws ready first l n en)) ec (sym (length-weighted s.silence_weight n t))
        (flags (λ f. f.known) ks ks' more em (omega arith) k1 (known_at s.length.0 ks ss ws) weighted_known) (flags (λ f. f.is_silence) ss ss' more em (omega arith) s1 (silence-at s.length.0 ks ss ws) weighted_silence) w1 f1 o1
