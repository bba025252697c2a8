-- The rules of specs/Habit.antt. Of the keeping machine: frames held are at most F (`fits_left`), so that rows held are below R where a push is not
-- refused 14 (`no_15`); and what a host knows (`Known`) bounds the frames held by the utterance's frames and the context (`known_left`, `no_14`). `keeps`
-- makes it the program's.
use Rattle.std.specs.Prelude.{if◌then◌else◌}
use mathlib.Core.Path.{◌≡◌, refl, sym, ap, subst, ◌∙◌}
use mathlib.Core.Bool.{Bool, true, false}
use Prim.Native.Nat.{ℕ, zero, suc, ◌+◌, ◌-◌, ◌≤◌, min}
use native.Mathlib.Omega.{arith}
use mathlib.Core.List.{List, [], ◌∷◌, map, foldl}
use lib.ListN.{length, take, get_or, length-append}
use lib.Dec.{eqb, leb, ltb}
use lib.Ieee.{Float}
use borrow.Author.Tests.{eqb-true, eqb-false, leb-true, ltb-true, ltb-false, le-ltb, ne_eqb}
use Rattle.loops.specs.Lists.{build, those, any_of, all_of}
use Rattle.loops.specs.Refusal.{first_of, taken}
use Rattle.loops.specs.Ring.{rows_in}
use Rattle.loops.proofs.Choose.{by-test, and_holds, or_none, or_fails}
use Rattle.loops.proofs.Build.{build_list, map-build}
use Rattle.loops.proofs.Refusal.{none_first, first-here, first_past}
use Rattle.loops.proofs.Tests.{none_at, at_none}
use Rattle.floats.specs.Operators.{at}
use Rattle.definition.specs.declared.IvectorInfo.{IvectorInfo}
use Rattle.definition.specs.declared.RingLengths.{RingLengths}
use Rattle.definition.specs.declared.RoomLengths.{RoomLengths}
use Rattle.definition.specs.Model.{Tables, Model, model_in}
use Rattle.definition.specs.Changes.{Change, changed, reached}
use Rattle.definition.specs.Machine.{Call, push, finish, change, forget, set_window, fetch, Machine, moved, accepted, frames_held, rows_held, forgotten, longest_from, push_tests, change_tests, window_tests, fetch_tests, fresh, caught_up, does, told_by, answer, answers_from, answers, machine_after}
use Rattle.definition.proofs.Floor.{first-not, lowest_under}
use Rattle.program.specs.Rooms.{frames_of, ring_lengths_of, room_lengths_of}
use Rattle.program.specs.Session.{Program, program, program_after}
use Rattle.program.specs.Played.{Played, ended, played_answers, took}
use Rattle.program.specs.Habit.{EnoughRows, EnoughFrames, Never, window_of, RowsEnough, HeldAfterForget, Ledger, ledger, entered, may_come, in_habit, FramesEnough}
use Rattle.program.proofs.Waiting.{inserts_none, lowest_at}
use Rattle.program.proofs.Sound.{stream_of, held_are}
use Rattle.program.proofs.Moves.{moved_on}
use Rattle.program.proofs.Keeps as keeps

-- ---- tests

-- the first test that holds has another number than this one's: this one fails
past : (n : ℕ) (t : Bool × ℕ) (ts : List (Bool × ℕ)) → (t.1 ≡ n → ⊥) → first_of (t ∷ ts) ≡ n → (t.0 ≡ false) × (first_of ts ≡ n)
past n t ts h e = by-test t.0 (λ q. absurd (h (sym (first-here t ts q) ∙ e))) (λ q. (q, sym (first_past t ts q) ∙ e))

-- a bound that no number of a list is below
abbrev Above : ℕ → List ℕ → Type 0
Above m fs = any_of (λ g. ltb g m) fs ≡ false

above_lower : (m m' : ℕ) (fs : List ℕ) → m' ≤ m → Above m fs → Above m' fs
above_lower m m' fs h e = at_none (λ g. ltb g m') 0 fs (λ j l. le-ltb (get_or fs j 0) m' (omega (arith, ltb-false (get_or fs j 0) m (none_at (λ g. ltb g m) 0 fs j e l))))

-- the lowest of a list and a number
lowest_over : (m a : ℕ) (fs : List ℕ) → m ≤ a → Above m fs → m ≤ foldl min a fs
unfolding any_of
lowest_over m a [] h e = h
lowest_over m a (f ∷ fs) h e =
    let q = or_fails (ltb f m) (any_of (λ g. ltb g m) fs) e in
    lowest_over m (min a f) fs (omega (arith, ltb-false f m q.0)) q.1

lowest_above : (a : ℕ) (fs : List ℕ) → Above (foldl min a fs) fs
lowest_above a fs = at_none (λ g. ltb g (foldl min a fs)) 0 fs (λ j l. le-ltb (get_or fs j 0) (foldl min a fs) (lowest_at a fs j l))

-- the changes above f
those-above : (f : ℕ) (ds : List Change) → Above (f + 1) (frames_of (those (λ d. ltb f d.0) ds))
unfolding any_of those
those-above f [] = refl
those-above f (d ∷ ds) =
    by-test (ltb f d.0) (λ q. rw q (or_none _ _ (le-ltb d.0 (f + 1) (omega (arith, ltb-true f d.0 q))) (those-above f ds))) (λ q. rw q (those-above f ds))

-- an utterance that begins, or goes on
few-by : (t : Bool) (a n since : ℕ) → (t ≡ true → a ≤ n) → a ≤ n + since → a ≤ n + (if t then 0 else since)
few-by true a n since h p = omega (arith, h refl)
few-by false a n since h p = p

-- ---- the machine

module _ (M : Model) (z : RingLengths) where
  abbrev dim : ℕ
  dim = M.info.dims.base_dim

  abbrev F : ℕ
  F = rows_in z.frames dim

  abbrev R : ℕ
  R = rows_in z.rows dim

  abbrev left : ℕ
  left = M.info.opts.left_context

  abbrev right : ℕ
  right = M.info.opts.right_context

  -- a fetch keeps the history, the mark and the windows
  fetch_keeps : (k : Machine) (f : ℕ)
      → (accepted (caught_up M k f) ≡ accepted k) × ((caught_up M k f).mark ≡ k.mark) × ((caught_up M k f).window ≡ k.window) × ((caught_up M k f).longest ≡ k.longest)
  unfolding caught_up
  fetch_keeps k f = by-test (leb k.next f) (λ q. rw q (refl, refl, refl, refl)) (λ q. rw q (refl, refl, refl, refl))

  -- a push that is refused for room: the tests of its room
  push_14 : (k : Machine) (x : List Float) → first_of (push_tests M.info.dims z k.longest (accepted k) k.mark x) ≡ 14 → accepted k - k.mark ≡ F
  unfolding push_tests frames_held rows_held
  push_14 k x e =
      let a = past 14 _ _ (omega arith) e in
      let b = past 14 _ _ (omega arith) a.1 in
      let c = past 14 _ _ (omega arith) b.1 in
      by-test (eqb (accepted k - k.mark) F) (λ q. eqb-true _ _ q)
      (λ q. let d = past 14 _ [] (omega arith) (sym (first_past _ _ q) ∙ c.1) in absurd (first-not 14 [] (omega arith) tt d.1))

  push_15 : (k : Machine) (x : List Float) → first_of (push_tests M.info.dims z k.longest (accepted k) k.mark x) ≡ 15
      → (accepted k - k.mark ≡ F → ⊥) × (accepted k + 1 - (k.mark + 1 - k.longest) ≡ R)
  unfolding push_tests frames_held rows_held
  push_15 k x e =
      let a = past 15 _ _ (omega arith) e in
      let b = past 15 _ _ (omega arith) a.1 in
      let c = past 15 _ _ (omega arith) b.1 in
      let d = past 15 _ _ (omega arith) c.1 in
      (eqb-false _ _ d.0, by-test (eqb (accepted k + 1 - (k.mark + 1 - k.longest)) R) (λ q. eqb-true _ _ q) (λ q. absurd (first-not 15 [] (omega arith) tt (sym (first_past _ [] q) ∙ d.1))))

  -- ---- at most F frames are held

  abbrev Fits : Machine → Type 0
  Fits k = accepted k ≤ k.mark + F

  fits_left : (r : ℕ) (k : Machine) (c : Call) → (does M z k c).refusal ≡ r → Fits k → Fits (taken r (does M z k c).left k)
  unfolding does push_tests frames_held rows_held forgotten
  fits_left (suc r) k c e h = h
  fits_left zero k (push x) e h =
      let g = none_first _ tt e in
      let b : accepted k - k.mark ≡ F → ⊥ = eqb-false _ _ g.1.1.1.0 in
      omega (arith, length-append k.history (x ∷ []), b)
  fits_left zero k finish e h = h
  fits_left zero k (change fs ws) e h = h
  fits_left zero k (forget f) e h = omega arith
  fits_left zero k (set_window v) e h = h
  fits_left zero k (fetch f n) e h = omega (arith, (fetch_keeps k f).0, (fetch_keeps k f).1)

  -- ---- no window is above w

  abbrev UpTo : ℕ → Machine → Type 0
  UpTo w k = (k.window ≤ w) × (k.longest ≤ w)

  longest_by : (t : Bool) (w a b : ℕ) → a ≤ w → b ≤ w → (if t then a else b) ≤ w
  longest_by true w a b h g = h
  longest_by false w a b h g = g

  up_to_left : (w r : ℕ) (k : Machine) (c : Call) → window_of c ≤ w → UpTo w k → UpTo w (taken r (does M z k c).left k)
  unfolding does longest_from window_of
  up_to_left w (suc r) k c l h = h
  up_to_left w zero k (push x) l h = h
  up_to_left w zero k finish l h = h
  up_to_left w zero k (change fs ws) l h = h
  up_to_left w zero k (forget f) l h = (h.0, longest_by (ltb k.mark (forgotten left k.next k.mark (map (λ c. c.0) k.changes.waiting) f)) w k.window k.longest h.0 h.1)
  up_to_left w zero k (set_window v) l h = (l, omega (arith, h.1))
  up_to_left w zero k (fetch f n) l h = let g = fetch_keeps k f in (omega (arith, g.2, h.0), omega (arith, g.3, h.1))

  no_15 : (u : ℕ) → F + u ≤ R → (k : Machine) → Fits k → UpTo u k → (c : Call) → (does M z k c).refusal ≡ 15 → ⊥
  unfolding does change_tests window_tests fetch_tests
  no_15 u w k h v (push x) e = let g = push_15 k x e in omega (arith, g.0, g.1, v.1)
  no_15 u w k h v (set_window x) e = first-not 15 _ (omega arith) (omega arith, (omega arith, tt)) e
  no_15 u w k h v finish e = first-not 15 [] (omega arith) tt e
  no_15 u w k h v (change fs ws) e = first-not 15 _ (omega arith) (omega arith, (omega arith, (omega arith, (omega arith, (omega arith, tt))))) e
  no_15 u w k h v (forget f) e = first-not 15 [] (omega arith) tt e
  no_15 u w k h v (fetch f m) e = first-not 15 _ (omega arith) (omega arith, (omega arith, (omega arith, tt))) e

  rows_from : (u : ℕ) → F + u ≤ R → (k : Machine) → Fits k → UpTo u k → (cs : List Call) → all_of (λ c. leb (window_of c) u) cs ≡ true → Never 15 (answers_from M z k cs)
  unfolding answers_from any_of all_of answer told_by
  rows_from u w k h v [] p = refl
  rows_from u w k h v (c ∷ cs) p =
      let q = and_holds (leb (window_of c) u) (all_of (λ c. leb (window_of c) u) cs) p in
      or_none _ _ (ne_eqb _ _ (no_15 u w k h v c))
      (rows_from u w (moved k (does M z k c)) (fits_left (does M z k c).refusal k c refl h) (up_to_left u (does M z k c).refusal k c (leb-true (window_of c) u q.0) v) cs q.1)

  -- ---- what a host knows

  pub record Known (b : Ledger) (k : Machine) : Type 0 where
    pub frames_are : b.frames ≡ accepted k
    pub next_is : b.next ≡ k.next
    pub clear_below : b.clear ≤ k.next
    pub clear_above : Above b.clear (frames_of k.changes.waiting)
    pub few : accepted k ≤ k.mark + left + right + b.since

  -- a forget of frame f
  module _ (b : Ledger) (k : Machine) (v : Known b k) where
    lowest : (f : ℕ) → min f b.clear ≤ foldl min (min f k.next) (frames_of k.changes.waiting)
    lowest f =
        let c = v.clear_below in
        lowest_over (min f b.clear) (min f k.next) (frames_of k.changes.waiting) (omega arith) (above_lower b.clear (min f b.clear) _ (omega arith) v.clear_above)

    forget_few : (f : ℕ) → accepted k ≤ forgotten left k.next k.mark (frames_of k.changes.waiting) f + left + right + (entered right b (forget f)).since
    unfolding forgotten entered
    forget_few f =
        let e = v.frames_are in
        let n = v.few in
        few-by (leb b.frames (min f b.clear + right)) (accepted k) _ b.since (λ q. omega (arith, lowest f, leb-true b.frames (min f b.clear + right) q)) (omega arith)

    changed_above : (fs : List ℕ) (ws : List Float) → Above (foldl min b.clear fs) (frames_of (changed k.changes fs ws).waiting)
    unfolding changed
    changed_above fs ws =
        let given : List Change = build (length fs) (λ j. (get_or fs j 0, at ws j)) in
        let frames_are : frames_of given ≡ fs = map-build (λ (c : Change). c.0) (length fs) (λ j. (get_or fs j 0, at ws j)) ∙ build_list 0 fs in
        inserts_none (λ g. ltb g (foldl min b.clear fs)) k.changes.waiting given (ap (any_of (λ g. ltb g (foldl min b.clear fs))) frames_are ∙ lowest_above b.clear fs)
        (above_lower b.clear (foldl min b.clear fs) _ (lowest_under b.clear fs) v.clear_above)

    fetched_from : (f : ℕ) → Known (if leb b.next f then ledger b.frames (f + 1) (f + 1) b.since else b) (caught_up M k f)
    unfolding caught_up reached
    fetched_from f =
        by-test (leb b.next f)
        (λ q. let q' : leb k.next f ≡ true = ap (λ (n : ℕ). leb n f) (sym v.next_is) ∙ q in
        rw (q, q') (record { frames_are = v.frames_are; next_is = refl; clear_below = omega arith; clear_above = those-above f k.changes.waiting; few = v.few }))
        (λ q. let q' : leb k.next f ≡ false = ap (λ (n : ℕ). leb n f) (sym v.next_is) ∙ q in rw (q, q') v)

  known_left : (r : ℕ) (b : Ledger) (k : Machine) (c : Call) → (does M z k c).refusal ≡ r → Known b k → Known (taken r (entered right b c) b) (taken r (does M z k c).left k)
  unfolding does entered
  known_left (suc r) b k c e v = v
  known_left zero b k (push x) e v =
      let l = length-append k.history (x ∷ []) in
      let n = v.few in
      let a = v.frames_are in
      record { frames_are = omega arith; next_is = v.next_is; clear_below = v.clear_below; clear_above = v.clear_above; few = omega arith }
  known_left zero b k finish e v = record { frames_are = v.frames_are; next_is = v.next_is; clear_below = v.clear_below; clear_above = v.clear_above; few = v.few }
  known_left zero b k (change fs ws) e v =
      let c = v.clear_below in
      record {
        frames_are = v.frames_are;
        next_is = v.next_is;
        clear_below = omega (arith, lowest_under b.clear fs);
        clear_above = changed_above b k v fs ws;
        few = v.few;
      }
  known_left zero b k (forget f) e v =
      record { frames_are = v.frames_are; next_is = v.next_is; clear_below = v.clear_below; clear_above = v.clear_above; few = forget_few b k v f }
  known_left zero b k (set_window w) e v = record { frames_are = v.frames_are; next_is = v.next_is; clear_below = v.clear_below; clear_above = v.clear_above; few = v.few }
  known_left zero b k (fetch f n) e v = fetched_from b k v f

  no_14 : (L : ℕ) → L + left + right ≤ F → (b : Ledger) (k : Machine) → Known b k → (c : Call) → may_come L b c ≡ true → (does M z k c).refusal ≡ 14 → ⊥
  unfolding does change_tests window_tests fetch_tests may_come
  no_14 L w b k v (push x) p e = omega (arith, v.few, ltb-true b.since L p, push_14 k x e)
  no_14 L w b k v finish p e = first-not 14 [] (omega arith) tt e
  no_14 L w b k v (change fs ws) p e = first-not 14 _ (omega arith) (omega arith, (omega arith, (omega arith, (omega arith, (omega arith, tt))))) e
  no_14 L w b k v (forget f) p e = first-not 14 [] (omega arith) tt e
  no_14 L w b k v (set_window x) p e = first-not 14 _ (omega arith) (omega arith, (omega arith, tt)) e
  no_14 L w b k v (fetch f m) p e = first-not 14 _ (omega arith) (omega arith, (omega arith, (omega arith, tt))) e

  frames_from : (L : ℕ) → L + left + right ≤ F → (b : Ledger) (k : Machine) → Known b k → (cs : List Call) → in_habit L right b cs (answers_from M z k cs) ≡ true → Never 14 (answers_from M z k cs)
  unfolding answers_from any_of answer told_by in_habit
  frames_from L w b k v [] p = refl
  frames_from L w b k v (c ∷ cs) p =
      let y = does M z k c in
      let h = and_holds (may_come L b c) (in_habit L right (taken y.refusal (entered right b c) b) cs (answers_from M z (moved k y) cs)) p in
      or_none _ _ (ne_eqb _ _ (no_14 L w b k v c h.0)) (frames_from L w (taken y.refusal (entered right b c) b) (moved k y) (known_left y.refusal b k c refl v) cs h.1)

  pub rows_of : (u : ℕ) → M.info.opts.cmn_window ≤ u → F + u ≤ R → (cs : List Call) → all_of (λ c. leb (window_of c) u) cs ≡ true → Never 15 (answers M z cs)
  unfolding answers fresh
  rows_of u h w cs p = rows_from u w (fresh M) (omega arith) (h, h) cs p

  pub frames-of : (L : ℕ) → L + left + right ≤ F → (cs : List Call) → in_habit L right (ledger 0 0 0 0) cs (answers M z cs) ≡ true → Never 14 (answers M z cs)
  unfolding answers fresh any_of
  frames-of L w cs p =
      frames_from L w (ledger 0 0 0 0) (fresh M) (record { frames_are = refl; next_is = refl; clear_below = omega arith; clear_above = refl; few = omega arith }) cs p

  -- after a forget
  pub held_from : (k : Machine) (f : ℕ) → f ≤ k.next → Above f (frames_of k.changes.waiting)
      → accepted k - forgotten left k.next k.mark (frames_of k.changes.waiting) f ≤ accepted k - f + left
  unfolding forgotten
  held_from k f h e = omega (arith, lowest_over f (min f k.next) (frames_of k.changes.waiting) (omega arith) e)

-- ---- the program

module _ (i : IvectorInfo) (t : Tables) (s : Played i t) where
  abbrev M' : Model
  M' = model_in i t

  answers_are : played_answers i t s ≡ answers M' (ring_lengths_of s.lent.rings) s.calls
  answers_are = (keeps.keeps i t s.lent s.scratch s.made s.made_is s.calls).1

  rows_there : (u : ℕ) → i.opts.cmn_window ≤ u → all_of (λ c. leb (window_of c) u) s.calls ≡ true → EnoughRows i s.lent u → Never 15 (played_answers i t s)
  rows_there u h p w = subst (Never 15) (sym answers_are) (rows_of M' (ring_lengths_of s.lent.rings) u h w s.calls p)

  frames_there : (L : ℕ) → EnoughFrames i s.lent L
      → in_habit L i.opts.right_context (ledger 0 0 0 0) s.calls (played_answers i t s) ≡ true → Never 14 (played_answers i t s)
  frames_there L w p =
      subst (Never 14) (sym answers_are)
      (frames-of M' (ring_lengths_of s.lent.rings) L w s.calls (ap (in_habit L i.opts.right_context (ledger 0 0 0 0) s.calls) (sym answers_are) ∙ p))

  abbrev k : Machine
  k = machine_after M' (ring_lengths_of s.lent.rings) (fresh M') s.calls

  held_there : (f : ℕ) → f ≤ (ended i t s).stream.num_frames_stats
      → Above f (take (ended i t s).stream.waiting (ended i t s).rooms.rings.waiting_frames)
      → let q = program_after t s.scratch (ended i t s) (forget f ∷ []) in
      frames_held q.stream.accepted q.stream.mark ≤ length (took i t s) - f + i.opts.left_context
  unfolding program_after does first_of frames_held
  held_there f low above =
      let lengths : RoomLengths = room_lengths_of s.lent s.scratch in
      let b = keeps.begun i t s.lent s.scratch s.made s.made_is in
      let e = keeps.ended_is i t s.lent s.scratch s.made s.made_is s.calls in
      let m = moved_on i lengths s.scratch t b.made_is k e.0 e.2 (forget f) in
      let after : program_after t s.scratch (ended i t s) (forget f ∷ []) ≡ program (stream_of i lengths (does M' lengths.rings k (forget f)).left) m.rooms =
      ap (λ (q : Program). program_after t s.scratch q (forget f ∷ [])) e.1 ∙ m.state_is in
      let reached-there : f ≤ k.next = subst (λ (q : Program). f ≤ q.stream.num_frames_stats) e.1 low in
      let waiting-there : Above f (take (length k.changes.waiting) e.0.rings.waiting_frames) =
      subst (λ (q : Program). Above f (take q.stream.waiting q.rooms.rings.waiting_frames)) e.1 above in
      subst (λ (q : Program). q.stream.accepted - q.stream.mark ≤ length (took i t s) - f + i.opts.left_context) (sym after)
      (subst (λ (h : List (List Float)). accepted k - forgotten i.opts.left_context k.next k.mark (frames_of k.changes.waiting) f ≤ length h - f + i.opts.left_context) (keeps.took_is i t s.lent s.scratch s.made s.made_is s.calls)
      (held_from M' lengths.rings k f reached-there (subst (Above f) (held_are i lengths s.scratch t b.made_is k e.0 e.2) waiting-there)))

pub rows_enough : RowsEnough
rows_enough i t s u h p w = rows_there i t s u h p w

pub frames-enough : FramesEnough
frames-enough i t s L w p = frames_there i t s L w p

pub held-after-forget : HeldAfterForget
held-after-forget i t s f low above = held_there i t s f low above
