-- A host that hears utterance after utterance has every frame taken: `all-taken`. Where an utterance begins (`Begins`) at most the contexts are held, so its
-- pushes find room (`pushes`); then the last ready frame is fetched (`fetched_on_is`), and a forget lets go all but the contexts (`forgotten_on`).
use Rattle.std.specs.Prelude.{if◌then◌else◌}
use mathlib.Core.Path.{◌≡◌, refl, sym, ap, ◌∙◌}
use mathlib.Core.Bool.{Bool, true, false, not, ◌&&◌}
use Prim.Native.Nat.{ℕ, ◌+◌, ◌-◌, ◌≤◌, ◌<◌, min}
use native.Mathlib.Omega.{arith}
use mathlib.Core.List.{List, [], ◌∷◌, ◌++◌, map, foldl, flatten, append-nil, append_assoc}
use lib.ListN.{length, length-append}
use lib.Dec.{eqb, leb, ltb}
use lib.Ieee.{Float}
use lib.Ieee.Scale.{finite}
use borrow.Author.Tests.{leb-true, leb-false, ne_eqb, eq-eqb, not-true}
use Rattle.loops.specs.Lists.{those, any_of, all_of}
use Rattle.loops.specs.Refusal.{first_of}
use Rattle.loops.specs.Ring.{rows_in}
use Rattle.loops.proofs.Choose.{by-test, and_holds}
use Rattle.loops.proofs.Refusal.{first-none, first_past, first-here, taken_new, taken_old}
use Rattle.definition.specs.declared.RingLengths.{RingLengths}
use Rattle.definition.specs.Model.{Model, model_in}
use Rattle.definition.specs.Changes.{Change, Changes, reached}
use Rattle.definition.specs.Machine.{Call, push, forget, fetch, Machine, moved, accepted, frames_held, rows_held, frames_ready, forgotten, longest_from, push_tests, fetch_tests, fresh, caught_up, does, machine_after}
use Rattle.program.specs.Rooms.{ring_lengths_of}
use Rattle.program.specs.Habit.{hears, proper, AllTaken}
use Rattle.program.proofs.Keeps as keeps

module _ (M : Model) (z : RingLengths) where
  abbrev dim : ℕ
  dim = M.info.dims.base_dim

  abbrev F : ℕ
  F = rows_in z.frames dim

  abbrev R : ℕ
  R = rows_in z.rows dim

  abbrev left : ℕ
  left = M.info.opts.left_context

  abbrev right : ℕ
  right = M.info.opts.right_context

  abbrev n : ℕ
  n = M.info.dims.ivector_dim

  -- ---- pushes

  -- the machine with frames more
  after : Machine → List (List Float) → Machine
  after k [] = k
  after k (x ∷ xs) = after (does M z k (push x)).left xs

  record Pushed (xs : List (List Float)) (k k' : Machine) : Type 0 where
    history_is : k'.history ≡ k.history ++ xs
    changes_are : k'.changes ≡ k.changes
    finished_is : k'.finished ≡ k.finished
    mark_is : k'.mark ≡ k.mark
    window_is : k'.window ≡ k.window
    longest_is : k'.longest ≡ k.longest

  pushed : (xs : List (List Float)) (k : Machine) → Pushed xs k (after k xs)
  unfolding after does
  pushed [] k = record { history_is = sym (append-nil k.history); changes_are = refl; finished_is = refl; mark_is = refl; window_is = refl; longest_is = refl }
  pushed (x ∷ xs) k =
      let h : Pushed xs (does M z k (push x)).left (after (does M z k (push x)).left xs) = pushed xs (does M z k (push x)).left in
      record {
        history_is = h.history_is ∙ append_assoc k.history (x ∷ []) xs;
        changes_are = h.changes_are;
        finished_is = h.finished_is;
        mark_is = h.mark_is;
        window_is = h.window_is;
        longest_is = h.longest_is;
      }

  module _ (rows : F + M.info.opts.cmn_window ≤ R) where
    push_taken : (k : Machine) (x : List Float) → proper dim x ≡ true → accepted k < 1000000000 → accepted k < k.mark + F → k.mark ≤ accepted k → k.longest ≡ M.info.opts.cmn_window → (does M z k (push x)).refusal ≡ 0
    unfolding does push_tests frames_held rows_held
    push_taken k x p few room low long =
        let h = and_holds (eqb (length x) dim) (not (any_of (λ v. not (finite v)) x)) p in
        let frames : accepted k - k.mark ≡ F → ⊥ = omega arith in
        let more : accepted k + 1 - (k.mark + 1 - k.longest) ≡ R → ⊥ = omega arith in
        sym (first-none _ (ap not h.0, (not-true _ h.1, (ne_eqb (accepted k) 1000000000 (omega arith), (ne_eqb _ _ frames, (ne_eqb _ _ more, tt))))))

    pushes : (xs : List (List Float)) (k : Machine) (cs : List Call) → all_of (proper dim) xs ≡ true → accepted k + length xs ≤ 1000000000
        → accepted k + length xs ≤ k.mark + F → k.mark ≤ accepted k → k.longest ≡ M.info.opts.cmn_window → machine_after M z k (map push xs ++ cs) ≡ machine_after M z (after k xs) cs
    unfolding all_of machine_after after does
    pushes [] k cs p few room low long = refl
    pushes (x ∷ xs) k cs p few room low long =
        let q = and_holds (proper dim x) (all_of (proper dim) xs) p in
        let l = length-append k.history (x ∷ []) in
        ap (λ (k' : Machine). machine_after M z k' (map push xs ++ cs)) (taken_new (does M z k (push x)).refusal (does M z k (push x)).left k (push_taken k x q.0 (omega arith) (omega arith) low long))
        ∙ pushes xs (does M z k (push x)).left cs q.1 (omega arith) (omega arith) (omega arith) long

  -- ---- a fetch of the last ready frame

  -- no change was made, no window set, and the input goes on
  record Plain (k : Machine) : Type 0 where
    none_waits : k.changes.waiting ≡ []
    not_called : k.changes.called ≡ false
    not_finished : k.finished ≡ false
    window_is : k.window ≡ M.info.opts.cmn_window
    longest_is : k.longest ≡ M.info.opts.cmn_window

  plain_on : (k k' : Machine) → Plain k → k'.changes ≡ k.changes → k'.finished ≡ k.finished → k'.window ≡ k.window → k'.longest ≡ k.longest → Plain k'
  plain_on k k' v c f w l =
      record {
        none_waits = ap (λ (x : Changes). x.waiting) c ∙ v.none_waits;
        not_called = ap (λ (x : Changes). x.called) c ∙ v.not_called;
        not_finished = f ∙ v.not_finished;
        window_is = w ∙ v.window_is;
        longest_is = l ∙ v.longest_is;
      }

  record Fetched (m : ℕ) (k k' : Machine) : Type 0 where
    plain : Plain k'
    history_is : k'.history ≡ k.history
    mark_is : k'.mark ≡ k.mark
    next_is : m - right ≤ k'.next

  module _ (m : ℕ) (k : Machine) (frames_are : accepted k ≡ m) (v : Plain k) where
    abbrev f : ℕ
    f = m - (right + 1)

    caught : m - right ≤ f + 1 → Fetched m k (caught_up M k f)
    unfolding caught_up reached those
    caught h =
        by-test (leb k.next f)
        (λ q. rw q
        (record {
          plain = record { none_waits = ap (those (λ d. ltb f d.0)) v.none_waits; not_called = v.not_called; not_finished = v.not_finished; window_is = v.window_is; longest_is = v.longest_is };
          history_is = refl;
          mark_is = refl;
          next_is = h;
        }))
        (λ q. rw q (record { plain = v; history_is = refl; mark_is = refl; next_is = omega (arith, leb-false k.next f q) }))

    ready_is : frames_ready M.info.opts k.finished (accepted k) ≡ m - right
    unfolding frames_ready
    ready_is = rw (v.not_finished, frames_are)

    -- the third test: no change was made
    no_22 : (a b : Bool) → (a && k.changes.called && b) ≡ false
    no_22 a b = by-test a (λ q. rw (q, v.not_called)) (λ q. rw q)

    abbrev ready : Bool
    ready = leb (frames_ready M.info.opts k.finished (accepted k)) f

    fetch_taken : ready ≡ false → (does M z k (fetch f n)).refusal ≡ 0
    unfolding does fetch_tests
    fetch_taken q = sym (first-none _ (ap not (eq-eqb n n refl), (q, (no_22 (leb k.next f) (leb k.changes.past_highest f), tt))))

    fetch_early : ready ≡ true → (does M z k (fetch f n)).refusal ≡ 21
    unfolding does fetch_tests
    fetch_early q = first_past _ _ (ap not (eq-eqb n n refl)) ∙ first-here _ _ q

    caught_on : ready ≡ false → moved k (does M z k (fetch f n)) ≡ caught_up M k f
    unfolding does
    caught_on q = taken_new _ _ k (fetch_taken q)

    fetched_on_is : Fetched m k (moved k (does M z k (fetch f n)))
    fetched_on_is =
        by-test ready
        (λ q. let no : (does M z k (fetch f n)).refusal ≡ 0 → ⊥ = λ h. omega (arith, h, fetch_early q) in
        let e : moved k (does M z k (fetch f n)) ≡ k = taken_old (does M z k (fetch f n)).refusal (does M z k (fetch f n)).left k no in
        rw e (record { plain = v; history_is = refl; mark_is = refl; next_is = omega (arith, ready_is, leb-true (frames_ready M.info.opts k.finished (accepted k)) f q) }))
        (λ q. let e : moved k (does M z k (fetch f n)) ≡ caught_up M k f = caught_on q in rw e (caught (omega (arith, ready_is, leb-false (frames_ready M.info.opts k.finished (accepted k)) f q))))

  -- ---- an utterance begins

  record Begins (m : ℕ) (k : Machine) : Type 0 where
    plain : Plain k
    frames_are : accepted k ≡ m
    low : k.mark ≤ accepted k
    few : m ≤ k.mark + left + right

  either : (t : Bool) (a b w : ℕ) → a ≡ w → b ≡ w → (if t then a else b) ≡ w
  either true a b w h g = h
  either false a b w h g = g

  forgotten_on : (m : ℕ) (k : Machine) → accepted k ≡ m → k.mark ≤ m → Plain k → m - right ≤ k.next
      → Begins m (moved k (does M z k (forget m))) × ((moved k (does M z k (forget m))).history ≡ k.history)
  unfolding does first_of forgotten longest_from
  forgotten_on m k e low v h =
      let none : foldl min (min m k.next) (map (λ c. c.0) k.changes.waiting) ≡ min m k.next = ap (λ (ws : List Change). foldl min (min m k.next) (map (λ c. c.0) ws)) v.none_waits in
      let plain : Plain (moved k (does M z k (forget m))) =
      record {
        none_waits = v.none_waits;
        not_called = v.not_called;
        not_finished = v.not_finished;
        window_is = v.window_is;
        longest_is = either (ltb k.mark (forgotten left k.next k.mark (map (λ c. c.0) k.changes.waiting) m)) k.window k.longest M.info.opts.cmn_window v.window_is v.longest_is;
      } in
      (record { plain = plain; frames_are = e; low = omega arith; few = omega arith }, refl)

  -- ---- utterance after utterance

  module _ (L : ℕ) (frames : L + left + right ≤ F) (rows : F + M.info.opts.cmn_window ≤ R) where
    heard_all : (us : List (List (List Float))) (m : ℕ) (k : Machine) → Begins m k → all_of (λ xs. leb (length xs) L && all_of (proper dim) xs) us ≡ true
        → m + length (flatten us) ≤ 1000000000 → (machine_after M z k (hears right n m us)).history ≡ k.history ++ flatten us
    unfolding hears flatten all_of machine_after
    heard_all [] m k b p few = sym (append-nil k.history)
    heard_all (xs ∷ us) m k b p few =
        let q = and_holds (leb (length xs) L && all_of (proper dim) xs) (all_of (λ xs. leb (length xs) L && all_of (proper dim) xs) us) p in
        let r = and_holds (leb (length xs) L) (all_of (proper dim) xs) q.0 in
        let short : length xs ≤ L = leb-true (length xs) L r.0 in
        let all : length (xs ++ flatten us) ≡ length xs + length (flatten us) = length-append xs (flatten us) in
        let m' : ℕ = m + length xs in
        let k₁ : Machine = after k xs in
        let h₁ : Pushed xs k k₁ = pushed xs k in
        let in₁ : accepted k₁ ≡ m' = ap length h₁.history_is ∙ length-append k.history xs ∙ ap (λ (j : ℕ). j + length xs) b.frames_are in
        let v₁ : Plain k₁ = plain_on k k₁ b.plain h₁.changes_are h₁.finished_is h₁.window_is h₁.longest_is in
        let c = fetched_on_is m' k₁ in₁ v₁ in
        let k₂ : Machine = moved k₁ (does M z k₁ (fetch (m' - (right + 1)) n)) in
        let in₂ : accepted k₂ ≡ m' = ap length c.history_is ∙ in₁ in
        let d = forgotten_on m' k₂ in₂ (omega (arith, c.mark_is, h₁.mark_is, b.low, b.frames_are)) c.plain c.next_is in
        let k₃ : Machine = moved k₂ (does M z k₂ (forget m')) in
        ap (λ (j : Machine). j.history) (pushes rows xs k (fetch (m' - (right + 1)) n ∷ forget m' ∷ hears right n m' us) r.1 (omega (arith, b.frames_are)) (omega (arith, b.frames_are, b.few)) b.low b.plain.longest_is)
        ∙ heard_all us m' k₃ d.0 q.1 (omega arith)
        ∙ ap (λ (h : List (List Float)). h ++ flatten us) (d.1 ∙ c.history_is ∙ h₁.history_is)
        ∙ append_assoc k.history xs (flatten us)

  pub heard_fresh : (L : ℕ) → L + left + right ≤ F → F + M.info.opts.cmn_window ≤ R → (us : List (List (List Float)))
      → all_of (λ xs. leb (length xs) L && all_of (proper dim) xs) us ≡ true → length (flatten us) ≤ 1000000000
      → (machine_after M z (fresh M) (hears right n 0 us)).history ≡ flatten us
  unfolding fresh
  heard_fresh L frames rows us p few =
      heard_all L frames rows us 0 (fresh M) (record { plain = record { none_waits = refl; not_called = refl; not_finished = refl; window_is = refl; longest_is = refl }; frames_are = refl; low = omega arith; few = omega arith }) p (omega arith)

pub all-taken : AllTaken
all-taken i t s L us e frames rows p few =
    let z : RingLengths = ring_lengths_of s.lent.rings in
    sym (keeps.took_is i t s.lent s.scratch s.made s.made_is s.calls)
    ∙ ap (λ (cs : List Call). (machine_after (model_in i t) z (fresh (model_in i t)) cs).history) e ∙ heard_fresh (model_in i t) z L frames rows us p few
