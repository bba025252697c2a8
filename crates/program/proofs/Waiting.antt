-- Waiting changes: that they stay in order and above the mark, and which frames a batch has.
use mathlib.Core.Path.{◌≡◌, refl}
use Prim.Native.Nat.{ℕ, zero, suc, ◌≤◌, ◌<◌, min}
use native.Mathlib.Nat.{not-suc-le-zero}
use native.Mathlib.Omega.{arith}
use mathlib.Core.Bool.{Bool, true, false}
use mathlib.Core.List.{List, [], ◌∷◌, foldl}
use lib.ListN.{length, get_or}
use lib.Dec.{leb, eqb}
use borrow.Author.Tests.{leb-true, le-leb}
use lib.Ieee.{Float, nan}
use Rattle.loops.specs.Lists.{those, any_of}
use Rattle.loops.proofs.Choose.{by-test, and_holds, and_both, or_fails, or_none}
use Rattle.definition.specs.Changes.{Change, insert_change, merged_from, merged}
use Rattle.definition.specs.Stream.{rising}
use Rattle.definition.proofs.Floor.{lowest_under}
use Rattle.program.specs.Rooms.{frames_of}

-- ---- in order

rising-from : (m n : ℕ) (fs : List ℕ) → m ≤ n → rising n fs ≡ true → rising m fs ≡ true
unfolding rising
rising-from m n [] h e = refl
rising-from m n (f ∷ fs) h e =
    let a = and_holds (leb n f) (rising f fs) e in
    and_both (leb m f) (rising f fs) (le-leb m f (omega (arith, leb-true n f a.0))) a.1

pub those-rising : (p : Change → Bool) (m : ℕ) (ds : List Change) → rising m (frames_of ds) ≡ true → rising m (frames_of (those p ds)) ≡ true
unfolding rising those
those-rising p m [] e = refl
those-rising p m (d ∷ ds) e =
    let a = and_holds (leb m d.0) (rising d.0 (frames_of ds)) e in
    by-test (p d)
    (λ t. rw t (and_both (leb m d.0) _ a.0 (those-rising p d.0 ds a.1)))
    (λ t. rw t (rising-from m d.0 (frames_of (those p ds)) (leb-true _ _ a.0) (those-rising p d.0 ds a.1)))

-- ---- a test that no frame meets

module _ (p : ℕ → Bool) where
  any_cons : (f : ℕ) (fs : List ℕ) → any_of p (f ∷ fs) ≡ false → (p f ≡ false) × (any_of p fs ≡ false)
  unfolding any_of
  any_cons f fs e = or_fails (p f) (any_of p fs) e

  pub insert-none : (ds : List Change) (c : Change) → p c.0 ≡ false → any_of p (frames_of ds) ≡ false → any_of p (frames_of (insert_change ds c)) ≡ false
  unfolding any_of insert_change
  insert-none [] c h e = or_none (p c.0) false h refl
  insert-none (d ∷ ds) c h e =
      let a = or_fails (p d.0) (any_of p (frames_of ds)) e in
      by-test (leb d.0 c.0) (λ t. rw t (or_none (p d.0) _ a.0 (insert-none ds c h a.1))) (λ t. rw t (or_none (p c.0) _ h e))

  pub inserts_none : (ds cs : List Change) → any_of p (frames_of cs) ≡ false → any_of p (frames_of ds) ≡ false → any_of p (frames_of (foldl insert_change ds cs)) ≡ false
  inserts_none ds [] h e = e
  inserts_none ds (c ∷ cs) h e = let a = any_cons c.0 (frames_of cs) h in inserts_none (insert_change ds c) cs a.1 (insert-none ds c a.0 e)

  pub those_none : (q : Change → Bool) (ds : List Change) → any_of p (frames_of ds) ≡ false → any_of p (frames_of (those q ds)) ≡ false
  unfolding any_of those
  those_none q [] e = refl
  those_none q (d ∷ ds) e =
      let a = or_fails (p d.0) (any_of p (frames_of ds)) e in
      by-test (q d) (λ t. rw t (or_none (p d.0) _ a.0 (those_none q ds a.1))) (λ t. rw t (those_none q ds a.1))

-- ---- the lowest

pub lowest_at : (a : ℕ) (fs : List ℕ) (k : ℕ) → k < length fs → foldl min a fs ≤ get_or fs k 0
lowest_at a [] k h = absurd (not-suc-le-zero h)
lowest_at a (f ∷ fs) zero h = omega (arith, lowest_under (min a f) fs)
lowest_at a (f ∷ fs) (suc k) h = lowest_at (min a f) fs k (omega arith)

-- ---- merging: no frame but those of the changes

module _ (P : ℕ → Type 0) where
  abbrev pub Each : List Change → Type 0
  Each [] = Unit {0}
  Each (c ∷ cs) = P c.0 × Each cs

  merged_from_is : (t : ℕ) (w : Float) (cs : List Change) → P t → Each cs → Each (merged_from t w cs)
  unfolding merged_from
  merged_from_is t w [] p h = (p, tt)
  merged_from_is t w (c ∷ cs) p h =
      by-test (eqb c.0 t) (λ e. rw e (merged_from_is c.0 _ cs h.0 h.1)) (λ e. rw e (p, merged_from_is c.0 _ cs h.0 h.1))

  pub merged_each : (cs : List Change) → Each cs → Each (merged cs)
  unfolding merged
  merged_each [] h = tt
  merged_each (c ∷ cs) h = merged_from_is c.0 c.1 cs h.0 h.1

  pub those_each : (q : Change → Bool) (cs : List Change) → ((k : ℕ) → k < length cs → q (get_or cs k (0, nan)) ≡ true → P (get_or cs k (0, nan)).0) → Each (those q cs)
  unfolding those
  those_each q [] h = tt
  those_each q (c ∷ cs) h =
      let rest = those_each q cs (λ k l. h (suc k) (omega arith)) in
      by-test (q c) (λ e. rw e (h 0 (omega arith) e, rest)) (λ e. rw e rest)
