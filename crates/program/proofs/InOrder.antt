-- Waiting changes are in order and stay so; in order, those up to a frame are the first ones.
use mathlib.Core.Path.{◌≡◌, refl, sym, ap, ◌∙◌}
use mathlib.Core.Bool.{true}
use mathlib.Core.List.{List, [], ◌∷◌, ◌++◌, foldl}
use Prim.Native.Nat.{ℕ, zero, suc, ◌+◌, ◌-◌, ◌≤◌, ◌<◌}
use native.Mathlib.Nat.{not-suc-le-zero, le_of_suc-le-suc}
use native.Mathlib.Omega.{arith}
use lib.Dec.{leb, ltb}
use lib.ListN.{length, get_or, take, drop, length-map}
use lib.Seq.{length-take-le, get_or-take}
use lib.Ieee.{Float}
use borrow.Author.Tests.{leb-true, leb-false, le-leb, lt-leb, le-ltb, lt-ltb}
use Rattle.loops.specs.Lists.{those}
use Rattle.loops.proofs.Choose.{by-test, and_holds}
use Rattle.loops.proofs.Tests.{those_take, those-map}
use Rattle.definition.specs.Changes.{Change, insert_change}
use Rattle.definition.specs.Stream.{rising}
use Rattle.program.specs.Rooms.{waiting_in, frames_of}
use Rattle.program.proofs.WaitingRooms.{frames_waiting, take_waiting}

-- ---- by index

rising-from : (m : ℕ) (xs : List ℕ) (j : ℕ) → rising m xs ≡ true → j < length xs → m ≤ get_or xs j 0
unfolding rising
rising-from m [] j o l = absurd (not-suc-le-zero l)
rising-from m (x ∷ xs) zero o l = leb-true m x (and_holds (leb m x) (rising x xs) o).0
rising-from m (x ∷ xs) (suc j) o l =
    let h = and_holds (leb m x) (rising x xs) o in omega (arith, leb-true m x h.0, rising-from x xs j h.1 (le_of_suc-le-suc l))

rising-at : (m : ℕ) (xs : List ℕ) (i j : ℕ) → rising m xs ≡ true → i ≤ j → j < length xs → get_or xs i 0 ≤ get_or xs j 0
unfolding rising
rising-at m [] i j o p l = absurd (not-suc-le-zero l)
rising-at m (x ∷ xs) zero zero o p l = omega arith
rising-at m (x ∷ xs) zero (suc j) o p l = rising-from x xs j (and_holds (leb m x) (rising x xs) o).1 (le_of_suc-le-suc l)
rising-at m (x ∷ xs) (suc i) zero o p l = absurd (not-suc-le-zero p)
rising-at m (x ∷ xs) (suc i) (suc j) o p l = rising-at x xs i j (and_holds (leb m x) (rising x xs) o).1 (le_of_suc-le-suc p) (le_of_suc-le-suc l)

-- ---- the search from the back for how many are up to f

module _ (l : List ℕ) (n f : ℕ) where
  abbrev pub Above : ℕ → Type 0
  Above k = (i : ℕ) → k ≤ i → i < n → f < get_or l i 0

module _ (l : List ℕ) (n f : ℕ) (h : n ≤ length l) where
  first_ones : (k : ℕ) → k ≤ n → ((i : ℕ) → i < k → get_or l i 0 ≤ f) → Above l n f k → k ≡ length (those (λ g. leb g f) (take n l))
  first_ones k p low high =
      let e : length (take n l) ≡ n = length-take-le n l h in
      sym (length-take-le k (take n l) (omega arith))
      ∙ ap length
      (sym (those_take (λ g. leb g f) 0 (take n l) k
      (λ i q r. rw (get_or-take n l i 0 (omega arith)) (le-leb (get_or l i 0) f (low i q)))
      (λ i q r. rw (get_or-take n l i 0 (omega arith)) (lt-leb (get_or l i 0) f (high i q (omega arith))))))

  pub found_last : (k : ℕ) → rising 0 (take n l) ≡ true → 0 < k → k ≤ n → get_or l (k - 1) 0 ≤ f → Above l n f k → k ≡ length (those (λ g. leb g f) (take n l))
  found_last k o z p g a =
      first_ones k p
      (λ i q.
      let e : get_or (take n l) i 0 ≡ get_or l i 0 = get_or-take n l i 0 (omega arith) in
      let e' : get_or (take n l) (k - 1) 0 ≡ get_or l (k - 1) 0 = get_or-take n l (k - 1) 0 (omega arith) in
      omega (arith, e, e', rising-at 0 (take n l) i (k - 1) o (omega arith) (omega (arith, length-take-le n l h)))) a

  pub found_none : (k : ℕ) → k ≤ 0 → Above l n f k → 0 ≡ length (those (λ g. leb g f) (take n l))
  found_none k z a = let e : k ≡ 0 = omega arith in first_ones 0 (omega arith) (λ i q. absurd (omega arith)) (rw e at a)

-- ---- those up to f, and those above it

module _ (f : ℕ) where
  none_early : (m : ℕ) (xs : List Change) → f < m → rising m (frames_of xs) ≡ true → those (λ d. leb d.0 f) xs ≡ []
  unfolding those rising
  none_early m [] l o = refl
  none_early m (d ∷ ds) l o =
      let h = and_holds (leb m d.0) (rising d.0 (frames_of ds)) o in
      let q : f < d.0 = omega (arith, leb-true m d.0 h.0) in
      rw (lt-leb d.0 f q) (none_early d.0 ds q h.1)

  all_late : (m : ℕ) (xs : List Change) → f < m → rising m (frames_of xs) ≡ true → those (λ d. ltb f d.0) xs ≡ xs
  unfolding those rising
  all_late m [] l o = refl
  all_late m (d ∷ ds) l o =
      let h = and_holds (leb m d.0) (rising d.0 (frames_of ds)) o in
      let q : f < d.0 = omega (arith, leb-true m d.0 h.0) in
      rw (lt-ltb f d.0 q) (ap (λ (s : List Change). d ∷ s) (all_late d.0 ds q h.1))

  early_first : (m : ℕ) (xs : List Change) → rising m (frames_of xs) ≡ true → those (λ d. leb d.0 f) xs ≡ take (length (those (λ d. leb d.0 f) xs)) xs
  unfolding those rising
  early_first m [] o = refl
  early_first m (d ∷ ds) o =
      let h = and_holds (leb m d.0) (rising d.0 (frames_of ds)) o in
      by-test (leb d.0 f) (λ t. rw t (ap (λ (s : List Change). d ∷ s) (early_first d.0 ds h.1)))
      (λ t. rw (t, none_early d.0 ds (leb-false d.0 f t) h.1))

  late_rest : (m : ℕ) (xs : List Change) → rising m (frames_of xs) ≡ true → those (λ d. ltb f d.0) xs ≡ drop (length (those (λ d. leb d.0 f) xs)) xs
  unfolding those rising
  late_rest m [] o = refl
  late_rest m (d ∷ ds) o =
      let h = and_holds (leb m d.0) (rising d.0 (frames_of ds)) o in
      by-test (leb d.0 f) (λ t. rw (t, le-ltb f d.0 (leb-true d.0 f t)) (late_rest d.0 ds h.1))
      (λ t.
      let q : f < d.0 = leb-false d.0 f t in
      rw (t, lt-ltb f d.0 q, none_early d.0 ds q h.1) (ap (λ (s : List Change). d ∷ s) (all_late d.0 ds q h.1)))

  -- k is how many frames are up to f
  count_is : (xs : List Change) (k : ℕ) → k ≡ length (those (λ g. leb g f) (frames_of xs)) → k ≡ length (those (λ (d : Change). leb d.0 f) xs)
  count_is xs k e = e ∙ ap length (those-map (λ (d : Change). d.0) (λ g. leb g f) xs) ∙ simp length-map

  -- n changes wait in two rooms, k of them up to f: what a fetch of f brings in, and what it leaves
  module _ (n k : ℕ) (fs : List ℕ) (ws : List Float) (h : n ≤ length fs) (o : rising 0 (take n fs) ≡ true) (e : k ≡ length (those (λ g. leb g f) (take n fs))) where
    held_rising : rising 0 (frames_of (waiting_in n fs ws)) ≡ true
    held_rising = rw (frames_waiting n fs ws h) o

    held_count_is : k ≡ length (those (λ (d : Change). leb d.0 f) (waiting_in n fs ws))
    held_count_is = count_is (waiting_in n fs ws) k (rw (frames_waiting n fs ws h) e)

    pub waiting_early : k ≤ n → those (λ d. leb d.0 f) (waiting_in n fs ws) ≡ waiting_in k fs ws
    waiting_early l = early_first 0 (waiting_in n fs ws) held_rising ∙ ap (λ (j : ℕ). take j (waiting_in n fs ws)) (sym held_count_is) ∙ take_waiting n fs ws k l

    pub waiting_late : those (λ d. ltb f d.0) (waiting_in n fs ws) ≡ drop k (waiting_in n fs ws)
    waiting_late = late_rest 0 (waiting_in n fs ws) held_rising ∙ ap (λ (j : ℕ). drop j (waiting_in n fs ws)) (sym held_count_is)

-- ---- an insertion

length-insert : (xs : List Change) (c : Change) → length (insert_change xs c) ≡ length xs + 1
unfolding insert_change
length-insert [] c = refl
length-insert (d ∷ ds) c = by-test (leb d.0 c.0) (λ t. rw t (omega (arith, length-insert ds c))) (λ t. rw t (omega arith))

insert-rising : (m : ℕ) (xs : List Change) (c : Change) → m ≤ c.0 → rising m (frames_of xs) ≡ true → rising m (frames_of (insert_change xs c)) ≡ true
unfolding insert_change rising
insert-rising m [] c l o = rw (le-leb m c.0 l)
insert-rising m (d ∷ ds) c l o =
    let h = and_holds (leb m d.0) (rising d.0 (frames_of ds)) o in
    by-test (leb d.0 c.0) (λ t. rw (t, h.0) (insert-rising d.0 ds c (leb-true d.0 c.0 t) h.1))
    (λ t.
    let q : c.0 ≤ d.0 = omega (arith, leb-false d.0 c.0 t) in
    rw (t, le-leb m c.0 l, le-leb c.0 d.0 q) h.1)

-- one after the other
pub length_inserts : (xs cs : List Change) → length (foldl insert_change xs cs) ≡ length xs + length cs
length_inserts xs [] = omega arith
length_inserts xs (c ∷ cs) = length_inserts (insert_change xs c) cs ∙ omega (arith, length-insert xs c)

pub inserts_rising : (xs cs : List Change) → rising 0 (frames_of xs) ≡ true → rising 0 (frames_of (foldl insert_change xs cs)) ≡ true
inserts_rising xs [] o = o
inserts_rising xs (c ∷ cs) o = inserts_rising (insert_change xs c) cs (insert-rising 0 xs c (omega arith) o)

inserted_first : (m : ℕ) (xs : List Change) (c : Change) → rising m (frames_of xs) ≡ true
    → insert_change xs c ≡ take (length (those (λ d. leb d.0 c.0) xs)) xs ++ (c ∷ drop (length (those (λ d. leb d.0 c.0) xs)) xs)
unfolding insert_change those rising
inserted_first m [] c o = refl
inserted_first m (d ∷ ds) c o =
    let h = and_holds (leb m d.0) (rising d.0 (frames_of ds)) o in
    by-test (leb d.0 c.0) (λ t. rw t (ap (λ (s : List Change). d ∷ s) (inserted_first d.0 ds c h.1)))
    (λ t. rw (t, none_early c.0 d.0 ds (leb-false d.0 c.0 t) h.1))

-- behind the k that are up to its frame
pub inserted_at : (xs : List Change) (c : Change) (k : ℕ) → rising 0 (frames_of xs) ≡ true → k ≡ length (those (λ g. leb g c.0) (frames_of xs)) → insert_change xs c ≡ take k xs ++ (c ∷ drop k xs)
inserted_at xs c k o e = inserted_first 0 xs c o ∙ ap (λ (j : ℕ). take j xs ++ (c ∷ drop j xs)) (sym (count_is c.0 xs k e))
