-- Laws of the rooms that insertions and a removal write.
use mathlib.Core.Path.{◌≡◌, refl, sym, ap, ◌∙◌}
use mathlib.Core.Bool.{true}
use mathlib.Core.List.{List, [], ◌∷◌, ◌++◌, map, foldl, foldl-append, map-append}
use Prim.Native.Nat.{ℕ, suc, ◌+◌, ◌-◌, ◌≤◌, ◌<◌}
use native.Mathlib.Numerals.{add-one}
use native.Mathlib.Omega.{arith}
use lib.Dec.{leb}
use lib.ListN.{length, get_or, set, take, drop, length-map}
use Rattle.std.proofs.Common.{append_assoc}
use lib.Seq.{paste, append_snoc, set_at, length-take-le}
use lib.Ieee.{Float, nan}
use Rattle.loops.specs.Lists.{build, those, over}
use Rattle.loops.specs.Inner.{fill}
use Rattle.loops.specs.Ring.{put}
use Rattle.loops.proofs.Build.{length_build, build_part, build_snoc, take_build, drop_build, map-build}
use Rattle.loops.proofs.Fill.{fill_over, length_over, over_put, over_self, over_again, over_take, take_over}
use Rattle.loops.proofs.Parts.{take_next, length_part}
use Rattle.floats.specs.Operators.{at}
use Rattle.definition.specs.Changes.{Change, insert_change}
use Rattle.definition.specs.Stream.{rising}
use Rattle.program.specs.Rooms.{waiting_in, frames_of, weights_of}
use Rattle.stream.specs.Inner.DeltaWeights.{inserted_to}
use Rattle.program.proofs.WaitingRooms.{length_waiting, frames_waiting, waiting_over}
use Rattle.program.proofs.InOrder.{length_inserts, inserts_rising, inserted_at}

module _ {A : Type 0} (d : A) (l : List A) where
  -- one element more in front of what was put
  put_cons : (a : ℕ) (v : A) (xs : List A) → a < length l → set (put (a + 1) xs l) a v ≡ put a (v ∷ xs) l
  unfolding put
  put_cons a v xs h =
      let r : List A = xs ++ drop (a + 1 + length xs) l in
      let e : a + 1 + length xs ≡ a + suc (length xs) = omega arith in
      ap (λ (s : List A). set (s ++ r) a v) (take_next d l a h)
      ∙ ap (λ (s : List A). set s a v) (append_snoc (take a l) (get_or l a d) r)
      ∙ set_at (take a l) (get_or l a d) r v a (length-take-le a l (omega arith))
      ∙ ap (λ (k : ℕ). take a l ++ (v ∷ (xs ++ drop k l))) e

  -- ---- m places from k on, moved

  pub moved_up : (k m a : ℕ) → k + m ≤ length l → paste l a (drop k l) m ≡ put a (build m (λ j. get_or l (k + j) d)) l
  unfolding put
  moved_up k m a h =
      rw append_assoc (sym (ap (λ (s : List A). take a l ++ (s ++ drop (a + length s) l)) (build_part d k m l h) ∙ ap (λ (n : ℕ). take a l ++ (take m (drop k l) ++ drop (a + n) l)) (length_part k m l h)))

  pub moved_down : (k m : ℕ) → k + m ≤ length l → paste l 0 (drop k l) m ≡ fill m (λ j. get_or l (k + j) d) l
  unfolding fill
  moved_down k m h = let e : 0 + m ≡ m = omega arith in ap (λ (n : ℕ). take m (drop k l) ++ drop n l) e ∙ sym (ap (λ (s : List A). s ++ drop m l) (build_part d k m l h))

  module _ (n : ℕ) (h : n < length l) where
    -- and v at the place that is free then
    raised_put : (k : ℕ) (v : A) {s : List A} → k ≤ n → s ≡ put (k + 1) (build (n - k) (λ j. get_or l (k + j) d)) l
        → set s k v ≡ over (build k (λ j. get_or l j d) ++ (v ∷ build (n - k) (λ j. get_or l (k + j) d))) l
    raised_put k v {s} p e =
        let ys : List A = v ∷ build (n - k) (λ j. get_or l (k + j) d) in
        ap (λ (x : List A). set x k v) e
        ∙ put_cons k v _ (omega arith)
        ∙ ap (put k ys) (sym (over_self d k l (omega arith)))
        ∙ over_put (build k (λ j. get_or l j d)) ys l k (length_build k _)

-- ---- one insertion

module _ {A : Type 0} (h : Change → A) (g : ℕ → Change) (n : ℕ) (c : Change) (k : ℕ) (p : k ≤ n) where
  map_inserted : insert_change (build n g) c ≡ take k (build n g) ++ (c ∷ drop k (build n g)) → map h (insert_change (build n g) c) ≡ build k (λ j. h (g j)) ++ (h c ∷ build (n - k) (λ j. h (g (k + j))))
  map_inserted e =
      ap (map h) e ∙ map-append h (take k (build n g)) (c ∷ drop k (build n g))
      ∙ ap (λ (s : List A). s ++ (h c ∷ map h (drop k (build n g)))) (ap (map h) (take_build k n g p) ∙ map-build h k g)
      ∙ ap (λ (s : List A). build k (λ j. h (g j)) ++ (h c ∷ s)) (ap (map h) (drop_build k n g p) ∙ map-build h (n - k) _)

module _ (n k : ℕ) (fs : List ℕ) (ws : List Float) (c : Change) (p : k ≤ n) (o : rising 0 (take n fs) ≡ true) (e : k ≡ length (those (λ g. leb g c.0) (take n fs))) where
  at_place : n ≤ length fs → insert_change (waiting_in n fs ws) c ≡ take k (waiting_in n fs ws) ++ (c ∷ drop k (waiting_in n fs ws))
  at_place h =
      let w : frames_of (waiting_in n fs ws) ≡ take n fs = frames_waiting n fs ws h in
      inserted_at (waiting_in n fs ws) c k (rw w o) (rw w e)

  pub insert_frames : {s : List ℕ} → n < length fs → s ≡ put (k + 1) (build (n - k) (λ j. get_or fs (k + j) 0)) fs → set s k c.0 ≡ over (frames_of (insert_change (waiting_in n fs ws) c)) fs
  unfolding waiting_in
  insert_frames h q = raised_put 0 fs n h k c.0 p q ∙ ap (λ (x : List ℕ). over x fs) (sym (map_inserted (λ d. d.0) _ n c k p (at_place (omega arith))))

  pub insert_weights : {s : List Float} → n < length fs → n < length ws → s ≡ put (k + 1) (build (n - k) (λ j. at ws (k + j))) ws → set s k c.1 ≡ over (weights_of (insert_change (waiting_in n fs ws) c)) ws
  unfolding waiting_in
  insert_weights h h' q = raised_put nan ws n h' k c.1 p q ∙ ap (λ (x : List Float). over x ws) (sym (map_inserted (λ d. d.1) _ n c k p (at_place (omega arith))))

-- ---- a change call

module _ (nf : List ℕ) (nw : List Float) (xs : List Change) where
  inserted_none : xs ≡ inserted_to 0 nf nw xs
  unfolding inserted_to waiting_in build
  inserted_none = refl

  inserted_more : (i : ℕ) → inserted_to (i + 1) nf nw xs ≡ insert_change (inserted_to i nf nw xs) (get_or nf i 0, at nw i)
  unfolding inserted_to waiting_in
  inserted_more i =
      let g : ℕ → Change = λ j. (get_or nf j 0, at nw j) in
      ap (λ (k : ℕ). foldl insert_change xs (build k g)) (add-one i) ∙ ap (foldl insert_change xs) (build_snoc i g) ∙ foldl-append insert_change xs (build i g) (g i ∷ [])

-- the rooms of the loop, n changes waiting in fs₀ and ws₀ at first

module _ (nf : List ℕ) (nw : List Float) (n : ℕ) (fs₀ : List ℕ) (ws₀ : List Float) where
  abbrev pub Now : ℕ → List Change
  Now i = inserted_to i nf nw (waiting_in n fs₀ ws₀)

  -- a room of frames or of weights: before the first change, and after one more
  pub call_none : {A : Type 0} (h : Change → A) (room : List A) → n ≤ length room → map h (waiting_in n fs₀ ws₀) ≡ take n room → room ≡ over (map h (Now 0)) room
  call_none h room l e = over_take n room l (ap (map h) (sym (inserted_none nf nw (waiting_in n fs₀ ws₀))) ∙ e)

  long : (i : ℕ) → length (Now i) ≡ n + i
  unfolding inserted_to
  long i = length_inserts (waiting_in n fs₀ ws₀) (waiting_in i nf nw) ∙ omega (arith, length_waiting n fs₀ ws₀, length_waiting i nf nw)

  pub call_length : {A : Type 0} (h : Change → A) (room₀ : List A) (i : ℕ) {room : List A} → room ≡ over (map h (Now i)) room₀ → n + i ≤ length room₀ → length room ≡ length room₀
  call_length h room₀ i e l = ap length e ∙ length_over (map h (Now i)) room₀ (simp length-map (omega (arith, l, long i)))

  module _ (i : ℕ) {fs : List ℕ} {ws : List Float} (f : fs ≡ over (frames_of (Now i)) fs₀) (w : ws ≡ over (weights_of (Now i)) ws₀) where
    pub call_rising : n ≤ length fs₀ → rising 0 (take n fs₀) ≡ true → rising 0 (take (n + i) fs) ≡ true
    unfolding inserted_to
    call_rising h o =
        let e : take (n + i) fs ≡ frames_of (Now i) = ap (take (n + i)) f ∙ take_over (frames_of (Now i)) fs₀ (n + i) (simp length-map (long i)) in
        rw e (inserts_rising (waiting_in n fs₀ ws₀) (waiting_in i nf nw) (rw (frames_waiting n fs₀ ws₀ h) o))

    after : insert_change (waiting_in (n + i) fs ws) (get_or nf i 0, at nw i) ≡ Now (i + 1)
    after = rw (← long i, f, w, waiting_over (Now i) fs₀ ws₀) (sym (inserted_more nf nw (waiting_in n fs₀ ws₀) i))

    pub call_turn : {A : Type 0} (h : Change → A) (room₀ : List A) {room s : List A} → room ≡ over (map h (Now i)) room₀
        → s ≡ over (map h (insert_change (waiting_in (n + i) fs ws) (get_or nf i 0, at nw i))) room → s ≡ over (map h (Now (i + 1))) room₀
    call_turn h room₀ g e =
        e ∙ rw (after, g) (over_again (map h (Now i)) (map h (Now (i + 1))) room₀ (simp length-map (omega (arith, long i, long (i + 1)))))

-- ---- a removal of the first k

pub removed : {A : Type 0} (h : Change → A) (g : ℕ → Change) (l : List A) (n k : ℕ) → k ≤ n → fill (n - k) (λ j. h (g (k + j))) l ≡ over (map h (drop k (build n g))) l
removed h g l n k p =
    fill_over _ (n - k) l ∙ ap (λ (x : List _). over x l) (sym (ap (map h) (drop_build k n g p) ∙ map-build h (n - k) (λ j. g (k + j))))
