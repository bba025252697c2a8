-- The Gaussians of a selection are those of the log-likelihoods, none of them twice.
use Rattle.std.specs.Prelude.{if◌then◌else◌}
use mathlib.Core.Path.{◌≡◌, sym, ap, ◌∙◌}
use mathlib.Core.Bool.{Bool, true, false}
use mathlib.Core.List.{List, [], ◌∷◌, map, foldl}
use Prim.Native.Nat.{ℕ, zero, suc, ◌+◌, ◌≤◌, ◌<◌}
use native.Mathlib.Nat.{not-suc-le-zero, le_of_suc-le-suc, le_trans, lt_of_lt_of_le, le-suc}
use native.Mathlib.Omega.{arith}
use lib.ListN.{length, get_or, take}
use lib.Ieee.{Float, nan, eq, neg}
use Rattle.loops.specs.Lists.{build, those}
use Rattle.loops.proofs.Choose.{by-test}
use Rattle.floats.specs.Operators.{◌+₃₂◌, ◌*₃₂◌, ◌/₃₂◌, zero₃₂, one₃₂}
use Rattle.definition.specs.Posteriors.{Post, ahead, insert, sorted, or_else, pruned, every, ranked, best_of, renormalised}
use Rattle.gmm.specs.Inner.Leading.{posts_in}
use Rattle.gmm.specs.Inner.Posteriors.{Fair}
use Rattle.gmm.proofs.Sorting.{into}
use Rattle.gmm.proofs.Rooms.{length_held, held_at}

-- g is none of the list's Gaussians
pub data Differ (g : ℕ) : List Post → Type 0 where
  alone : Differ g []
  and : {p : Post} {ps : List Post} → (g ≡ p.0 → ⊥) → Differ g ps → Differ g (p ∷ ps)

-- the Gaussians are below n, and none is there twice
pub data Apart (n : ℕ) : List Post → Type 0 where
  empty : Apart n []
  more : {p : Post} {ps : List Post} → p.0 < n → Differ p.0 ps → Apart n ps → Apart n (p ∷ ps)

-- the Gaussians rise, from g or above to below n
data Rising (n : ℕ) : ℕ → List Post → Type 0 where
  over : {g : ℕ} → Rising n g []
  next : {g : ℕ} {p : Post} {ps : List Post} → g ≤ p.0 → p.0 < n → Rising n (suc p.0) ps → Rising n g (p ∷ ps)

-- ---- rising: what is inserted

module _ (n : ℕ) where
  rising_lower : {f g : ℕ} {ps : List Post} → f ≤ g → Rising n g ps → Rising n f ps
  rising_lower h over = over
  rising_lower h (next l u r) = next (le_trans h l) u r

  rising_build : (g m : ℕ) (h : ℕ → Post) → ((k : ℕ) → (h k).0 ≡ g + k) → g + m ≤ n → Rising n g (build m h)
  unfolding build
  rising_build g zero h e l = over
  rising_build g (suc m) h e l =
      let f = e 0 in
      next {g = g} {p = h 0} (omega arith) (omega arith) (rising_build (suc (h 0).0) m (λ k. h (suc k)) (λ k. omega (arith, e (suc k))) (omega arith))

  rising_those : (t : Post → Bool) {g : ℕ} {ps : List Post} → Rising n g ps → Rising n g (those t ps)
  unfolding those
  rising_those t over = over
  rising_those t (next {p = p} l u r) =
      by-test (t p) (λ e. rw e (next l u (rising_those t r))) (λ e. rw e (rising_lower (le_trans l (le-suc p.0)) (rising_those t r)))

  rising_map : (f : Post → Float) {g : ℕ} {ps : List Post} → Rising n g ps → Rising n g (map (λ p. (p.0, f p)) ps)
  rising_map f over = over
  rising_map f (next l u r) = next l u (rising_map f r)

  rising_or : {g : ℕ} {ps qs : List Post} → Rising n g ps → Rising n g qs → Rising n g (or_else ps qs)
  rising_or over s = s
  rising_or (next l u r) s = next l u r

-- ---- apart: what has been inserted

apart_wider : {m n : ℕ} {ps : List Post} → m ≤ n → Apart m ps → Apart n ps
apart_wider h empty = empty
apart_wider h (more l d a) = more (lt_of_lt_of_le l h) d (apart_wider h a)

apart_fresh : {n : ℕ} (g : ℕ) {ps : List Post} → n ≤ g → Apart n ps → Differ g ps
apart_fresh g h empty = alone
apart_fresh g h (more {p = p} l d a) = and {p = p} (λ e. omega arith) (apart_fresh g h a)

differ-insert : (g : ℕ) (p : Post) {ps : List Post} → (g ≡ p.0 → ⊥) → Differ g ps → Differ g (insert p ps)
unfolding insert
differ-insert g p h alone = and h alone
differ-insert g p h (and {p = q} f d) = by-test (ahead p q) (λ t. rw t (and h (and f d))) (λ t. rw t (and f (differ-insert g p h d)))

apart-insert : (p : Post) {ps : List Post} → Apart p.0 ps → Apart (suc p.0) (insert p ps)
unfolding insert
apart-insert p empty = more {p = p} (omega arith) alone empty
apart-insert p (more {p = q} l d a) =
    by-test (ahead p q) (λ t. rw t (more {p = p} (omega arith) (apart_fresh p.0 (omega arith) (more l d a)) (apart_wider (omega arith) (more l d a))))
    (λ t. rw t (more {p = q} (omega arith) (differ-insert q.0 p (λ e. omega arith) d) (apart-insert p a)))

apart_sort : {n g : ℕ} {ps qs : List Post} → g ≤ n → Apart g ps → Rising n g qs → Apart n (into ps qs)
apart_sort h a over = apart_wider h a
apart_sort h a (next {p = p} l u r) = apart_sort u (apart-insert p (apart_wider l a)) r

differ-take : {g : ℕ} (m : ℕ) {ps : List Post} → Differ g ps → Differ g (take m ps)
differ-take zero d = alone
differ-take (suc m) alone = alone
differ-take (suc m) (and h d) = and h (differ-take m d)

apart-take : {n : ℕ} (m : ℕ) {ps : List Post} → Apart n ps → Apart n (take m ps)
apart-take zero a = empty
apart-take (suc m) empty = empty
apart-take (suc m) (more l d a) = more l (differ-take m d) (apart-take m a)

differ-map : {g : ℕ} (f : Post → Float) {ps : List Post} → Differ g ps → Differ g (map (λ p. (p.0, f p)) ps)
differ-map f alone = alone
differ-map f (and h d) = and h (differ-map f d)

apart-map : {n : ℕ} (f : Post → Float) {ps : List Post} → Apart n ps → Apart n (map (λ p. (p.0, f p)) ps)
apart-map f empty = empty
apart-map f (more l d a) = more l (differ-map f d) (apart-map f a)

differ-at : {g : ℕ} (d : Post) (k : ℕ) {ps : List Post} → Differ g ps → k < length ps → g ≡ (get_or ps k d).0 → ⊥
differ-at d k alone l = absurd (not-suc-le-zero l)
differ-at d zero (and h r) l = h
differ-at d (suc k) (and h r) l = differ-at d k r (le_of_suc-le-suc l)

apart_below : {n : ℕ} (d : Post) (k : ℕ) {ps : List Post} → Apart n ps → k < length ps → (get_or ps k d).0 < n
apart_below d k empty l = absurd (not-suc-le-zero l)
apart_below d zero (more h e a) l = h
apart_below d (suc k) (more h e a) l = apart_below d k a (le_of_suc-le-suc l)

apart_once : {n : ℕ} (d : Post) (j k : ℕ) {ps : List Post} → Apart n ps → j < k → k < length ps → (get_or ps j d).0 ≡ (get_or ps k d).0 → ⊥
apart_once d j zero a h l = absurd (not-suc-le-zero h)
apart_once d j (suc k) empty h l = absurd (not-suc-le-zero l)
apart_once d zero (suc k) (more g e a) h l = differ-at d k e (le_of_suc-le-suc l)
apart_once d (suc j) (suc k) (more g e a) h l = apart_once d j k a (le_of_suc-le-suc h) (le_of_suc-le-suc l)

-- ---- the selection

rising_likely : (n : ℕ) (t : Bool) {ps : List Post} → Rising n 0 ps → Rising n 0 (if t then [] else ps)
rising_likely n true r = over
rising_likely n false r = r

pub best_apart : (ls : List Float) (k : ℕ) (min_post : Float) → Apart (length ls) (best_of ls k min_post)
unfolding best_of ranked sorted
best_apart ls k min_post =
    let n = length ls in
    let r : Rising n 0 (every ls) = rising_build n 0 n _ (λ k. omega arith) (omega arith) in
    apart-take k (apart_sort (omega arith) empty (rising_map n _ (rising_or n (rising_likely n (eq min_post zero₃₂) (rising_those n _ r)) r)))

pub renormalised-apart : {n : ℕ} (min_post : Float) {ps : List Post} → Apart n ps → Apart n (renormalised min_post ps)
unfolding renormalised
renormalised-apart min_post {ps} a =
    let tot = foldl (λ s p. s +₃₂ p.1) (neg zero₃₂) ps in
    let left = pruned ps (min_post *₃₂ tot) (length ps) tot in
    apart-map (λ p. p.1 *₃₂ (one₃₂ /₃₂ left.1)) (apart-take left.0 a)

-- what that says of the rooms
pub held_fair : (n r : ℕ) (chosen : List ℕ) (posts : List Float) {ps : List Post} → r ≤ length chosen → r ≤ length posts → posts_in r chosen posts ≡ ps → Apart n ps → Fair n r chosen
held_fair n r chosen posts h l e a =
    let b : Apart n (posts_in r chosen posts) = rw e a in
    let s = length_held r chosen posts h l in
    let i : (k : ℕ) → k < r → (get_or (posts_in r chosen posts) k (0, nan)).0 ≡ get_or chosen k 0 = λ k g. ap (λ (p : Post). p.0) (held_at r chosen posts h l (0, nan) k g) in
    record {
      below = λ k g. rw (← i k g) (apart_below (0, nan) k b (omega arith));
      once = λ j k g f q. apart_once (0, nan) j k b g (omega arith) (i j (omega arith) ∙ q ∙ sym (i k f));
    }
