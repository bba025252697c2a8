-- For readers: the sorted list is in order. No posterior is ahead of the one in front of it, and so of none in front of it.
use mathlib.Core.Path.{◌≡◌, refl, sym, ◌∙◌}
use mathlib.Core.Bool.{Bool, true, false, not, ◌&&◌, ◌||◌, true≢false, false≢true}
use mathlib.Core.List.{List, [], ◌∷◌}
use Prim.Native.Nat.{ℕ, zero, suc, ◌<◌}
use native.Mathlib.Nat.{not-suc-le-zero, le_of_suc-le-suc}
use native.Mathlib.Omega.{arith}
use lib.ListN.{length, get_or, take}
use lib.Ieee.{is_nan, lt}
use Rattle.loops.proofs.Choose.{by-test}
use Rattle.loops.proofs.Folds.{foldl_keeps}
use Rattle.floats.proofs.Order.{lt_asym, not-lt_trans}
use Rattle.definition.specs.Posteriors.{Post, ahead, insert, sorted}
use Rattle.gmm.specs.Inner.Leading.{into}

-- ---- the order of posteriors

and_asym : (x y a b : Bool) → (a ≡ true → b ≡ false) → (not x && (y || a)) ≡ true → (not y && (x || b)) ≡ false
and_asym true y a b h e = absurd (false≢true e)
and_asym false true a b h e = refl
and_asym false false a b h e = h e

pub ahead_asym : (p q : Post) → ahead p q ≡ true → ahead q p ≡ false
ahead_asym p q e = and_asym (is_nan p.1) (is_nan q.1) (lt q.1 p.1) (lt p.1 q.1) (lt_asym q.1 p.1) e

and_trans : (x y z a b c : Bool) → (y ≡ false → a ≡ false → b ≡ false → c ≡ false) → (not x && (y || a)) ≡ false → (not y && (z || b)) ≡ false → (not x && (z || c)) ≡ false
and_trans true y z a b c h e f = refl
and_trans false true z a b c h e f = absurd (true≢false e)
and_trans false false true a b c h e f = absurd (true≢false f)
and_trans false false false a b c h e f = h refl e f

-- what is not ahead of one that is not ahead of a third is not ahead of that
pub not-ahead_trans : (p q r : Post) → ahead p q ≡ false → ahead q r ≡ false → ahead p r ≡ false
not-ahead_trans p q r e f =
    and_trans (is_nan p.1) (is_nan q.1) (is_nan r.1) (lt q.1 p.1) (lt r.1 q.1) (lt r.1 p.1) (λ n h k. not-lt_trans p.1 q.1 r.1 n h k) e f

-- ---- no posterior is ahead of the one in front of it

pub data Ordered : List Post → Type 0 where
  none : Ordered []
  one : {p : Post} → Ordered (p ∷ [])
  more : {p q : Post} {ps : List Post} → ahead q p ≡ false → Ordered (q ∷ ps) → Ordered (p ∷ q ∷ ps)

pub insert_ordered : (p : Post) {ps : List Post} → Ordered ps → Ordered (insert p ps)
unfolding insert
insert_ordered p none = one
insert_ordered p (one {p = x}) = by-test (ahead p x) (λ t. rw t (more (ahead_asym p x t) one)) (λ t. rw t (more t one))
insert_ordered p (more {p = x} {q = y} h o) =
    by-test (ahead p x) (λ t. rw t (more (ahead_asym p x t) (more h o)))
    (λ t. by-test (ahead p y) (λ u. rw (t, u) (more t (rw u at (insert_ordered p o)))) (λ u. rw (t, u) (more h (rw u at (insert_ordered p o)))))

pub into_ordered : {l : List Post} (ps : List Post) → Ordered l → Ordered (into l ps)
into_ordered {l} ps o = foldl_keeps (λ qs p. insert p qs) Ordered l ps (λ qs p. insert_ordered p) o

pub sort_ordered : (ps : List Post) → Ordered (sorted ps)
unfolding sorted
sort_ordered ps = into_ordered ps none

-- ---- nor of any in front of it

pub take_ordered : (k : ℕ) {ps : List Post} → Ordered ps → Ordered (take k ps)
take_ordered zero o = none
take_ordered (suc k) none = none
take_ordered (suc zero) one = one
take_ordered (suc (suc k)) one = one
take_ordered (suc zero) (more h o) = one
take_ordered (suc (suc k)) (more h o) = more h (take_ordered (suc k) o)

behind-first : (d : Post) (j : ℕ) {p : Post} {ps : List Post} → Ordered (p ∷ ps) → j < length ps → ahead (get_or ps j d) p ≡ false
behind-first d j one h = absurd (not-suc-le-zero h)
behind-first d zero (more e o) h = e
behind-first d (suc j) {p} (more {q = q} {ps = ps} e o) h = not-ahead_trans (get_or ps j d) q p (behind-first d j o (le_of_suc-le-suc h)) e

pub behind_any : (d : Post) (i j : ℕ) {ps : List Post} → Ordered ps → i < j → j < length ps → ahead (get_or ps j d) (get_or ps i d) ≡ false
behind_any d i j none h l = absurd (not-suc-le-zero l)
behind_any d i zero one h l = absurd (not-suc-le-zero h)
behind_any d i (suc j) one h l = absurd (not-suc-le-zero (le_of_suc-le-suc l))
behind_any d i zero (more e o) h l = absurd (not-suc-le-zero h)
behind_any d zero (suc j) (more {p = p} {q = q} e o) h l = behind-first d j (more {p = p} {q = q} e o) (le_of_suc-le-suc l)
behind_any d (suc i) (suc j) (more e o) h l = behind_any d i j o (le_of_suc-le-suc h) (le_of_suc-le-suc l)

-- what is behind one that another is ahead of, or level with it, that other is ahead of
pub through : (p x y : Post) → ahead p x ≡ true → ahead y x ≡ false → ahead p y ≡ true
through p x y e f = by-test (ahead p y) (λ t. t) (λ t. absurd (true≢false (sym e ∙ not-ahead_trans p y x t f)))

-- a list of which none is ahead of the one in front of it is in order
pub steps_ordered : (d : Post) (ps : List Post) → ((i : ℕ) → suc i < length ps → ahead (get_or ps (suc i) d) (get_or ps i d) ≡ false) → Ordered ps
steps_ordered d [] h = none
steps_ordered d (p ∷ []) h = one
steps_ordered d (p ∷ q ∷ ps) h = more (h 0 (omega arith)) (steps_ordered d (q ∷ ps) (λ i l. h (suc i) (omega arith)))
