-- Candidates behind a bound may be left out. Of those put in order the first k are the same, where k of them are not behind it: leaving out and putting in order
-- may change places (`those_into`), and in a list that is in order those behind the bound stand last (`front_stays`).
use Rattle.std.specs.Prelude.{Option, None, Some, IfSome, if◌then◌else◌}
use mathlib.Core.Path.{◌≡◌, refl, sym, ap, ◌∙◌}
use mathlib.Core.Bool.{Bool, true}
use mathlib.Core.List.{List, [], ◌∷◌, ◌++◌, foldl-append}
use Prim.Native.Nat.{ℕ, zero, suc, ◌+◌, ◌≤◌}
use native.Mathlib.Nat.{le_of_suc-le-suc, not-suc-le-zero}
use native.Mathlib.Omega.{arith}
use lib.ListN.{length, take, length-append}
use lib.Ieee.{Float, nan}
use Rattle.loops.specs.Lists.{those}
use Rattle.loops.proofs.Choose.{by-test}
use Rattle.loops.proofs.Tests.{those_all, those_append, at_each}
use Rattle.definition.specs.Posteriors.{Post, ahead, insert}
use Rattle.gmm.specs.Inner.Leading.{stays, into}
use Rattle.gmm.proofs.Sorting.{length_sort}
use Rattle.gmm.proofs.Ordered.{Ordered, none, one, more, insert_ordered, into_ordered, through}

-- ---- leaving out, and putting in order

module _ (t : Post → Bool) where
  pub those_those : (ps : List Post) → those t (those t ps) ≡ those t ps
  unfolding those
  those_those [] = refl
  those_those (p ∷ ps) = by-test (t p) (λ e. rw e (rw e (ap (λ (r : List Post). p ∷ r) (those_those ps)))) (λ e. rw e (those_those ps))

  -- ahead of the first, and so of the first that is left
  to_front : (p x : Post) {l : List Post} → ahead p x ≡ true → Ordered (x ∷ l) → insert p (those t (x ∷ l)) ≡ p ∷ those t (x ∷ l)
  unfolding those insert
  to_front p x e one = by-test (t x) (λ u. rw (u, e)) (λ u. rw u)
  to_front p x e (more {q = y} h o) = by-test (t x) (λ u. rw (u, e)) (λ u. rw u (to_front p y (through p x y e h) o))

  those_insert : (p : Post) {l : List Post} → Ordered l → those t (insert p l) ≡ (if t p then insert p (those t l) else those t l)
  unfolding those insert
  those_insert p none = by-test (t p) (λ u. rw u) (λ u. rw u)
  those_insert p (one {p = x}) =
      by-test (ahead p x) (λ e. rw e (by-test (t p) (λ u. rw u (sym (to_front p x e one))) (λ u. rw u)))
      (λ e. rw e (by-test (t x) (λ w. rw w (by-test (t p) (λ u. rw (u, e)) (λ u. rw u))) (λ w. rw w (by-test (t p) (λ u. rw u) (λ u. rw u)))))
  those_insert p (more {p = x} {q = y} {ps = ps} h o) =
      by-test (ahead p x) (λ e. rw e (by-test (t p) (λ u. rw u (sym (to_front p x e (more {p = x} {q = y} {ps = ps} h o)))) (λ u. rw u)))
      (λ e. let i = those_insert p o in
      rw e (by-test (t x)
      (λ w. rw w (ap (λ (r : List Post). x ∷ r) i ∙ by-test (t p) (λ u. rw (u, e)) (λ u. rw u)))
      (λ w. rw w i)))

  pub those_into : (l ps : List Post) → Ordered l → those t (into l ps) ≡ into (those t l) (those t ps)
  unfolding those
  those_into l [] o = refl
  those_into l (p ∷ ps) o =
      those_into (insert p l) ps (insert_ordered p o) ∙ by-test (t p)
      (λ u. let i : those t (insert p l) ≡ insert p (those t l) = rw u at (those_insert p o) in rw u (ap (λ (r : List Post). into r (those t ps)) i))
      (λ u. let i : those t (insert p l) ≡ those t l = rw u at (those_insert p o) in rw u (ap (λ (r : List Post). into r (those t ps)) i))

-- ---- those behind the bound stand last

module _ (v : Float) where
  none_stay : (x : Post) {l : List Post} → ahead (0, v) x ≡ true → Ordered (x ∷ l) → those (stays (Some v)) (x ∷ l) ≡ []
  unfolding those
  none_stay x e one = rw e
  none_stay x e (more {q = y} h o) = rw e (none_stay y (through (0, v) x y e h) o)

  front_stays : (k : ℕ) {l : List Post} → Ordered l → k ≤ length (those (stays (Some v)) l) → take k (those (stays (Some v)) l) ≡ take k l
  unfolding those
  front_stays zero o h = refl
  front_stays (suc k) none h = refl
  front_stays (suc k) (one {p = x}) h =
      by-test (ahead (0, v) x) (λ e. absurd (not-suc-le-zero (rw (none_stay x e one) at h))) (λ e. rw e)
  front_stays (suc k) (more {p = x} {q = y} {ps = ps} g o) h =
      by-test (ahead (0, v) x) (λ e. absurd (not-suc-le-zero (rw (none_stay x e (more {p = x} {q = y} {ps = ps} g o)) at h)))
      (λ e. rw e (ap (λ (r : List Post). x ∷ r) (front_stays k o (le_of_suc-le-suc (rw e at h)))))

-- ---- what is left out does not count

pub sieved : (k : ℕ) (bound : Option Float) {l : List Post} (ps : List Post) → Ordered l
    → IfSome bound (λ v. k ≤ length (those (stays (Some v)) l) + length (those (stays (Some v)) ps)) → take k (into l (those (stays bound) ps)) ≡ take k (into l ps)
sieved k None {l} ps o h = ap (λ (r : List Post). take k (into l r)) (those_all (stays None) ps (at_each (stays None) (0, nan) ps (λ i s. refl)))
sieved k (Some v) {l} ps o h =
    let t : Post → Bool = stays (Some v) in
    let now : those t (into l ps) ≡ into (those t l) (those t ps) = those_into t l ps o in
    let later : those t (into l (those t ps)) ≡ into (those t l) (those t ps) = those_into t l (those t ps) o ∙ ap (into (those t l)) (those_those t ps) in
    let long = length_sort (those t l) (those t ps) in
    sym (front_stays v k (into_ordered (those t ps) o) (omega (arith, ap length later, long, h))) ∙ ap (take k) (later ∙ sym now)
    ∙ front_stays v k (into_ordered ps o) (omega (arith, ap length now, long, h))

-- all the candidates are those that k are found among
pub sieved_all : (k : ℕ) (bound : Option Float) (l ps : List Post) → Ordered l → IfSome bound (λ v. k ≤ length (those (stays (Some v)) ps)) → take k (into l (those (stays bound) ps)) ≡ take k (into l ps)
sieved_all k bound l ps o h = sieved k bound ps o (long bound h)
  where
    long : (bound : Option Float) → IfSome bound (λ v. k ≤ length (those (stays (Some v)) ps)) → IfSome bound (λ v. k ≤ length (those (stays (Some v)) l) + length (those (stays (Some v)) ps))
    long None g = tt
    long (Some v) g = omega (arith, g)

-- the bound stands among the candidates ps that are held, and new ones come
pub sieved_more : (k : ℕ) (bound : Option Float) {l : List Post} (ps qs : List Post) → Ordered l → IfSome bound (λ v. k ≤ length (those (stays (Some v)) ps))
    → take k (into l (ps ++ those (stays bound) qs)) ≡ take k (into l (ps ++ qs))
sieved_more k bound {l} ps qs o h =
    ap (take k) (foldl-append (λ (r : List Post) (p : Post). insert p r) l ps (those (stays bound) qs)) ∙ sieved k bound qs (into_ordered ps o) (long bound h)
    ∙ sym (ap (take k) (foldl-append (λ (r : List Post) (p : Post). insert p r) l ps qs))
  where
    long : (bound : Option Float) → IfSome bound (λ v. k ≤ length (those (stays (Some v)) ps))
        → IfSome bound (λ v. k ≤ length (those (stays (Some v)) (into l ps)) + length (those (stays (Some v)) qs))
    long None g = tt
    long (Some v) g = omega (arith, g, ap length (those_into (stays (Some v)) l ps o), length_sort (those (stays (Some v)) l) (those (stays (Some v)) ps))

-- as many are not behind it then
pub enough_more : (k : ℕ) (bound : Option Float) (ps qs : List Post) → IfSome bound (λ v. k ≤ length (those (stays (Some v)) ps))
    → IfSome bound (λ v. k ≤ length (those (stays (Some v)) (ps ++ qs)))
enough_more k None ps qs h = tt
enough_more k (Some v) ps qs h = omega (arith, h, ap length (those_append (stays (Some v)) ps qs), length-append (those (stays (Some v)) ps) (those (stays (Some v)) qs))

pub enough_chosen : (k : ℕ) (bound : Option Float) (ps : List Post) → IfSome bound (λ v. k ≤ length (those (stays (Some v)) ps))
    → IfSome bound (λ v. k ≤ length (those (stays (Some v)) (those (stays bound) ps)))
enough_chosen k None ps h = tt
enough_chosen k (Some v) ps h = omega (arith, h, ap length (those_those (stays (Some v)) ps))
