-- The loop that puts the candidates in order: one more candidate.
use mathlib.Core.Path.{◌≡◌, sym, ap, ◌∙◌}
use mathlib.Core.List.{List, [], ◌∷◌, foldl-append}
use Prim.Native.Nat.{ℕ, suc, ◌+◌, ◌≤◌, ◌<◌}
use native.Mathlib.Omega.{arith}
use lib.ListN.{length, get_or, take}
use lib.Seq.{take_all, take-take}
use lib.Ieee.{Float, nan}
use Rattle.floats.specs.Operators.{at}
use Rattle.definition.specs.Posteriors.{Post, insert}
use Rattle.gmm.specs.Inner.Leading.{posts_in, into, Falling}
use Rattle.gmm.proofs.Sorting.{take-insert}
use Rattle.gmm.proofs.Ordered.{Ordered, steps_ordered, into_ordered, take_ordered, behind_any}
use Rattle.gmm.proofs.Rooms.{held_none, length_held, held_at, held_next}

-- what is held falls where it is in order
module _ (n : ℕ) (chosen : List ℕ) (posts : List Float) (h : n ≤ length chosen) (l : n ≤ length posts) where
  pub falls_ordered : Falling n posts → Ordered (posts_in n chosen posts)
  falls_ordered f =
      let m = length_held n chosen posts h l in
      steps_ordered (0, nan) (posts_in n chosen posts) (λ i s. rw (held_at n chosen posts h l (0, nan) i (omega (arith, m)), held_at n chosen posts h l (0, nan) (suc i) (omega (arith, m)))
      (f.behind i (suc i) (omega arith) (omega (arith, m))))

  pub ordered_falls : Ordered (posts_in n chosen posts) → Falling n posts
  ordered_falls o =
      let m = length_held n chosen posts h l in
      record { behind = λ i j s t. rw (held_at n chosen posts h l (0, nan) i (omega arith), held_at n chosen posts h l (0, nan) j t) at (behind_any (0, nan) i j o s (omega arith)) }

pub order_none : (k n : ℕ) (chosen gauss : List ℕ) (posts values : List Float) → n ≤ k → n ≤ length chosen → n ≤ length posts → posts_in n chosen posts ≡ take k (into (posts_in n chosen posts) (posts_in 0 gauss values))
order_none k n chosen gauss posts values s h l =
    sym (ap (λ (r : List Post). take k (into (posts_in n chosen posts) r)) (held_none gauss values) ∙ take_all k (posts_in n chosen posts) (omega (arith, length_held n chosen posts h l)))

pub order_turn : (k : ℕ) (l : List Post) (j : ℕ) (gauss : List ℕ) (values : List Float) {ps qs : List Post} → j < length gauss → j < length values → ps ≡ take k (into l (posts_in j gauss values))
    → qs ≡ take k (insert (get_or gauss j 0, at values j) ps) → qs ≡ take k (into l (posts_in (j + 1) gauss values))
order_turn k l j gauss values h g e f =
    let x : Post = (get_or gauss j 0, at values j) in
    f ∙ ap (λ (r : List Post). take k (insert x r)) e ∙ take-insert k x (into l (posts_in j gauss values))
    ∙ sym (ap (λ (r : List Post). take k (into l r)) (held_next j gauss values h g) ∙ ap (take k) (foldl-append (λ (r : List Post) (p : Post). insert p r) l (posts_in j gauss values) (x ∷ [])))

-- so what is held is in order
pub order_falls : (k : ℕ) (l ps : List Post) (n : ℕ) (chosen : List ℕ) (posts : List Float) → Ordered l → n ≤ length chosen → n ≤ length posts → posts_in n chosen posts ≡ take k (into l ps) → Falling n posts
order_falls k l ps n chosen posts o h g e = ordered_falls n chosen posts h g (rw e (take_ordered k (into_ordered ps o)))

-- with all in order no candidate is left to be put in
pub order_done : (k : ℕ) (l : List Post) (gauss : List ℕ) (values : List Float) {ps : List Post} → ps ≡ take k l → take k (into ps (posts_in 0 gauss values)) ≡ take k l
order_done k l gauss values {ps} e =
    ap (λ (r : List Post). take k (into ps r)) (held_none gauss values) ∙ ap (take k) e ∙ take-take k k l (omega arith)
