-- The walk over the log-likelihoods: the candidates that are put down, and what is held of them, of which the first k are those of all in front of place g.
use Rattle.std.specs.Prelude.{Option, Some, IfSome}
use mathlib.Core.Path.{◌≡◌, sym, ap, ◌∙◌}
use mathlib.Core.Bool.{Bool, true, false}
use mathlib.Core.List.{List, [], ◌∷◌, ◌++◌, map, append-nil, append_assoc, map-append, foldl-append}
use Prim.Native.Nat.{ℕ, ◌+◌, ◌-◌, ◌≤◌, ◌<◌}
use native.Mathlib.Omega.{arith}
use lib.Dec.{ltb}
use borrow.Author.Tests.{ltb-true, ltb-false}
use lib.ListN.{length, get_or, set, take, drop}
use lib.Seq.{take_all, take-nil, take_at, drop_at, take-add}
use lib.Ieee.{Float, nan}
use Rattle.loops.specs.Lists.{those}
use Rattle.loops.proofs.Choose.{by-test}
use Rattle.loops.proofs.Build.{length_build, at_build}
use Rattle.loops.proofs.Parts.{take_next, at_part, length_part}
use Rattle.loops.proofs.Tests.{those_append, those_none, at_none}
use Rattle.floats.specs.Operators.{◌-₃₂◌, at}
use Rattle.floats.specs.Exp.{exp_of}
use Rattle.definition.specs.Posteriors.{Post, insert, sorted, every, ranked}
use Rattle.gmm.specs.Inner.Leading.{posts_in, stays, into, Falling}
use Rattle.gmm.specs.Inner.Posteriors.{likelihoods, Next, passes}
use Rattle.gmm.specs.Inner.PosteriorsRooms.{Collects}
use Rattle.gmm.proofs.Sorting.{take_sort, take-insert}
use Rattle.gmm.proofs.Ordered.{Ordered, sort_ordered, take_ordered, behind_any}
use Rattle.gmm.proofs.Rooms.{held_none, length_held, held_at, held_take, held_put}
use Rattle.gmm.proofs.Sieving.{sieved_more, enough_more}

length-every : (ls : List Float) → length (every ls) ≡ length ls
length-every ls = length_build (length ls) _

every-at : (ls : List Float) (k : ℕ) → k < length ls → get_or (every ls) k (0, nan) ≡ (k, at ls k)
every-at ls k h = at_build (0, nan) (length ls) _ k h

-- ---- some at a time

-- none from g to k, and none from k to m
pub none_on : (test : ℕ → Bool) (g k m : ℕ) → ((i : ℕ) → i < k → g ≤ i → test i ≡ false) → ((i : ℕ) → i < m → k ≤ i → test i ≡ false) → (i : ℕ) → i < m → g ≤ i → test i ≡ false
none_on test g k m h n i l s = by-test (ltb i k) (λ t. h i (ltb-true i k t) s) (λ t. n i l (ltb-false i k t))

-- none from g to k, and r is the first from k on
pub next_on : (test : ℕ → Bool) (g k m n r : ℕ) → g ≤ k → r < m → r < n → ((i : ℕ) → i < k → g ≤ i → test i ≡ false) → Next test k m r → Next test g n r
next_on test g k m n r s l e h next =
    let f = next.from in record { from = omega (arith, f, s); most = omega (arith, e); none = none_on test g k r h next.none; here = λ i. next.here l }

-- ---- those in front of a place

module _ (test : Post → Bool) (ls : List Float) where
  those_before : (g r : ℕ) → g ≤ r → r ≤ length ls → ((k : ℕ) → k < r → g ≤ k → test (k, at ls k) ≡ false) → those test (take r (every ls)) ≡ those test (take g (every ls))
  those_before g r h l e =
      let n : r ≡ g + (r - g) = omega arith in
      let part = take (r - g) (drop g (every ls)) in
      let m : length part ≡ r - g = length_part g (r - g) (every ls) (omega (arith, length-every ls)) in
      let none : those test part ≡ [] =
      those_none test part (at_none test (0, nan) part (λ k s.
      rw (at_part (0, nan) g (r - g) (every ls) k (omega arith), every-at ls (g + k) (omega arith)) (e (g + k) (omega arith) (omega arith)))) in
      ap (λ (i : ℕ). those test (take i (every ls))) n ∙ ap (those test) (take-add g (r - g) (every ls)) ∙ those_append test (take g (every ls)) part
      ∙ ap (λ (ps : List Post). those test (take g (every ls)) ++ ps) none ∙ append-nil (those test (take g (every ls)))

  those_here : (g : ℕ) → g < length ls → test (g, at ls g) ≡ true → those test (take (g + 1) (every ls)) ≡ those test (take g (every ls)) ++ ((g, at ls g) ∷ [])
  unfolding those
  those_here g h t =
      let one : those test ((g, at ls g) ∷ []) ≡ (g, at ls g) ∷ [] = rw t in
      ap (those test) (take_next (0, nan) (every ls) g (omega (arith, length-every ls)) ∙ ap (λ (p : Post). take g (every ls) ++ (p ∷ [])) (every-at ls g h))
      ∙ those_append test (take g (every ls)) ((g, at ls g) ∷ []) ∙ ap (λ (ps : List Post). those test (take g (every ls)) ++ ps) one

-- ---- as `collect` has it

module _ (cutoff : Option Float) (f : Float → Float) (ls : List Float) (g first : ℕ) (gauss : List ℕ) (likes : List Float) where
  pub collect_none : Collects cutoff f ls g first g first gauss likes gauss likes
  collect_none = record { found = []; more = sym (append-nil _); here = sym (append-nil _) }

  -- Gaussian r is the next one from k on, and is put down
  pub collect_turn : {k n : ℕ} {gauss₁ : List ℕ} {likes₁ : List Float} (r : ℕ) → r < length ls → n < length gauss₁ → n < length likes₁ → Next (λ i. passes cutoff (at ls i)) k (length ls) r
      → Collects cutoff f ls g first k n gauss likes gauss₁ likes₁ → Collects cutoff f ls g first (r + 1) (n + 1) gauss likes (set gauss₁ n r) (set likes₁ n (f (at ls r)))
  collect_turn {k} {n} {gauss₁} {likes₁} r h l l2 next c =
      let test : Post → Bool = λ p. passes cutoff p.1 in
      let x : Post = (r, at ls r) in
      let post : Post → Post = λ p. (p.0, f p.1) in
      record {
        found = c.found ++ (x ∷ []);
        more = those_here test ls r h (next.here h) ∙ ap (λ (e : List Post). e ++ (x ∷ [])) (those_before test ls k r next.from next.most next.none ∙ c.more)
            ∙ append_assoc (those test (take g (every ls))) c.found (x ∷ []);
        here = held_put n gauss₁ likes₁ l l2 r (f (at ls r)) ∙ ap (λ (e : List Post). e ++ ((r, f (at ls r)) ∷ [])) c.here
            ∙ append_assoc (posts_in first gauss likes) (map post c.found) ((r, f (at ls r)) ∷ []) ∙ ap (λ (e : List Post). posts_in first gauss likes ++ e) (sym (map-append post c.found (x ∷ [])));
      }

  -- none is left
  pub collect_end : {k n : ℕ} {gauss₁ : List ℕ} {likes₁ : List Float} → Next (λ i. passes cutoff (at ls i)) k (length ls) (length ls)
      → Collects cutoff f ls g first k n gauss likes gauss₁ likes₁ → Collects cutoff f ls g first (length ls) n gauss likes gauss₁ likes₁
  collect_end {k} next c = record { found = c.found; more = those_before (λ p. passes cutoff p.1) ls k (length ls) next.from next.most next.none ∙ c.more; here = c.here }

-- ---- as `gather` has it

-- the first k of those that pass in front of Gaussian g
abbrev pub gathered : ℕ → Option Float → Float → List Float → ℕ → List Post
gathered k cutoff largest ls g = ranked k largest (those (λ p. passes cutoff p.1) (take g (every ls)))

-- new ones, put in behind what is held
gather_more : (k : ℕ) (largest : Float) (l ps es found : List Post) {es₁ : List Post} → es₁ ≡ es ++ found → take k (into l ps) ≡ ranked k largest es
    → take k (into l (ps ++ likelihoods largest found)) ≡ ranked k largest es₁
unfolding ranked sorted
gather_more k largest l ps es found e i =
    let like : Post → Post = λ p. (p.0, exp_of (p.1 -₃₂ largest)) in
    let new : List Post = likelihoods largest found in
    ap (take k) (foldl-append (λ (r : List Post) (p : Post). insert p r) l ps new) ∙ sym (take_sort k (into l ps) new) ∙ ap (λ (r : List Post). take k (into r new)) i
    ∙ take_sort k (into [] (likelihoods largest es)) new ∙ sym (ap (take k) (foldl-append (λ (r : List Post) (p : Post). insert p r) [] (likelihoods largest es) new))
    ∙ sym (ap (λ (r : List Post). take k (into [] r)) (ap (map like) e ∙ map-append like es found))

-- one more, of which the first k are kept
ranked_more : (k : ℕ) (largest : Float) (ps : List Post) (p : Post) → ranked k largest (ps ++ (p ∷ [])) ≡ take k (insert (p.0, exp_of (p.1 -₃₂ largest)) (ranked k largest ps))
unfolding ranked sorted
ranked_more k largest ps p =
    let q : Post = (p.0, exp_of (p.1 -₃₂ largest)) in
    ap (λ (qs : List Post). take k (into [] qs)) (map-append (λ (p : Post). (p.0, exp_of (p.1 -₃₂ largest))) ps (p ∷ []))
    ∙ ap (take k) (foldl-append (λ qs p. insert p qs) [] (likelihoods largest ps) (q ∷ [])) ∙ sym (take-insert k q (into [] (likelihoods largest ps)))

module _ (k : ℕ) (cutoff : Option Float) (largest : Float) (ls : List Float) where
  -- what is met first
  -- nothing is held, and nothing is looked at
  pub few_none : (gauss : List ℕ) (likes : List Float) → posts_in 0 gauss likes ≡ gathered k cutoff largest ls 0
  unfolding ranked sorted those
  few_none gauss likes = held_none gauss likes ∙ sym (take-nil k)

  -- Gaussian g passes and is put in
  pub few_turn : (g : ℕ) {p : Float} {ps qs : List Post} → g < length ls → passes cutoff (at ls g) ≡ true → p ≡ exp_of (at ls g -₃₂ largest) → ps ≡ gathered k cutoff largest ls g
      → qs ≡ take k (insert (g, p) ps) → qs ≡ gathered k cutoff largest ls (g + 1)
  few_turn g {ps = ps} h t e f d =
      d ∙ ap (λ (x : Float). take k (insert (g, x) ps)) e ∙ ap (λ (l : List Post). take k (insert (g, exp_of (at ls g -₃₂ largest)) l)) f
      ∙ sym (ranked_more k largest (those (λ p. passes cutoff p.1) (take g (every ls))) (g, at ls g)) ∙ sym (ap (ranked k largest) (those_here (λ p. passes cutoff p.1) ls g h t))

  -- Gaussian g does not pass
  pub few_stay : (g : ℕ) {ps : List Post} → g < length ls → passes cutoff (at ls g) ≡ false → ps ≡ gathered k cutoff largest ls g → ps ≡ gathered k cutoff largest ls (g + 1)
  few_stay g h t f =
      f ∙ sym (ap (ranked k largest) (those_before (λ p. passes cutoff p.1) ls g (g + 1) (omega arith) (omega (arith, h))
      (λ i l s. let same : i ≡ g = omega (arith, l, s) in ap (λ (j : ℕ). passes cutoff (at ls j)) same ∙ t)))

  -- what is held falls
  pub few_fall : (g n : ℕ) (gauss : List ℕ) (posts : List Float) → n ≤ length gauss → n ≤ length posts → posts_in n gauss posts ≡ gathered k cutoff largest ls g → Falling n posts
  unfolding ranked
  few_fall g n gauss posts h l e =
      let o : Ordered (posts_in n gauss posts) = rw e (take_ordered k (sort_ordered (likelihoods largest (those (λ p. passes cutoff p.1) (take g (every ls)))))) in
      let m = length_held n gauss posts h l in
      record { behind = λ i j s t. rw (held_at n gauss posts h l (0, nan) i (omega arith), held_at n gauss posts h l (0, nan) j t) at (behind_any (0, nan) i j o s (omega arith)) }

  -- what is met first
  pub first_met : {r n : ℕ} {gauss gauss₁ : List ℕ} {likes likes₁ : List Float} → Collects cutoff (λ l. exp_of (l -₃₂ largest)) ls 0 0 r n gauss likes gauss₁ likes₁
      → posts_in n gauss₁ likes₁ ≡ likelihoods largest (those (λ p. passes cutoff p.1) (take r (every ls)))
  unfolding those
  first_met {gauss = gauss} {likes = likes} c =
      c.here ∙ ap (λ (e : List Post). e ++ likelihoods largest c.found) (held_none gauss likes) ∙ ap (likelihoods largest) (sym c.more)

  -- put in order
  pub gather_first : (r : ℕ) {ps : List Post} → ps ≡ likelihoods largest (those (λ p. passes cutoff p.1) (take r (every ls))) → take k (into [] ps) ≡ gathered k cutoff largest ls r
  unfolding ranked sorted
  gather_first r e = ap (λ (r : List Post). take k (into [] r)) e

  -- more are met, of which those that stay are kept
  pub gather_turn : (bound : Option Float) (l : List Post) (j : ℕ) (gauss₂ : List ℕ) (likes₂ : List Float) {g r m n : ℕ} {gauss gauss₁ : List ℕ} {likes likes₁ : List Float} → Ordered l → m ≤ n → n ≤ length gauss₁ → n ≤ length likes₁
      → m ≤ length gauss → m ≤ length likes
      → IfSome bound (λ v. k ≤ length (those (stays (Some v)) (posts_in m gauss likes))) → take k (into l (posts_in m gauss likes)) ≡ gathered k cutoff largest ls g
      → Collects cutoff (λ x. exp_of (x -₃₂ largest)) ls g m r n gauss likes gauss₁ likes₁
      → posts_in j gauss₂ likes₂ ≡ posts_in m gauss₁ likes₁ ++ those (stays bound) (drop m (posts_in n gauss₁ likes₁))
      → (take k (into l (posts_in j gauss₂ likes₂)) ≡ gathered k cutoff largest ls r) × IfSome bound (λ v. k ≤ length (those (stays (Some v)) (posts_in j gauss₂ likes₂)))
  gather_turn bound l j gauss₂ likes₂ {m = m} {n = n} {gauss = gauss} {gauss₁ = gauss₁} {likes = likes} {likes₁ = likes₁} o h l1 l2 h1 h2 enough now c e =
      let ps : List Post = posts_in m gauss likes in
      let new : List Post = likelihoods largest c.found in
      let long : length ps ≡ m = length_held m gauss likes h1 h2 in
      let low : posts_in m gauss₁ likes₁ ≡ ps = sym (held_take n gauss₁ likes₁ l1 l2 m h) ∙ ap (take m) c.here ∙ take_at ps new m long in
      let high : drop m (posts_in n gauss₁ likes₁) ≡ new = ap (drop m) c.here ∙ drop_at ps new m long in
      let s : posts_in j gauss₂ likes₂ ≡ ps ++ those (stays bound) new =
      e ∙ ap (λ (r : List Post). r ++ those (stays bound) (drop m (posts_in n gauss₁ likes₁))) low ∙ ap (λ (r : List Post). ps ++ those (stays bound) r) high in (
        ap (λ (r : List Post). take k (into l r)) s ∙ sieved_more k bound ps new o enough ∙ gather_more k largest l ps _ c.found c.more now,
        rw s (enough_more k bound ps (those (stays bound) new) enough),
      )

  -- no place is left
  pub gather_end : {g : ℕ} {ps : List Post} → length ls ≤ g → ps ≡ gathered k cutoff largest ls g → ps ≡ ranked k largest (those (λ p. passes cutoff p.1) (every ls))
  gather_end {g} h e = e ∙ ap (λ (qs : List Post). ranked k largest (those (λ p. passes cutoff p.1) qs)) (take_all g (every ls) (omega (arith, length-every ls)))
