-- Laws of differences that become likelihoods in their places.
use mathlib.Core.Path.{◌≡◌, refl, sym, ap, ◌∙◌}
use mathlib.Core.List.{List, [], ◌∷◌, ◌++◌, map}
use Prim.Native.Nat.{ℕ, ◌+◌, ◌-◌, ◌≤◌, ◌<◌}
use native.Mathlib.Omega.{arith}
use Rattle.std.specs.Prelude.{Option}
use lib.ListN.{length, get_or, set, take, drop}
use lib.Seq.{take_at, drop_at}
use lib.Ieee.{Float}
use Rattle.loops.specs.Lists.{build}
use Rattle.loops.proofs.Build.{build_add, build_ext, drop_build, map-build}
use Rattle.floats.specs.Operators.{◌-₃₂◌, at}
use Rattle.floats.specs.Exp.{exp_of}
use Rattle.definition.specs.Posteriors.{Post}
use Rattle.gmm.specs.Inner.Leading.{posts_in}
use Rattle.gmm.proofs.Rooms.{held_build, length_held, held_take, held_next, held_put}
use Rattle.gmm.specs.Inner.PosteriorsRooms.{Collects, Likely}

-- the candidates, with the likelihoods in the place of the differences
module _ (first n : ℕ) (gauss : List ℕ) (likes likes₁ : List Float) (h : first ≤ n) (l : n ≤ length gauss) (l1 : n ≤ length likes) (l2 : n ≤ length likes₁) where
  likely_held : Likely first n likes likes₁ → posts_in n gauss likes₁ ≡ posts_in first gauss likes ++ map (λ p. (p.0, exp_of p.1)) (drop first (posts_in n gauss likes))
  likely_held c =
      let m : ℕ = n - first in
      let e : n ≡ first + m = omega arith in
      let before : ℕ → Post = λ k. (get_or gauss k 0, at likes k) in
      let after : ℕ → Post = λ k. (get_or gauss k 0, at likes₁ k) in
      let post : Post → Post = λ p. (p.0, exp_of p.1) in
      let high : drop first (posts_in n gauss likes) ≡ build m (λ k. before (first + k)) = ap (drop first) (held_build n gauss likes l l1) ∙ drop_build first n before h in
      held_build n gauss likes₁ l l2 ∙ ap (λ (k : ℕ). build k after) e ∙ build_add first m after
      ∙ ap (λ (r : List Post). r ++ build m (λ k. after (first + k)))
      (build_ext first after before (λ k s. ap (λ (x : Float). (get_or gauss k 0, x)) (c.before k s)) ∙ sym (held_build first gauss likes (omega arith) (omega arith)))
      ∙ ap (λ (r : List Post). posts_in first gauss likes ++ r)
      (build_ext m (λ k. after (first + k)) (λ k. post (before (first + k))) (λ k s. ap (λ (x : Float). (get_or gauss (first + k) 0, x)) (c.made (first + k) (omega arith) (omega arith)))
      ∙ sym (ap (map post) high ∙ map-build post m (λ k. before (first + k))))

map_twice : (largest : Float) (ps : List Post) → map {B = Post} (λ (p : Post). (p.0, exp_of p.1)) (map {B = Post} (λ (p : Post). (p.0, p.1 -₃₂ largest)) ps) ≡ map {B = Post} (λ (p : Post). (p.0, exp_of (p.1 -₃₂ largest))) ps
map_twice largest [] = refl
map_twice largest (p ∷ ps) = ap (λ (r : List Post). (p.0, exp_of (p.1 -₃₂ largest)) ∷ r) (map_twice largest ps)

pub likely_collects : (cutoff : Option Float) (largest : Float) (ls : List Float) (g first r n : ℕ) (gauss gauss₁ : List ℕ) (likes likes₁ likes₂ : List Float) → first ≤ n → first ≤ length gauss → first ≤ length likes
    → n ≤ length gauss₁ → n ≤ length likes₁ → n ≤ length likes₂ → Collects cutoff (λ l. l -₃₂ largest) ls g first r n gauss likes gauss₁ likes₁ → Likely first n likes₁ likes₂
    → Collects cutoff (λ l. exp_of (l -₃₂ largest)) ls g first r n gauss likes gauss₁ likes₂
likely_collects cutoff largest ls g first r n gauss gauss₁ likes likes₁ likes₂ h f1 f2 l l1 l2 c d =
    let ps : List Post = posts_in first gauss likes in
    let new : List Post = map {B = Post} (λ (p : Post). (p.0, p.1 -₃₂ largest)) c.found in
    let long : length ps ≡ first = length_held first gauss likes f1 f2 in
    let low : posts_in first gauss₁ likes₁ ≡ ps = sym (held_take n gauss₁ likes₁ l l1 first h) ∙ ap (take first) c.here ∙ take_at ps new first long in
    let high : drop first (posts_in n gauss₁ likes₁) ≡ new = ap (drop first) c.here ∙ drop_at ps new first long in
    record {
      found = c.found;
      more = c.more;
      here = likely_held first n gauss₁ likes₁ likes₂ h l l1 l2 d ∙ ap (λ (r : List Post). r ++ map {B = Post} (λ (p : Post). (p.0, exp_of p.1)) (drop first (posts_in n gauss₁ likes₁))) low
          ∙ ap (λ (r : List Post). ps ++ map {B = Post} (λ (p : Post). (p.0, exp_of p.1)) r) high ∙ ap (λ (r : List Post). ps ++ r) (map_twice largest c.found);
    }

-- one candidate more copied
pub copy_turn : (j : ℕ) (from_gauss gauss : List ℕ) (from_likes likes : List Float) → j < length from_gauss → j < length from_likes → j < length gauss → j < length likes
    → posts_in j gauss likes ≡ posts_in j from_gauss from_likes → posts_in (j + 1) (set gauss j (get_or from_gauss j 0)) (set likes j (at from_likes j)) ≡ posts_in (j + 1) from_gauss from_likes
copy_turn j from_gauss gauss from_likes likes h l h1 l1 e =
    let x : Post = (get_or from_gauss j 0, at from_likes j) in
    held_put j gauss likes h1 l1 (get_or from_gauss j 0) (at from_likes j) ∙ ap (λ (r : List Post). r ++ (x ∷ [])) e ∙ sym (held_next j from_gauss from_likes h l)
