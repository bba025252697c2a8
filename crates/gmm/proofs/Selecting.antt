-- The whole selection, from what its stages leave in the rooms.
use mathlib.Core.Path.{◌≡◌, sym, ap, ◌∙◌, refl}
use mathlib.Core.List.{List, map, foldl}
use Prim.Native.Nat.{ℕ, ◌≤◌}
use native.Mathlib.Omega.{arith}
use lib.Ieee.{Float, neg}
use lib.ListN.{length}
use Rattle.loops.specs.Inner.{fill}
use Rattle.floats.specs.Operators.{◌+₃₂◌, ◌*₃₂◌, ◌/₃₂◌, zero₃₂, one₃₂, at, sum₃₂}
use Rattle.definition.specs.Posteriors.{pruned, select_posteriors, ranked, best_of, renormalised}
use Rattle.gmm.specs.Inner.Leading.{posts_in}
use Rattle.gmm.specs.Inner.Posteriors.{Fair}
use Rattle.gmm.proofs.Rooms.{length_held, posts_in-scaled, held_take, held_total}
use Rattle.gmm.proofs.Apart.{Apart, best_apart, renormalised-apart, held_fair}

select_renormalised : (ls : List Float) (k : ℕ) (min_post : Float) → renormalised min_post (best_of ls k min_post) ≡ select_posteriors ls k min_post
unfolding renormalised best_of ranked select_posteriors
select_renormalised ls k min_post = refl

-- its Gaussians are those of the log-likelihoods, none of them twice
pub selected_apart : (ls : List Float) (k : ℕ) (min_post : Float) → Apart (length ls) (select_posteriors ls k min_post)
selected_apart ls k min_post = rw (← select_renormalised ls k min_post) (renormalised-apart min_post (best_apart ls k min_post))

-- what the stages after the selection of the best n leave
pub renormalised_is : (min_post : Float) (n : ℕ) (posts : List Float) {t s : Float} {m : ℕ} {q : List Float} → n ≤ length posts → t ≡ sum₃₂ (neg zero₃₂) n (at posts)
    → ((chosen : List ℕ) → n ≤ length chosen → (m, s) ≡ pruned (posts_in n chosen posts) (min_post *₃₂ t) n t) → m ≤ n
    → q ≡ fill m (λ k. at posts k *₃₂ (one₃₂ /₃₂ s)) posts → (chosen : List ℕ) → n ≤ length chosen → posts_in m chosen q ≡ renormalised min_post (posts_in n chosen posts)
unfolding renormalised
renormalised_is min_post n posts {t} {s} {m} l e f g r chosen h =
    let u : foldl (λ a p. a +₃₂ p.1) (neg zero₃₂) (posts_in n chosen posts) ≡ t = sym (held_total n chosen posts h l _) ∙ sym e in
    let z : renormalised min_post (posts_in n chosen posts) ≡ map (λ p. (p.0, p.1 *₃₂ (one₃₂ /₃₂ s))) (posts_in m chosen posts) =
    rw (u, length_held n chosen posts h l, ← f chosen h, held_take n chosen posts h l m g) in
    posts_in-scaled (one₃₂ /₃₂ s) m chosen posts (omega arith) (omega arith) r ∙ sym z

-- as `select_posteriors` has it: the rooms held the best n
pub selection_is : (ls : List Float) (k : ℕ) (min_post : Float) (n : ℕ) (chosen : List ℕ) (posts q : List Float) {m : ℕ} → m ≤ length chosen → m ≤ length q
    → posts_in n chosen posts ≡ best_of ls k min_post → posts_in m chosen q ≡ renormalised min_post (posts_in n chosen posts)
    → (posts_in m chosen q ≡ select_posteriors ls k min_post) × Fair (length ls) m chosen
selection_is ls k min_post n chosen posts q {m} h l b e =
    let z = e ∙ ap (renormalised min_post) b ∙ select_renormalised ls k min_post in
    (z, held_fair (length ls) m chosen q h l z (selected_apart ls k min_post))
