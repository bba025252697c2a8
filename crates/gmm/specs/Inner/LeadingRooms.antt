-- The rooms of a selection, and what they hold on the way.
use Rattle.std.specs.Prelude.{◌≡◌, Some, IfSome, List, ℕ, ◌≤◌, length, take, Float}
use Rattle.loops.specs.Lists.{those}
use Rattle.definition.specs.Posteriors.{Post}
use Rattle.gmm.specs.declared.leading.Chosen.{Chosen}
use Rattle.gmm.specs.declared.leading.Holding.{Holding}
use Rattle.gmm.specs.Inner.Leading.{posts_in, stays, into, Falling}

-- they have places for n
abbrev pub HasPlaces : ℕ → Chosen → Type 0
HasPlaces n z = (n ≤ length z.gauss.now) × (n ≤ length z.posts.now)

-- they are still those that were lent, and as long
abbrev pub SameChosen : Chosen → Chosen → Type 0
SameChosen old new =
    (new.gauss.ghost_name ≡ old.gauss.ghost_name) × (new.posts.ghost_name ≡ old.posts.ghost_name)
    × (length new.gauss.now ≡ length old.gauss.now) × (length new.posts.now ≡ length old.posts.now)

-- the first k of those in order and of the candidates, once these are put in
abbrev pub leading_of : ℕ → Holding → List ℕ → List Float → Chosen → List Post
leading_of k h gauss posts z = take k (into (posts_in h.ordered z.gauss.now z.posts.now) (posts_in h.candidates gauss posts))

-- what is said to be held is: k of the candidates are not behind the bound
pub record HoldingIn (k : ℕ) (h : Holding) (gauss : List ℕ) (posts : List Float) (z : Chosen) : Type 0 where
  pub candidates : (h.candidates ≤ length gauss) × (h.candidates ≤ length posts)
  pub few : h.ordered ≤ k
  pub in_order : Falling h.ordered z.posts.now
  pub enough : IfSome h.bound (λ v. k ≤ length (those (stays (Some v)) (posts_in h.candidates gauss posts)))
