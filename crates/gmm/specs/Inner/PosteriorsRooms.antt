-- What a selection leaves in its rooms, and what it puts into the candidates' on the way.
use Rattle.std.specs.Prelude.{◌≡◌, Option, ℕ, ◌<◌, ◌≤◌, List, ◌++◌, map, length, take, Float}
use Rattle.loops.specs.Lists.{those}
use Rattle.floats.specs.Operators.{at}
use Rattle.floats.specs.Exp.{exp_of}
use Rattle.definition.specs.Posteriors.{Post, every, select_posteriors}
use Rattle.gmm.specs.declared.leading.Chosen.{Chosen}
use Rattle.gmm.specs.Inner.Leading.{posts_in}
use Rattle.gmm.specs.Inner.Posteriors.{Fair, passes}

-- the first n places hold the selection among the log-likelihoods ls
pub record Selected (ls : List Float) (num_gselect : ℕ) (min_post : Float) (n : ℕ) (z : Chosen) : Type 0 where
  pub here : posts_in n z.gauss.now z.posts.now ≡ select_posteriors ls num_gselect min_post
  pub most : n ≤ num_gselect
  pub fair : Fair (length ls) n z.gauss.now

-- the Gaussians from g to r that pass are put down behind the first candidates: each with what f makes of its log-likelihood
pub record Collects (cutoff : Option Float) (f : Float → Float) (ls : List Float) (g first r n : ℕ) (gauss : List ℕ) (likes : List Float) (gauss₁ : List ℕ) (likes₁ : List Float) : Type 0 where
  pub found : List Post
  pub more : those (λ p. passes cutoff p.1) (take r (every ls)) ≡ those (λ p. passes cutoff p.1) (take g (every ls)) ++ found
  pub here : posts_in n gauss₁ likes₁ ≡ posts_in first gauss likes ++ map (λ p. (p.0, f p.1)) found

-- the exponentials of those from place `first` up to `end` stand in their places, and the others as they were
pub record Likely (first end : ℕ) (likes likes₁ : List Float) : Type 0 where
  pub made : (k : ℕ) → first ≤ k → k < end → at likes₁ k ≡ exp_of (at likes k)
  pub before : (k : ℕ) → k < first → at likes₁ k ≡ at likes k
  pub past : (k : ℕ) → end ≤ k → at likes₁ k ≡ at likes k
