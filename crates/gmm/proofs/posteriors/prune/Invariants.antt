-- The loop's invariant of `posteriors::prune`: pruning what is left gives what pruning all gives, whatever the Gaussians are.
use mathlib.Core.Path.{◌≡◌}
use mathlib.Core.List.{List}
use Prim.Native.Nat.{ℕ, ◌≤◌}
use lib.ListN.{length}
use Rattle.definition.specs.Posteriors.{pruned}
use Rattle.gmm.specs.Inner.Leading.{posts_in}
use Rattle.gmm.proofs.posteriors.prune.Given as goal

abbrev pub invariant-loop-count : goal.invariant-loop-count
invariant-loop-count l = (l.count ≤ l.n) × ((chosen : List ℕ) → l.n ≤ length chosen → pruned (posts_in l.n chosen l.posts) l.cutoff l.count l.left ≡ pruned (posts_in l.n chosen l.posts) l.cutoff l.n l.tot)

abbrev pub decreases-loop-count : goal.decreases-loop-count
decreases-loop-count l = l.count
