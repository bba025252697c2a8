-- The loop's invariant of `posteriors::scale`: a turn at each of the first places.
use mathlib.Core.Path.{◌≡◌}
use lib.ListN.{set}
use Rattle.loops.specs.Loop.{iter}
use Rattle.floats.specs.Operators.{◌*₃₂◌, at}
use Rattle.gmm.proofs.posteriors.scale.Given as goal

abbrev pub invariant-loop-p : goal.invariant-loop-p
invariant-loop-p l = l.posts ≡ iter l.p-index (λ k s. set s k (at s k *₃₂ l.v)) l.initial.posts
