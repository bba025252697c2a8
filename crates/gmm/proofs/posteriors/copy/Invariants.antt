-- The loop's invariant of `posteriors::copy`: the first j are the same.
use mathlib.Core.Path.{◌≡◌}
use Prim.Native.Nat.{◌≤◌}
use lib.ListN.{length}
use Rattle.gmm.specs.Inner.Leading.{posts_in}
use Rattle.gmm.proofs.posteriors.copy.Given as goal

abbrev pub invariant-loop-j : goal.invariant-loop-j
invariant-loop-j l = (l.j ≤ l.n) × (length l.gauss ≡ length l.initial.gauss) × (length l.likes ≡ length l.initial.likes) × (posts_in l.j l.gauss l.likes ≡ posts_in l.j l.from_gauss l.from_likes)
