-- The loop's invariant of `posteriors::each_likelihood`: made are those in front of place i (Likely.antt).
use mathlib.Core.Path.{◌≡◌}
use Prim.Native.Nat.{◌≤◌}
use lib.ListN.{length}
use Rattle.gmm.specs.Inner.PosteriorsRooms.{Likely}
use Rattle.gmm.proofs.posteriors.each_likelihood.Given as goal

abbrev pub invariant-loop-i : goal.invariant-loop-i
invariant-loop-i l = (l.first ≤ l.i) × (l.i ≤ l.end) × (length l.likes ≡ length l.initial.likes) × Likely l.first l.i l.initial.likes l.likes
