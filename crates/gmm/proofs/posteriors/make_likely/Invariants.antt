-- The loop's invariant of `posteriors::make_likely`: made are those in front of place j (Likely.antt).
use mathlib.Core.Path.{◌≡◌}
use Prim.Native.Nat.{◌-◌, ◌≤◌, ◌<◌}
use lib.ListN.{length}
use Rattle.gmm.specs.Inner.PosteriorsRooms.{Likely}
use Rattle.gmm.proofs.posteriors.make_likely.Given as goal

abbrev pub invariant-loop-j : goal.invariant-loop-j
invariant-loop-j l = (l.first ≤ l.j) × (l.j < l.end) × (length l.likes ≡ length l.initial.likes) × Likely l.first l.j l.initial.likes l.likes

abbrev pub decreases-loop-j : goal.decreases-loop-j
decreases-loop-j l = l.end - l.j
