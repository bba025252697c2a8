-- The loop's invariant of `leading::move_up_by_fours`: its contract, at j.
use mathlib.Core.Path.{◌≡◌}
use lib.ListN.{length}
use Rattle.gmm.specs.Inner.Leading.{Moved}
use Rattle.gmm.proofs.leading.move_up_by_fours.Given as goal

abbrev pub invariant-loop-j : goal.invariant-loop-j
invariant-loop-j l = (length l.chosen ≡ length l.initial.chosen) × (length l.posts ≡ length l.initial.posts) × Moved l.p l.last l.j l.initial.chosen l.initial.posts l.chosen l.posts

abbrev pub decreases-loop-j : goal.decreases-loop-j
decreases-loop-j l = l.j
