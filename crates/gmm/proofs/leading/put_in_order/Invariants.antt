-- The loop's invariant of `leading::put_in_order`: whatever the rooms held before `move_up_by_fours`, those that it had moved then, and those that the walk has
-- passed since, are moved up by one.
use mathlib.Core.Path.{◌≡◌}
use mathlib.Core.List.{List}
use Prim.Native.Nat.{ℕ, ◌≤◌, ◌<◌}
use lib.ListN.{length}
use lib.Ieee.{Float}
use Rattle.gmm.specs.Inner.Leading.{Moved}
use Rattle.gmm.proofs.leading.put_in_order.Given as goal

abbrev pub invariant-loop-j : goal.invariant-loop-j
invariant-loop-j l = (l.j ≤ l.last) × (length l.chosen ≡ length l.initial.chosen) × (length l.posts ≡ length l.initial.posts)
    × ((z : List ℕ) (y : List Float) → l.last < length z → l.last < length y → Moved l.p l.last l.initial.j z y l.initial.chosen l.initial.posts → Moved l.p l.last l.j z y l.chosen l.posts)

abbrev pub decreases-loop-j : goal.decreases-loop-j
decreases-loop-j l = l.j
