-- The loop's invariant of `posteriors::largest`: m is the largest of the first k, and the rises are few.
use mathlib.Core.Path.{◌≡◌}
use Prim.Native.Nat.{◌-◌, ◌≤◌, ◌<◌}
use lib.ListN.{length, take}
use Rattle.gmm.specs.Inner.Posteriors.{least, top}
use Rattle.gmm.proofs.posteriors.largest.Given as goal

abbrev pub invariant-loop-j : goal.invariant-loop-j
invariant-loop-j l = (l.k ≤ length l.loglikes) × (l.m ≡ top least (take l.k l.loglikes)) × (l.rises < 16)

abbrev pub decreases-loop-j : goal.decreases-loop-j
decreases-loop-j l = length l.loglikes - l.k
