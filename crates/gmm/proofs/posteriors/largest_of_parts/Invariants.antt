-- `posteriors::largest_of_parts` meets its contract. The loop's invariant: the largest of the first i of each part (`part-turn`, `part-whole`,
-- `joined_is` in Maximum.antt).
use mathlib.Core.Path.{◌≡◌}
use Prim.Native.Nat.{◌-◌, ◌≤◌}
use lib.ListN.{length, take}
use Rattle.gmm.specs.Inner.Posteriors.{least, top}
use Rattle.gmm.proofs.posteriors.largest_of_parts.Given as goal

abbrev pub invariant-loop-i : goal.invariant-loop-i
invariant-loop-i l = (l.i ≤ l.i-end) × (l.i-end ≡ length l.a)
    × (l.ma ≡ top least (take l.i l.a)) × (l.mb ≡ top least (take l.i l.b)) × (l.mc ≡ top least (take l.i l.c)) × (l.md ≡ top least (take l.i l.d))
    × (l.me ≡ top least (take l.i l.e)) × (l.mf ≡ top least (take l.i l.f)) × (l.mg ≡ top least (take l.i l.g)) × (l.mh ≡ top least (take l.i l.h))

abbrev pub decreases-loop-i : goal.decreases-loop-i
decreases-loop-i l = l.i-end - l.i
