-- The loop's invariant of `basics::difference`: the first i places are filled with the differences.
use mathlib.Core.Path.{◌≡◌}
use Prim.Native.Nat.{◌-◌, ◌≤◌}
use lib.ListN.{length}
use Rattle.floats.specs.Operators.{◌-₆₄◌, at}
use Rattle.loops.specs.Inner.{fill}
use Rattle.algebra.proofs.basics.difference.Given as goal

abbrev pub invariant-loop-i : goal.invariant-loop-i
invariant-loop-i l = (l.i ≤ l.n) × (length l.out ≡ length l.initial.out) × (l.out ≡ fill l.i (λ k. at l.high k -₆₄ at l.low k) l.initial.out)

abbrev pub decreases-loop-i : goal.decreases-loop-i
decreases-loop-i l = l.n - l.i
