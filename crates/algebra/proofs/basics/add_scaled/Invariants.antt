-- The loop's invariant of `basics::add_scaled`: the first c places are filled with the sums, and the place that is written next has its old value.
use mathlib.Core.Path.{◌≡◌}
use Prim.Native.Nat.{◌-◌, ◌≤◌}
use lib.ListN.{length}
use Rattle.loops.specs.Inner.{fill}
use Rattle.floats.specs.Operators.{◌+₆₄◌, ◌*₆₄◌, at}
use Rattle.algebra.proofs.basics.add_scaled.Given as goal

abbrev pub invariant-loop-c : goal.invariant-loop-c
invariant-loop-c l = (l.c ≤ l.c-end) × (l.c-end ≡ length l.initial.out) × (length l.out ≡ length l.initial.out) × (l.out ≡ fill l.c (λ k. at l.initial.out k +₆₄ l.v *₆₄ at l.row k) l.initial.out)

abbrev pub decreases-loop-c : goal.decreases-loop-c
decreases-loop-c l = l.c-end - l.c
