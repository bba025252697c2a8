-- The loop's invariant of `packed_matrix::set_four`: the first c places are filled with the sums.
use mathlib.Core.Path.{◌≡◌}
use Prim.Native.Nat.{◌-◌, ◌≤◌}
use lib.ListN.{length}
use Rattle.loops.specs.Inner.{fill}
use Rattle.floats.specs.Operators.{◌+₆₄◌, ◌*₆₄◌, zero₆₄, at}
use Rattle.algebra.proofs.packed_matrix.set_four.Given as goal

abbrev pub invariant-loop-c : goal.invariant-loop-c
invariant-loop-c l = (l.c ≤ l.c-end) × (l.c-end ≡ length l.initial.out) × (length l.out ≡ length l.initial.out) × (l.out ≡ fill l.c (λ c. zero₆₄ +₆₄ at l.r0 c *₆₄ l.v0 +₆₄ at l.r1 c *₆₄ l.v1 +₆₄ at l.r2 c *₆₄ l.v2 +₆₄ at l.r3 c *₆₄ l.v3) l.initial.out)

abbrev pub decreases-loop-c : goal.decreases-loop-c
decreases-loop-c l = l.c-end - l.c
