-- The loop's invariant is the definition's own loop up to i.
use mathlib.Core.Path.{◌≡◌}
use Prim.Native.Nat.{◌≤◌, ◌-◌}
use lib.ListN.{length, set}
use Rattle.loops.specs.Loop.{iter}
use Rattle.floats.specs.Operators.{◌+₆₄◌, at}
use Rattle.definition.specs.Model.{packed}
use Rattle.ivector_stats.proofs.add_diagonal.Given as goal

abbrev pub invariant-loop-i : goal.invariant-loop-i
invariant-loop-i l = (l.i ≤ l.s) × (length l.quadratic ≡ length l.initial.quadratic) × (l.quadratic ≡ iter l.i (λ i q. set q (packed i i) (at q (packed i i) +₆₄ l.v)) l.initial.quadratic)

abbrev pub decreases-loop-i : goal.decreases-loop-i
decreases-loop-i l = l.s - l.i
