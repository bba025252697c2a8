-- The loop's invariant: a turn at each of the first c places; each place is made from its old value alone.
use mathlib.Core.Path.{◌≡◌}
use Prim.Native.Nat.{◌≤◌, ◌-◌}
use lib.ListN.{length, set}
use Rattle.loops.specs.Loop.{iter}
use Rattle.floats.specs.Operators.{◌+₆₄◌, at}
use Rattle.ivector_stats.proofs.add.Given as goal

abbrev pub invariant-loop-c : goal.invariant-loop-c
invariant-loop-c l = (l.c ≤ l.c-end) × (l.c-end ≡ length l.initial.out) × (length l.out ≡ length l.initial.out) × (l.out ≡ iter l.c (λ k s. set s k (at s k +₆₄ at l.row k)) l.initial.out)

abbrev pub decreases-loop-c : goal.decreases-loop-c
decreases-loop-c l = l.c-end - l.c
