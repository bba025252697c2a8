-- The loop's invariant: a turn at each of the first a places; each place is made from its old value alone.
use Rattle.std.proofs.Common.{◌≡◌, ◌-◌, ◌≤◌, length, set}
use Rattle.loops.specs.Loop.{iter}
use Rattle.floats.specs.Operators.{◌+₆₄◌, ◌*₆₄◌, at}
use Rattle.gmm.proofs.batch_sums.add_features.Given as goal

abbrev pub invariant-loop-a : goal.invariant-loop-a
invariant-loop-a l = (l.a ≤ l.a-end) × (l.a-end ≡ length l.initial.row) × (length l.row ≡ length l.initial.row) × (l.row ≡ iter l.a (λ k s. set s k (at s k +₆₄ l.w *₆₄ at l.x k)) l.initial.row)

abbrev pub decreases-loop-a : goal.decreases-loop-a
decreases-loop-a l = l.a-end - l.a
