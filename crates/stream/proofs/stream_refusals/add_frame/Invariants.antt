-- The loop's invariant: after d turns the first d sums are put.
use Prim.Native.Nat.{◌≤◌, ◌+◌, ◌-◌}
use mathlib.Core.Path.{◌≡◌}
use lib.ListN.{length}
use Rattle.loops.specs.Lists.{build}
use Rattle.loops.specs.Ring.{put}
use Rattle.floats.specs.Operators.{◌+₆₄◌, at}
use Rattle.stream.proofs.stream_refusals.add_frame.Given as goal

abbrev pub invariant-loop-d : goal.invariant-loop-d
invariant-loop-d l = (l.d ≤ l.d-end) × (l.d-end ≡ length l.frame) × (length l.rows ≡ length l.initial.rows) × (l.rows ≡ put l.next (build l.d (λ k. at l.initial.rows (l.last + k) +₆₄ at l.frame k)) l.initial.rows)

abbrev pub decreases-loop-d : goal.decreases-loop-d
decreases-loop-d l = l.d-end - l.d
