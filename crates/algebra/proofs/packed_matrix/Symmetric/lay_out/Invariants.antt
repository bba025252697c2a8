-- The loop's invariant of `Symmetric::lay_out`: the first i columns stand in the room, and row i of the packed matrix begins at `start`.
use mathlib.Core.Path.{◌≡◌}
use Prim.Native.Nat.{◌-◌, ◌≤◌}
use lib.ListN.{length}
use Rattle.loops.specs.Lists.{build, flat, over}
use Rattle.floats.specs.Operators.{at}
use Rattle.definition.specs.Kaldi.{triangle}
use Rattle.definition.specs.Model.{packed}
use Rattle.algebra.proofs.packed_matrix.Symmetric.lay_out.Given as goal

abbrev pub invariant-loop-i : goal.invariant-loop-i
invariant-loop-i l = (l.i ≤ l.n) × (length l.square ≡ length l.initial.square) × (l.start ≡ triangle l.i) × (l.square ≡ over (flat l.i (λ i. build l.n (λ j. at l.self.cells.now (packed j i)))) l.initial.square)

abbrev pub decreases-loop-i : goal.decreases-loop-i
decreases-loop-i l = l.n - l.i
