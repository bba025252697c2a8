-- The loop's invariant of `Square::forward`: i rows are solved from the front, as the definition does it.
use mathlib.Core.Path.{◌≡◌}
use Prim.Native.Nat.{◌≤◌}
use lib.ListN.{length}
use Rattle.loops.specs.Loop.{iter}
use Rattle.algebra.proofs.Cells.{forward_step}
use Rattle.algebra.proofs.linear.Square.forward.Given as goal

abbrev pub invariant-loop-i : goal.invariant-loop-i
invariant-loop-i l = record {
  most : l.i ≤ l.n;
  long : length l.y ≡ l.n;
  rows : l.y ≡ iter l.i (forward_step l.self.cells.now l.n l.b) l.initial.y;
}
