-- The loops' invariants of `Square::backward`: t rows are solved from the back, as the definition does it; of row i the products taken off so far.
use mathlib.Core.Path.{◌≡◌}
use Prim.Native.Nat.{◌≤◌, ◌<◌, ◌+◌, ◌*◌}
use lib.ListN.{length}
use Rattle.floats.specs.Operators.{at}
use Rattle.loops.specs.Loop.{iter}
use Rattle.definition.specs.Solve.{less_products}
use Rattle.algebra.proofs.Cells.{backward_step}
use Rattle.algebra.proofs.linear.Square.backward.Given as goal

abbrev pub invariant-loop-k : goal.invariant-loop-k
invariant-loop-k l = record {
  most : l.k ≤ l.t;
  in_turn : l.t < l.n;
  row_in : l.i * l.n + l.n ≤ length l.self.cells.now;
  sum : l.s ≡ less_products (at l.y l.i) l.k (λ k. at l.self.cells.now ((l.i + 1 + k) * l.n + l.i)) (λ k. at l.x (l.i + 1 + k));
}

abbrev pub invariant-loop-t : goal.invariant-loop-t
invariant-loop-t l = record {
  most : l.t ≤ l.n;
  long : length l.x ≡ l.n;
  rows : l.x ≡ iter l.t (backward_step l.self.cells.now l.n l.y) l.initial.x;
}
