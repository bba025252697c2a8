-- The loops' invariants of `linear::factor`: the rows, and the cells of a row, that the definition has gone through.
use mathlib.Core.Path.{◌≡◌}
use mathlib.Core.Bool.{true}
use Prim.Native.Nat.{◌≤◌, ◌+◌, ◌*◌}
use lib.ListN.{length}
use Rattle.loops.specs.Loop.{on, leave}
use Rattle.definition.specs.Solve.{cell}
use Rattle.algebra.proofs.linear.factor.Given as goal

abbrev pub invariant-loop-j : goal.invariant-loop-j
invariant-loop-j l = record {
  most : l.j ≤ l.i + 1;
  long : length l.l ≡ l.n * l.n;
  row_in : l.i * l.n + l.n ≤ length l.l;
  not_left : l.has_factor ≡ true;
  cells : on l.l ≡ leave l.j (cell l.a.cells.now l.n l.i) l.initial.l;
}

abbrev pub invariant-rows : goal.invariant-rows
invariant-rows l = record {
  most : l.i ≤ l.n;
  long : length l.l ≡ l.n * l.n;
  not_left : l.has_factor ≡ true;
  rows : on l.l ≡ leave l.i (λ i. leave (i + 1) (cell l.a.cells.now l.n i)) l.initial.l;
}
