-- The loops' invariants of `packed_matrix::weighted_rows`: each place holds the sum over the first rows, those before k, and then those before i.
use mathlib.Core.Path.{◌≡◌}
use Prim.Native.Nat.{◌-◌, ◌≤◌}
use lib.ListN.{length}
use Rattle.loops.specs.Lists.{build}
use Rattle.algebra.proofs.Square.{sum_of}
use Rattle.algebra.proofs.packed_matrix.weighted_rows.Given as goal

abbrev pub invariant-loop-k : goal.invariant-loop-k
invariant-loop-k l = record {
  most : l.k ≤ length l.x;
  long : length l.out ≡ l.w;
  sums : l.out ≡ build l.w (sum_of l.s l.rows l.x l.k);
}

abbrev pub decreases-loop-k : goal.decreases-loop-k
decreases-loop-k l = length l.x - l.k

abbrev pub invariant-loop-i : goal.invariant-loop-i
invariant-loop-i l = record {
  most : l.i ≤ length l.x;
  long : length l.out ≡ l.w;
  sums : l.out ≡ build l.w (sum_of l.s l.rows l.x l.i);
}
