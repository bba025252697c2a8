-- The loop's invariant of `leading::keep`: of the candidates from `first` up to j those that stay stand together, and from j on each place is as it was.
use Rattle.std.specs.Prelude.{Some}
use mathlib.Core.Path.{◌≡◌}
use mathlib.Core.List.{◌++◌}
use Prim.Native.Nat.{ℕ, ◌≤◌}
use lib.ListN.{length, get_or, drop}
use Rattle.loops.specs.Lists.{those}
use Rattle.floats.specs.Operators.{at}
use Rattle.gmm.specs.Inner.Leading.{posts_in, stays}
use Rattle.gmm.proofs.leading.keep.Given as goal

abbrev pub invariant-loop-j : goal.invariant-loop-j
invariant-loop-j l = record {
  from : l.first ≤ l.n;
  most : l.n ≤ l.j;
  upto : l.j ≤ l.end;
  long : length l.gauss ≡ length l.initial.gauss;
  long2 : length l.posts ≡ length l.initial.posts;
  rest : (k : ℕ) → l.j ≤ k → get_or l.gauss k 0 ≡ get_or l.initial.gauss k 0;
  rest2 : (k : ℕ) → l.j ≤ k → at l.posts k ≡ at l.initial.posts k;
  kept : posts_in l.n l.gauss l.posts ≡ posts_in l.first l.initial.gauss l.initial.posts ++ those (stays (Some l.v)) (drop l.first (posts_in l.j l.initial.gauss l.initial.posts));
}
