-- The loop's invariant of `leading::staying`: counted are those of the first j.
use mathlib.Core.Path.{◌≡◌}
use mathlib.Core.List.{List}
use Rattle.std.specs.Prelude.{Some}
use Prim.Native.Nat.{ℕ, ◌≤◌}
use lib.ListN.{length}
use Rattle.loops.specs.Lists.{those}
use Rattle.gmm.specs.Inner.Leading.{posts_in, stays}
use Rattle.gmm.proofs.leading.staying.Given as goal

abbrev pub invariant-loop-j : goal.invariant-loop-j
invariant-loop-j l = (l.count ≤ l.j) × ((gauss : List ℕ) → l.n ≤ length gauss → l.count ≡ length (those (stays (Some l.v)) (posts_in l.j gauss l.posts)))
