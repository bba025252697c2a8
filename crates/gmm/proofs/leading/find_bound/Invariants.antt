-- The loop's invariant of `leading::find_bound`: so many are not behind the bound, if there is one.
use Rattle.std.specs.Prelude.{Some, IfSome}
use mathlib.Core.List.{List}
use Prim.Native.Nat.{ℕ, ◌≤◌}
use lib.ListN.{length}
use Rattle.loops.specs.Lists.{those}
use Rattle.gmm.specs.Inner.Leading.{posts_in, stays}
use Rattle.gmm.proofs.leading.find_bound.Given as goal

abbrev pub invariant-loop-t : goal.invariant-loop-t
invariant-loop-t l = (l.looks ≤ 6) × IfSome l.bound (λ v. (gauss : List ℕ) → l.n ≤ length gauss → l.num_gselect ≤ length (those (stays (Some v)) (posts_in l.n gauss l.posts)))
