-- The loop's invariant: after i turns the place is that after i calls.
use Prim.Native.Nat.{◌-◌, ◌≤◌}
use Rattle.lists.specs.Inner.TryLoad.{Placed}
use Rattle.lists.proofs.try_load.pushes_of.Given as goal

abbrev pub invariant-loop-i : goal.invariant-loop-i
invariant-loop-i l = (l.i ≤ l.count) × Placed l.dim l.seed l.i l.p

abbrev pub decreases-loop-i : goal.decreases-loop-i
decreases-loop-i l = l.count - l.i
