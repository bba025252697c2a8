-- The loop's invariant: after i turns the lists have the first i calls, and none has changed its length.
use mathlib.Core.Path.{◌≡◌}
use Prim.Native.Nat.{◌-◌, ◌≤◌}
use lib.ListN.{length}
use Rattle.lists.specs.Inner.TryLoad.{Placed, Filled}
use Rattle.lists.proofs.try_load.fill_lists.Given as goal

abbrev pub invariant-loop-i : goal.invariant-loop-i
invariant-loop-i l = (l.i ≤ l.count) × Placed l.dim l.seed l.i l.p × Filled l.dim l.seed l.i l.initial.frames l.initial.kinds l.initial.named l.initial.weights l.frames l.kinds l.named l.weights
    × (length l.frames ≡ length l.initial.frames) × (length l.kinds ≡ length l.initial.kinds) × (length l.named ≡ length l.initial.named) × (length l.weights ≡ length l.initial.weights)

abbrev pub decreases-loop-i : goal.decreases-loop-i
decreases-loop-i l = l.count - l.i
