-- The loop's invariant: a turn at each of the first m places; each place is made from its old value alone.
use mathlib.Core.Path.{◌≡◌}
use Prim.Native.Nat.{◌≤◌, ◌-◌}
use lib.ListN.{length, set}
use Rattle.loops.specs.Loop.{iter}
use Rattle.floats.specs.Operators.{◌+₃₂◌, ◌-₃₂◌, ◌*₃₂◌, at, f32}
use Rattle.gmm.proofs.diag_gmm.gmm.add_constants.Given as goal

abbrev pub invariant-loop-m : goal.invariant-loop-m
invariant-loop-m l = (l.m ≤ l.m-end) × (l.m-end ≡ length l.initial.out) × (length l.out ≡ length l.initial.out) × (l.out ≡ iter l.m (λ m s. set s m (at l.gconsts m +₃₂ at s m -₃₂ f32 0x3f00_0000 *₃₂ at l.b m)) l.initial.out)

abbrev pub decreases-loop-m : goal.decreases-loop-m
decreases-loop-m l = l.m-end - l.m
