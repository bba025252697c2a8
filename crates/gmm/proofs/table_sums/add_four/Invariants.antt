-- The loop's invariant: the first m places are filled with the sums; a turn does one more.
use mathlib.Core.Path.{◌≡◌}
use Prim.Native.Nat.{◌-◌, ◌≤◌}
use lib.ListN.{length}
use Rattle.loops.specs.Inner.{fill}
use Rattle.floats.specs.Operators.{◌+₃₂◌, ◌*₃₂◌, at}
use Rattle.gmm.proofs.table_sums.add_four.Given as goal

abbrev pub invariant-loop-m : goal.invariant-loop-m
invariant-loop-m l = (l.m ≤ l.m-end) × (l.m-end ≡ length l.initial.sum) × (length l.sum ≡ length l.initial.sum) × (l.sum ≡ fill l.m (λ m. at l.initial.sum m +₃₂ at l.r0 m *₃₂ l.v0 +₃₂ at l.r1 m *₃₂ l.v1 +₃₂ at l.r2 m *₃₂ l.v2 +₃₂ at l.r3 m *₃₂ l.v3) l.initial.sum)

abbrev pub decreases-loop-m : goal.decreases-loop-m
decreases-loop-m l = l.m-end - l.m
