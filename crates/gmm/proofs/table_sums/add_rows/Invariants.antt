-- The loop's invariant: the sums are those after k rows.
use mathlib.Core.Path.{◌≡◌}
use Prim.Native.Nat.{◌+◌, ◌*◌, ◌-◌, ◌≤◌}
use lib.ListN.{length}
use lib.Ieee.{Float}
use Rattle.loops.specs.Inner.{fill}
use Rattle.floats.specs.Operators.{◌*₃₂◌, at, sum₃₂}
use Rattle.gmm.specs.Factor.{Gives}
use Rattle.gmm.proofs.table_sums.add_rows.Given as goal

abbrev pub invariant-loop-k : goal.invariant-loop-k
invariant-loop-k g l = record {
  within : l.k ≤ l.d;
  as_long : length l.sum ≡ length l.initial.sum;
  sums : (f : Float → Float) → Gives (goal.F-post g l.times) f
      → l.sum ≡ fill (length l.initial.sum) (λ m. sum₃₂ (at l.initial.sum m) l.k (λ k. at l.table (k * length l.initial.sum + m) *₃₂ f (at l.x k))) l.initial.sum;
}

abbrev pub decreases-loop-k : goal.decreases-loop-k
decreases-loop-k g l = l.d - l.k
