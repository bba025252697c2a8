-- The loops' invariants of `posteriors::next_above`: none of those from g to k, or to i, is above the cutoff.
use mathlib.Core.Path.{◌≡◌}
use mathlib.Core.Bool.{false}
use Prim.Native.Nat.{ℕ, ◌-◌, ◌≤◌, ◌<◌}
use lib.ListN.{length}
use lib.Ieee.{lt}
use Rattle.floats.specs.Operators.{at}
use Rattle.gmm.proofs.posteriors.next_above.Given as goal

abbrev pub invariant-loop-k : goal.invariant-loop-k
invariant-loop-k l = (l.g ≤ l.k) × (l.k ≤ length l.loglikes) × ((i : ℕ) → i < l.k → l.g ≤ i → lt l.cutoff (at l.loglikes i) ≡ false)

abbrev pub decreases-loop-k : goal.decreases-loop-k
decreases-loop-k l = length l.loglikes - l.k

abbrev pub invariant-loop-i : goal.invariant-loop-i
invariant-loop-i l = record {
  from : l.g ≤ l.i;
  most : l.i ≤ length l.loglikes;
  none : (k : ℕ) → k < l.i → l.g ≤ k → lt l.cutoff (at l.loglikes k) ≡ false;
}
