-- The loop's invariant of `linear::negated`: the first i places are filled with the negatives.
use mathlib.Core.Path.{◌≡◌}
use Prim.Native.Nat.{◌≤◌}
use lib.ListN.{length}
use lib.Ieee.{neg}
use Rattle.floats.specs.Operators.{at}
use Rattle.loops.specs.Inner.{fill}
use Rattle.algebra.proofs.linear.negated.Given as goal

abbrev pub invariant-loop-i : goal.invariant-loop-i
invariant-loop-i l = record {
  most : l.i ≤ length l.p;
  long : length l.r ≡ length l.initial.r;
  filled : l.r ≡ fill l.i (λ i. neg (at l.p i)) l.initial.r;
}
