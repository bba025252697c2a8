-- The loop's invariant of `linear::next_direction`: a turn at each of the first i places.
use mathlib.Core.Path.{◌≡◌}
use Prim.Native.Nat.{◌≤◌}
use lib.ListN.{length, set}
use Rattle.floats.specs.Operators.{◌-₆₄◌, ◌*₆₄◌, at}
use Rattle.loops.specs.Loop.{iter}
use Rattle.algebra.proofs.linear.next_direction.Given as goal

abbrev pub invariant-loop-i : goal.invariant-loop-i
invariant-loop-i l = record {
  most : l.i ≤ length l.initial.p;
  end : l.i-end ≡ length l.initial.p;
  long : length l.p ≡ length l.initial.p;
  turns : l.p ≡ iter l.i (λ i p. set p i (l.beta *₆₄ at p i -₆₄ at l.r i)) l.initial.p;
}
