-- The loop's invariant of `leading::slide`: sliding what is in hand from place j on gives what sliding from the first place gives.
use mathlib.Core.Path.{◌≡◌}
use lib.ListN.{length}
use Rattle.gmm.specs.Inner.Leading.{slid}
use Rattle.gmm.proofs.leading.slide.Given as goal

abbrev pub invariant-loop-j : goal.invariant-loop-j
invariant-loop-j g l = record {
  long : length l.room ≡ length l.initial.room;
  rest : slid l.j l.n l.moving l.room ≡ slid l.first l.n l.fn.x l.initial.room;
}
