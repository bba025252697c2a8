-- The loop's invariant: `bad`, or one left from i on, is whether there is one.
use mathlib.Core.Path.{◌≡◌}
use mathlib.Core.Bool.{not, ◌||◌}
use lib.ListN.{drop}
use lib.Ieee.Scale.{finite}
use Rattle.loops.specs.Lists.{any_of}
use Rattle.stream.proofs.stream_refusals.any_not_finite.Given as goal

abbrev pub invariant-loop-i : goal.invariant-loop-i
invariant-loop-i l = (l.bad || any_of (λ v. not (finite v)) (drop l.i l.x)) ≡ any_of (λ v. not (finite v)) l.x
