-- The loop's invariant: what is left of the numbers, pushed on what the pushes so far left, is what all of them pushed give.
use mathlib.Core.Path.{◌≡◌}
use Prim.Native.Nat.{◌<◌}
use Rattle.stream.specs.Stream.{record_of, rings_of, Rest}
use Rattle.rounds.specs.Round.{cut, push_all}
use Rattle.rounds.proofs.trigger.push_all.Given as goal

abbrev pub invariant-loop-frame : goal.invariant-loop-frame
invariant-loop-frame l = (0 < l.n)
    × (l.frame-iterator.size ≡ l.n)
    × Rest l.fn.stream l.stream
    × (push_all (record_of l.stream) (rings_of l.stream) (cut l.n l.frame-iterator.rest.now) ≡ push_all (record_of l.fn.stream) (rings_of l.fn.stream) (cut l.n l.fn.numbers))
