-- The loop's invariant: after i turns the first i numbers are written, and i draws are done.
use mathlib.Core.Path.{◌≡◌}
use Prim.Native.Nat.{◌+◌}
use Rattle.loops.specs.Inner.{fill}
use Rattle.lists.specs.Draws.{draws, number_of}
use Rattle.lists.proofs.try_load.put_frame.Given as goal

abbrev pub invariant-loop-x : goal.invariant-loop-x
invariant-loop-x l = record {
  state : l.t ≡ draws l.x-index l.s;
  so_far : l.numbers ≡ fill l.x-index (λ i. number_of (draws (i + 1) l.s)) l.fn.numbers;
}
