-- `raw_less_mean` meets its contract. The loop's invariant: the first d places are filled with the differences.
use Rattle.std.proofs.Common.{◌≡◌, ◌-◌, ◌≤◌, length}
use Rattle.loops.specs.Inner.{fill}
use Rattle.floats.specs.Operators.{◌-₃₂◌, ◌/₆₄◌, at}
use Rattle.floats.specs.Narrow.{narrowed}
use Rattle.stream.proofs.frame_views.raw_less_mean.Given as goal

abbrev pub invariant-loop-d : goal.invariant-loop-d
invariant-loop-d l =
    (l.d ≤ l.d-end) × (l.d-end ≡ length l.raw) × (length l.out ≡ length l.initial.out)
    × (l.out ≡ fill l.d (λ d. at l.raw d -₃₂ narrowed (at l.cmvn d /₆₄ at l.cmvn (length l.raw))) l.initial.out)

abbrev pub decreases-loop-d : goal.decreases-loop-d
decreases-loop-d l = l.d-end - l.d
