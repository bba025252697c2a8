-- The loop's invariant: the places from j up to `end` are of one frame, and their weights are summed.
use Rattle.stream.proofs.Groups.{Sums}
use Rattle.stream.proofs.delta_weights.sum_group.Given as goal

abbrev pub invariant-loop-end : goal.invariant-loop-end
invariant-loop-end l = Sums l.n l.waiting.frames.now l.waiting.weights.now l.j l.end l.weight
