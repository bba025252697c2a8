-- The loop's invariant of `posteriors::collect`: put down are those that pass in front of Gaussian k.
use mathlib.Core.Path.{◌≡◌}
use Prim.Native.Nat.{◌+◌, ◌-◌, ◌≤◌}
use lib.ListN.{length}
use Rattle.floats.specs.Operators.{◌-₃₂◌}
use Rattle.gmm.specs.Inner.PosteriorsRooms.{Collects}
use Rattle.gmm.proofs.posteriors.collect.Given as goal

abbrev pub invariant-loop-n : goal.invariant-loop-n
invariant-loop-n l = record {
  from : l.first ≤ l.n;
  upto : l.n ≤ length l.gauss;
  long : length l.gauss ≡ length l.initial.gauss;
  long2 : length l.likes ≡ length l.initial.gauss;
  in_list : l.k ≤ length l.loglikes;
  on : l.g + l.n ≤ l.k + l.first;
  collected : Collects l.cutoff (λ x. x -₃₂ l.max_like) l.loglikes l.g l.first l.k l.n l.initial.gauss l.initial.likes l.gauss l.likes;
}

abbrev pub decreases-loop-n : goal.decreases-loop-n
decreases-loop-n l = length l.gauss - l.n
