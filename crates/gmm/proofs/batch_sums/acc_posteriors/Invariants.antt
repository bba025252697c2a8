-- The loop's invariant: the slots are fair, and hold the sums of the entries before and of the first i posteriors; a turn is one entry
-- more.
use Rattle.std.proofs.Common.{◌-◌, ◌≤◌, map}
use Rattle.gmm.specs.Inner.Leading.{posts_in}
use Rattle.gmm.specs.Batch.{scaled_entry}
use Rattle.gmm.specs.Inner.BatchSumsRooms.{Grown, SameSums}
use Rattle.gmm.proofs.batch_sums.acc_posteriors.Given as goal

abbrev pub invariant-loop-i : goal.invariant-loop-i
invariant-loop-i l = record {
  most : l.i ≤ l.n;
  same : SameSums l.initial.sums l.sums;
  grown : Grown l.num_gauss l.d (map (scaled_entry l.scale l.raw) (posts_in l.i l.chosen.gauss.now l.chosen.posts.now)) l.initial.sums l.sums;
}

abbrev pub decreases-loop-i : goal.decreases-loop-i
decreases-loop-i l = l.n - l.i
