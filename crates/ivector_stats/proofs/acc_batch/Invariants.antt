-- The loop's invariant: both terms and the weight are those of the first k Gaussians seen; a turn adds one.
use mathlib.Core.Path.{◌≡◌}
use Prim.Native.Nat.{◌≤◌}
use lib.ListN.{length}
use Rattle.floats.specs.Operators.{zero₆₄, at, sum₆₄}
use Rattle.ivector_stats.specs.Rooms.{SameStats}
use Rattle.ivector_stats.specs.Inner.{linear_over, quadratic_over}
use Rattle.ivector_stats.proofs.acc_batch.Given as goal

abbrev pub invariant-loop-k : goal.invariant-loop-k
invariant-loop-k l = record {
  most : l.k ≤ l.k-end;
  end : l.k-end ≡ l.sums.count;
  same : SameStats l.initial.stats l.stats;
  num_frames : l.stats.num_frames ≡ l.initial.stats.num_frames;
  row_long : length l.row ≡ length l.initial.row;
  linear : l.stats.linear.now ≡ linear_over l.d (length l.initial.row) l.sigma_inv_m l.sums.seen.now l.sums.sum.now l.initial.stats.linear.now l.k;
  quadratic : l.stats.quadratic.now ≡ quadratic_over (length l.initial.stats.quadratic.now) l.u l.sums.seen.now l.sums.tot.now l.initial.stats.quadratic.now l.k;
  weight : l.tot_weight ≡ sum₆₄ zero₆₄ l.k (at l.sums.tot.now);
}
