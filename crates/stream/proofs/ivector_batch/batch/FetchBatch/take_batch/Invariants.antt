-- The loop's invariant: the batch is partway, what is left of it is what it has from place j on, and the rooms keep their lengths.
use mathlib.Core.Path.{◌≡◌}
use Prim.Native.Nat.{ℕ, ◌+◌, ◌-◌, ◌≤◌}
use lib.ListN.{length}
use Rattle.definition.specs.Changes.{Batch}
use Rattle.definition.specs.Estimate.{nans_over}
use Rattle.gmm.specs.Inner.DiagGmmRooms.{SameLikes}
use Rattle.gmm.specs.Inner.BatchSumsRooms.{SlotsIn, SameSums}
use Rattle.stream.specs.Inner.IvectorBatch.{left_of, Partway}
use Rattle.stream.specs.Fetched.{model_of, frames_of}
use Rattle.stream.proofs.ivector_batch.batch.FetchBatch.take_batch.Given as goal

abbrev pub invariant-loop-j : goal.invariant-loop-j
invariant-loop-j l = let b = l.self in
    let M = model_of b in
    let F = frames_of b in
    let left : ℕ → Batch = left_of b.info.opts b.intake l.places in
    record {
      most : l.j ≤ l.places;
      state : length l.cmvn ≡ length l.initial.cmvn;
      normalized : length l.normalized ≡ 64;
      raw : length l.raw ≡ 64;
      same_sums : SameSums l.initial.sums l.sums;
      same_likes : SameLikes l.initial.rooms l.rooms;
      slots : SlotsIn b.info.dims.num_gauss b.info.dims.feat_dim l.sums;
      partway : Partway M F (left 0) l.initial.cmvn (left l.j) l.cmvn l.sums;
      nans : l.nans + nans_over M F (left l.j) l.cmvn ≡ nans_over M F (left 0) l.initial.cmvn;
    }

abbrev pub decreases-loop-j : goal.decreases-loop-j
decreases-loop-j l = l.places - l.j
