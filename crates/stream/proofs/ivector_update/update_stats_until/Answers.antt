-- `update_stats_until` meets its contract: a batch of no place adds nothing, and the solve is by the statistics as they are; one of some is that of
-- `update_batch`, whether the rooms are for 64 Gaussians or for 1,024. That a batch of no place is empty is in Places.antt.
use Rattle.program.specs.Rooms.{estimate_from}
use Rattle.stream.specs.Fetched.{model_of, frames_of, whole_of}
use Rattle.stream.proofs.Places.{no_batch}
use Rattle.stream.specs.Inner.IvectorUpdate.{learnt}
use Rattle.stream.proofs.Updated.{none_taken, nans_in_none, state_none, estimated}
use Rattle.stream.proofs.ivector_update.update_stats_until.Goals as goal

pub returns-then-places-eq0-clause-learnt : goal.returns-then-places-eq0-clause-learnt
returns-then-places-eq0-clause-learnt c =
    let a = c.args in
    let b = a.batch.now in
    let e = learnt a.num_frames (estimate_from a.cmvn_stats.now a.linear.now a.quadratic.now a.current.now) in
    let none = no_batch b.info.opts b.intake c.places.ensures c.if-places-eq0.true in
    estimated (model_of b) (frames_of b) (whole_of b) e (state_none (model_of b) (frames_of b) a.cmvn_stats.now none) (none_taken (model_of b) _ e.stats none) c.get_ivector.ensures

pub returns-then-places-eq0-clause-nans : goal.returns-then-places-eq0-clause-nans
returns-then-places-eq0-clause-nans c =
    let b = c.args.batch.now in
    nans_in_none (model_of b) (frames_of b) c.args.cmvn_stats.now (no_batch b.info.opts b.intake c.places.ensures c.if-places-eq0.true)
