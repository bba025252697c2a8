-- `update_batch` meets its contract: the sums of a batch of some places go into the statistics, then the solve by their frame count (`batch_taken`,
-- `estimated` in Updated.antt).
use mathlib.Core.Path.{◌≡◌, ◌∙◌}
use Rattle.std.proofs.Common.{rules}
use Rattle.program.specs.Rooms.{estimate_from}
use Rattle.definition.specs.Estimate.{entries, updated}
use Rattle.stream.specs.Fetched.{model_of, frames_of, whole_of}
use Rattle.stream.specs.Inner.IvectorUpdate.{learnt}
use Rattle.stream.proofs.Updated.{batch_taken, estimated}
use Rattle.stream.proofs.ivector_update.update_batch.Goals as goal

pub returns-clause-learnt : goal.returns-clause-learnt
returns-clause-learnt c =
    let b = c.args.batch.now in
    let a = c.args in
    let e = learnt a.num_frames (estimate_from a.cmvn_stats.now a.linear.now a.quadratic.now a.current.now) in
    let z = c.acc.new.stats in
    let added = batch_taken (model_of b) _ e.stats b.info.opts b.intake c.requires.some in
    let gained = (entries (model_of b) (frames_of b) (whole_of b) a.cmvn_stats.now).1 in
    let sums = c.of.ensures in
    let solved = rw (c.lent-learnt.ensures.num_frames, c.lent-learnt.ensures.linear, c.lent-learnt.ensures.quadratic) at c.get_ivector.ensures in
    let h : learnt z.num_frames (estimate_from c.take_batch-nans.new.cmvn z.linear.now z.quadratic.now c.get_ivector.new.ivector) ≡ updated (model_of b) (frames_of b) (whole_of b) e =
    estimated (model_of b) (frames_of b) (whole_of b) e c.take_batch-nans.ensures.state (c.acc.ensures.added gained (rw (sums.count, sums.seen, sums.tot, sums.sum) c.take_batch-nans.ensures.sums) ∙ added) solved in
    search rules
