-- `ivector_stats::rescale` meets its contract, by its two tests: no `max_count`, no change of the scale, or a change (`rescaled_never`, `rescaled_same`,
-- `rescaled_more` in Rescaling.antt).
use Rattle.ivector_stats.proofs.Rescaling.{rescaled_never, rescaled_same, rescaled_more}
use Rattle.ivector_stats.proofs.rescale.Goals as goal

pub returns-then-change-clause-rescaled : goal.returns-then-change-clause-rescaled
returns-then-change-clause-rescaled c =
    let a = c.args in
    let s = a.stats.now in
    rescaled_more a.dim a.prior_offset a.max_count a.tot_weight s.num_frames s.linear.now s.quadratic.now c.prior_scale-new_scale.result c.prior_scale-old_scale.result c.prior_scale-new_scale.ensures c.prior_scale-old_scale.ensures c.if-max_count.true c.if-change.true c.add_diagonal.ensures

pub returns-else-change-clause-rescaled : goal.returns-else-change-clause-rescaled
returns-else-change-clause-rescaled c =
    let a = c.args in
    let s = a.stats.now in
    rescaled_same a.dim a.prior_offset a.max_count a.tot_weight s.num_frames s.linear.now s.quadratic.now c.prior_scale-new_scale.result c.prior_scale-old_scale.result c.prior_scale-new_scale.ensures c.prior_scale-old_scale.ensures c.if-max_count.true c.if-change.false

pub returns-else-max_count-clause-rescaled : goal.returns-else-max_count-clause-rescaled
returns-else-max_count-clause-rescaled c =
    let a = c.args in
    let s = a.stats.now in
    rescaled_never a.dim a.prior_offset a.max_count a.tot_weight s.num_frames s.linear.now s.quadratic.now c.if-max_count.false
