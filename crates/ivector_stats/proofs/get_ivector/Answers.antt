-- `ivector_stats::get_ivector` meets its contract, by the frame count: above 0 the solve from the raised start (`solved`), else the prior (`not_solved`,
-- both in Solving.antt).
use Rattle.ivector_stats.proofs.Solving.{solved, not_solved}
use Rattle.ivector_stats.proofs.get_ivector.Goals as goal

pub returns-then-stats : goal.returns-then-stats
returns-then-stats c =
    let a = c.args in
    let s = a.stats in
    solved a.info.dims.ivector_dim a.info.prior_offset a.info.opts.num_cg_iters s.num_frames s.linear.now s.quadratic.now a.ivector.now c.if-stats.true c.raise.ensures c.linear_cgd.ensures

pub returns : goal.returns
returns c =
    let a = c.args in
    let s = a.stats in
    not_solved a.info.dims.ivector_dim a.info.prior_offset a.info.opts.num_cg_iters s.num_frames s.linear.now s.quadratic.now a.ivector.now c.if-stats.false c.prior_vector.ensures
