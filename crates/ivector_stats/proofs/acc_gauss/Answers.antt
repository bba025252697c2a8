-- `ivector_stats::acc_gauss` meets its contract: what the rows leave, added to each term, is the Gaussian's part (`gauss_linear`, `gauss_quadratic` in
-- Gaussians.antt). Its rows lie in the tables by the contract.
use lib.ListN.{length}
use Rattle.ivector_stats.proofs.Gaussians.{gauss_linear, gauss_quadratic}
use Rattle.ivector_stats.proofs.acc_gauss.Goals as goal

pub returns-clause-linear : goal.returns-clause-linear
returns-clause-linear c =
    let a = c.args in
    gauss_linear (length a.x.now) (length a.row.now) a.g a.sigma_inv_m.now a.x.now a.stats.now.linear.now c.requires.linear_long c.weighted_rows.ensures c.add.ensures

pub returns-clause-quadratic : goal.returns-clause-quadratic
returns-clause-quadratic c =
    let a = c.args in
    gauss_quadratic a.g (length a.stats.now.quadratic.now) a.w a.u.now a.stats.now.quadratic.now c.add_scaled.ensures
