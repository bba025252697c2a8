-- `ivector_stats::acc` meets its contract: the batch's sums, then the prior's scaling, are the definition's `acc` of any list of entries with these sums
-- (`acc_is` in Gaussians.antt).
use mathlib.Core.Path.{ap, ◌∙◌}
use Prim.Native.Nat.{ℕ}
use native.Mathlib.Omega.{arith}
use lib.Seq.{length-take-le}
use Rattle.ivector_stats.specs.Inner.{linear_over, quadratic_over}
use Rattle.ivector_stats.proofs.Gaussians.{acc_is}
use Rattle.ivector_stats.proofs.acc.Goals as goal

pub returns-clause-added : goal.returns-clause-added
returns-clause-added c =
    let a = c.args in
    let d = a.info.dims in
    let z = a.sums in
    let p = c.requires in
    let s = a.stats.now in
    let e = c.acc_batch-tot_weight.ensures in
    let linear = e.linear ∙ ap (λ (n : ℕ). linear_over d.feat_dim n a.sigma_inv_m.now z.seen.now z.sum.now s.linear.now z.count) (length-take-le _ _ p.dim.1) in
    let quadratic = e.quadratic ∙ ap (λ (n : ℕ). quadratic_over n a.u.now z.seen.now z.tot.now s.quadratic.now z.count) p.stats.1 in
    let scaled = rw e.num_frames at c.rescale.ensures.rescaled in
    λ es h. scaled
    ∙ acc_is d.feat_dim es z.count z.seen.now z.tot.now z.sum.now h (omega (arith, p.slots)) d.ivector_dim a.sigma_inv_m.now a.u.now a.info.prior_offset a.info.opts.max_count _ s.linear.now s.quadratic.now linear quadratic e.weight
