-- `load` meets its contract: a model that the judgement passes is filled in by three calls, whose eight tables are those of the definition (Tables.antt).
use Rattle.definition.specs.Model.{tables_from}
use Rattle.model.proofs.Tables as T
use Rattle.model.proofs.ivector_info.load.Goals as goal

pub fill_gmm-requires-clause-gconsts_fit : goal.fill_gmm-requires-clause-gconsts_fit
fill_gmm-requires-clause-gconsts_fit c = T.gconsts_fit c.in_ok-judged.ensures.stands

pub fill_gmm-requires-clause-means_fit : goal.fill_gmm-requires-clause-means_fit
fill_gmm-requires-clause-means_fit c = T.means_fit c.in_ok-judged.ensures.stands

pub fill_gmm-requires-clause-vars_fit : goal.fill_gmm-requires-clause-vars_fit
fill_gmm-requires-clause-vars_fit c = T.vars_fit c.in_ok-judged.ensures.stands

pub fill_gaussians-requires-clause-sigma_inv_m_room : goal.fill_gaussians-requires-clause-sigma_inv_m_room
fill_gaussians-requires-clause-sigma_inv_m_room c = T.sims_fit c.in_ok-judged.ensures.stands

pub fill_gaussians-requires-clause-u_room : goal.fill_gaussians-requires-clause-u_room
fill_gaussians-requires-clause-u_room c = T.us_fit c.in_ok-judged.ensures.stands

pub fill_gaussians-requires-clause-scratch_room : goal.fill_gaussians-requires-clause-scratch_room
fill_gaussians-requires-clause-scratch_room c = T.scratch_fits c.in_ok-judged.ensures.stands

pub fill_lda-requires : goal.fill_lda-requires
fill_lda-requires c = T.lda_fits c.in_ok-judged.ensures.stands

pub returns : goal.returns
returns c =
    let a = c.args in
    let x = c.in_ok-judged.ensures.stands in
    let e = c.in_ok-judged.ensures.value in
    let t = tables_from a.gconsts.now a.means_invvars_t.now a.inv_vars_t.now a.sigma_inv_m.now a.u.now a.lda_t.now a.lda_offset.now a.global_mean_stats.now in
    let g = c.fill_gmm.ensures in
    let s = c.fill_gaussians.ensures in
    let l = c.fill_lda.ensures in
    (T.loaded_is x e, T.tables_are x e t g.gconsts_after g.means_after g.vars_after s.sigma_inv_m_after s.u_after l.lda_after l.offset_after l.global_after, T.scratch_free x e _ _)
