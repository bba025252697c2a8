-- The plain load, and its answer as a record: every equation is that of `load`.
use mathlib.Core.Path.{ap, ◌∙◌}
use Rattle.answers.specs.Answers.{load_answer}
use Rattle.exports.proofs.model_calls.shofrakin_load.Goals as goal

pub shape_of-gconsts : goal.shape_of-gconsts
shape_of-gconsts c = c.load-loaded.auto.gconsts

pub shape_of-means_invvars_t : goal.shape_of-means_invvars_t
shape_of-means_invvars_t c = c.load-loaded.auto.means_invvars_t

pub shape_of-inv_vars_t : goal.shape_of-inv_vars_t
shape_of-inv_vars_t c = c.load-loaded.auto.inv_vars_t

pub shape_of-sigma_inv_m : goal.shape_of-sigma_inv_m
shape_of-sigma_inv_m c = c.load-loaded.auto.sigma_inv_m

pub shape_of-u : goal.shape_of-u
shape_of-u c = c.load-loaded.auto.u

pub shape_of-lda_t : goal.shape_of-lda_t
shape_of-lda_t c = c.load-loaded.auto.lda_t

pub shape_of-lda_offset : goal.shape_of-lda_offset
shape_of-lda_offset c = c.load-loaded.auto.lda_offset

pub shape_of-global_mean_stats : goal.shape_of-global_mean_stats
shape_of-global_mean_stats c = c.load-loaded.auto.global_mean_stats

pub shape_of-scratch : goal.shape_of-scratch
shape_of-scratch c = c.load-loaded.auto.scratch

pub returns : goal.returns
returns c = (c.load_answer.ensures ∙ ap (load_answer c.args.opts) (c.numbered.ensures ∙ c.load-loaded.ensures.0), c.load-loaded.ensures.1, c.load-loaded.ensures.2)
