-- The settings' answer, then the load with its options: either is the load with the settings (WithSettings.antt).
use Rattle.std.specs.Prelude.{Err}
use mathlib.Core.Path.{refl, ap, ◌∙◌, subst}
use lib.ListN.{length}
use Rattle.definition.specs.declared.IvectorOptions.{IvectorOptions}
use Rattle.definition.specs.Reader.{Got}
use Rattle.definition.specs.Model.{Model, tables_from, table_lengths_of, load, loaded_of, loaded_tables}
use Rattle.kaldi.specs.Settings.{settings_of}
use Rattle.model.specs.Load.{files_of, scratch_kept}
use Rattle.answers.specs.Answers.{load_answer}
use Rattle.exports.specs.Answers.{settings_answer}
use Rattle.exports.proofs.WithSettings.{same_options, not_loaded, is_loaded, kept_with}
use Rattle.exports.proofs.model_calls.shofrakin_load_with_settings.Goals as goal

pub returns-then-a-ne0 : goal.returns-then-a-ne0
returns-then-a-ne0 c =
    let a = c.args in
    let t = tables_from a.gconsts.now a.means_invvars_t.now a.inv_vars_t.now a.sigma_inv_m.now a.u.now a.lda_t.now a.lda_offset.now a.global_mean_stats.now in
    let f = files_of a.gmm.now a.extractor.now a.lda.now a.cmvn.now in
    let n = length a.scratch.now in
    let o = (settings_answer (settings_of a.splice.now a.online_cmvn.now)).opts in
    let x = c.shofrakin_settings-a.ensures in
    let q = not_loaded a.splice.now a.online_cmvn.now x f (table_lengths_of t) n c.if-a-ne0.true in (
      c.load_answer.ensures
          ∙ ap (λ (p : IvectorOptions). load_answer p (Err c.shofrakin_settings-a.result.refusal)) (same_options a.splice.now a.online_cmvn.now x)
          ∙ ap (λ (g : Got Model). load_answer o (loaded_of g)) q,
      ap (λ (g : Got Model). loaded_tables g t) q,
      subst (λ (g : Got Model). scratch_kept g a.scratch.now a.scratch.now) q refl,
    )

pub returns : goal.returns
returns c =
    let a = c.args in
    let t = tables_from a.gconsts.now a.means_invvars_t.now a.inv_vars_t.now a.sigma_inv_m.now a.u.now a.lda_t.now a.lda_offset.now a.global_mean_stats.now in
    let f = files_of a.gmm.now a.extractor.now a.lda.now a.cmvn.now in
    let n = length a.scratch.now in
    let o = (settings_answer (settings_of a.splice.now a.online_cmvn.now)).opts in
    let x = c.shofrakin_settings-a.ensures in
    let q = is_loaded a.splice.now a.online_cmvn.now x f (table_lengths_of t) n c.if-a-ne0.false in
    let e = c.shofrakin_load.ensures in (
      e.0
          ∙ ap (λ (p : IvectorOptions). load_answer p (loaded_of (load c.shofrakin_settings-a.result.opts f (table_lengths_of t) n))) (same_options a.splice.now a.online_cmvn.now x)
          ∙ ap (λ (g : Got Model). load_answer o (loaded_of g)) q,
      e.1 ∙ ap (λ (g : Got Model). loaded_tables g t) q,
      kept_with q a.scratch.now _ e.2,
    )
