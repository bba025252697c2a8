-- The tables of a load: a refusal leaves them as they were, and what the eight fills say of one table each is one equation of all eight.
-- The lengths that the judgement passed are room for each fill.
use Rattle.std.specs.Prelude.{Ok}
use mathlib.Core.Path.{◌≡◌, refl, sym, ap, ◌∙◌}
use mathlib.Core.List.{List}
use Prim.Native.Nat.{ℕ, ◌+◌, ◌*◌, ◌≤◌}
use native.Mathlib.Nat.{mul_comm, mul_assoc}
use native.Mathlib.Omega.{arith}
use lib.Ieee.{Float, binary32}
use Rattle.loops.specs.Lists.{build, over}
use Rattle.definition.specs.declared.IvectorOptions.{IvectorOptions}
use Rattle.definition.specs.declared.Dimensions.{Dimensions}
use Rattle.definition.specs.declared.TableLengths.{TableLengths}
use Rattle.definition.specs.Options.{spliced}
use Rattle.definition.specs.Reader.{Got, read}
use Rattle.definition.specs.Kaldi.{triangle}
use Rattle.definition.specs.Text.{line}
use Rattle.definition.specs.Model.{Tables, tables_from, tables_of, filled_tables, Model, gconst, transposed, loaded_of, loaded_tables, lda_offset_of}
use Rattle.definition.proofs.Ranges.{tables-fitting}
use Rattle.kaldi.specs.Inner.KaldiIoGot.{matrix_in}
use Rattle.kaldi.specs.Parts.{gmm_in, extractor_in}
use Rattle.kaldi.specs.Inner.KaldiTextAnswers.{cells}
use Rattle.model.specs.Inner.IvectorTables.{sigma_inv_ms, quadratic_terms}
use Rattle.model.specs.Load.{scratch_kept}
use Rattle.model.specs.declared.ivector_info.Judged.{Judged}
use Rattle.model.specs.Inner.IvectorInfo.{contents_in, judged_in, JudgedIn, LdaFits}
use Rattle.model.proofs.Files.{dims_are}

-- ---- a load

-- tables by their parts
filled : (x t : Tables) {a b c d e f g h : List Float}
    → a ≡ over x.gconsts t.gconsts → b ≡ over x.means_invvars_t t.means_invvars_t → c ≡ over x.inv_vars_t t.inv_vars_t
    → d ≡ over x.sigma_inv_m t.sigma_inv_m → e ≡ over x.u t.u
    → f ≡ over x.lda_t t.lda_t → g ≡ over x.lda_offset t.lda_offset → h ≡ over x.global_mean_stats t.global_mean_stats
    → tables_from a b c d e f g h ≡ filled_tables x t
filled x t p q r s u v w y = rw (p, q, r, s, u, v, w, y)

module _ {o : IvectorOptions} {text : List ℕ} {z : TableLengths} {n : ℕ} {j : Judged} (x : JudgedIn o text z n j) where
  dims_here : j.dims ≡ (judged_in o text z j).info.dims
  dims_here = x.dims_are ∙ dims_are x.files_in

  feat : j.dims.feat_dim ≡ j.files.extractor.feat_dim
  feat = ap (λ (d : Dimensions). d.feat_dim) x.dims_are

  module _ {g : Got Model} (e : read (judged_in o text z j) 0 ≡ g) where
    pub loaded_is : Ok (record { opts = o; dims = j.dims; prior_offset = j.files.extractor.prior_offset; tables = z }) ≡ loaded_of g
    loaded_is = ap (λ (d : Dimensions). Ok (record { opts = o; dims = d; prior_offset = j.files.extractor.prior_offset; tables = z })) dims_here ∙ ap loaded_of e

    pub scratch_free : (before after : List Float) → scratch_kept g before after
    scratch_free before after = rw (sym e) tt

    -- what `fill_gmm`, `fill_gaussians` and `fill_lda` say
    pub tables_are : (t : Tables) {gconsts means vars sims us turned offset row : List Float}
        → gconsts ≡ over (build j.files.gmm.inv_vars.rows (gconst (gmm_in j.files.gmm))) t.gconsts
        → means ≡ over (transposed j.files.gmm.inv_vars.cols (matrix_in binary32 j.files.gmm.means_invvars)) t.means_invvars_t
        → vars ≡ over (transposed j.files.gmm.inv_vars.cols (matrix_in binary32 j.files.gmm.inv_vars)) t.inv_vars_t
        → sims ≡ over (sigma_inv_ms (extractor_in j.files.extractor)) t.sigma_inv_m
        → us ≡ over (quadratic_terms (extractor_in j.files.extractor)) t.u
        → turned ≡ over (transposed (spliced o j.dims) (matrix_in binary32 j.files.lda)) t.lda_t
        → offset ≡ over (build j.dims.feat_dim (lda_offset_of (spliced o j.dims) (matrix_in binary32 j.files.lda))) t.lda_offset
        → row ≡ over (cells (line text j.files.row.from)) t.global_mean_stats
        → tables_from gconsts means vars sims us turned offset row ≡ loaded_tables g t
    unfolding tables_of sigma_inv_ms quadratic_terms
    tables_are t a b c d u l f r =
        let cols : j.files.gmm.inv_vars.cols ≡ j.files.extractor.feat_dim = x.gmm_cols_are ∙ feat in
        let same = dims_here in
        filled (tables_of o (contents_in text j.files)) t a
        (b ∙ ap (λ (k : ℕ). over (transposed k (matrix_in binary32 j.files.gmm.means_invvars)) t.means_invvars_t) cols)
        (c ∙ ap (λ (k : ℕ). over (transposed k (matrix_in binary32 j.files.gmm.inv_vars)) t.inv_vars_t) cols)
        d
        u
        (l ∙ ap (λ (k : Dimensions). over (transposed (spliced o k) (matrix_in binary32 j.files.lda)) t.lda_t) same)
        (f ∙ ap (λ (k : Dimensions). over (build k.feat_dim (lda_offset_of (spliced o k) (matrix_in binary32 j.files.lda))) t.lda_offset) same)
        r
        ∙ ap (λ (m : Got Model). loaded_tables m t) e

  -- ---- what the fills are lent

  gauss : j.dims.num_gauss ≡ j.files.gmm.inv_vars.rows
  gauss = ap (λ (d : Dimensions). d.num_gauss) x.dims_are

  pub gconsts_fit : j.files.gmm.inv_vars.rows ≤ z.gconsts
  gconsts_fit = rw (sym gauss) (tables-fitting o j.dims z x.tables_fit_is).gconsts_fit

  turned_is : j.dims.num_gauss * j.dims.feat_dim ≡ j.files.gmm.inv_vars.cols * j.files.gmm.inv_vars.rows
  turned_is = mul_comm j.dims.num_gauss j.dims.feat_dim ∙ rw (gauss, x.gmm_cols_are) refl

  pub means_fit : j.files.gmm.inv_vars.cols * j.files.gmm.inv_vars.rows ≤ z.means_invvars_t
  means_fit = rw (sym turned_is) (tables-fitting o j.dims z x.tables_fit_is).means_fit

  pub vars_fit : j.files.gmm.inv_vars.cols * j.files.gmm.inv_vars.rows ≤ z.inv_vars_t
  vars_fit = rw (sym turned_is) (tables-fitting o j.dims z x.tables_fit_is).vars_fit

  pub sims_fit : j.files.extractor.num_gauss * (j.files.extractor.feat_dim * j.files.extractor.ivector_dim) ≤ z.sigma_inv_m
  sims_fit = rw (← mul_assoc j.files.extractor.num_gauss j.files.extractor.feat_dim j.files.extractor.ivector_dim) (rw x.dims_are at (tables-fitting o j.dims z x.tables_fit_is).sigma_fits)

  pub us_fit : j.files.extractor.num_gauss * triangle j.files.extractor.ivector_dim ≤ z.u
  us_fit = rw x.dims_are at (tables-fitting o j.dims z x.tables_fit_is).u_fits

  pub scratch_fits : triangle j.files.extractor.feat_dim + j.files.extractor.feat_dim * j.files.extractor.ivector_dim ≤ n
  scratch_fits = rw x.dims_are at x.scratch_fits

  pub lda_fits : LdaFits o text j z.lda_t z.lda_offset z.global_mean_stats
  lda_fits =
      let t = tables-fitting o j.dims z x.tables_fit_is in
      let r = x.files_in.row_in in
      let base : j.dims.base_dim ≡ _ = ap (λ (d : Dimensions). d.base_dim) x.dims_are in
      record {
        options_in = x.options_in;
        row_in = r;
        base_is = omega (arith, base, r.high);
        rows_are = x.lda_rows_are;
        spliced_in = omega (arith, x.spliced_in, ap (λ (d : Dimensions). d.lda_cols) x.dims_are);
        turned_fits = t.lda_fits;
        offset_fits = t.offset_fits;
        row_fits = omega (arith, base, t.global_fits, r.low);
      }
