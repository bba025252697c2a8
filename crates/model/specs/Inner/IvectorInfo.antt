-- What the two passes of a load say to each other. Numbers stay in the files, and an answer says where.
use Rattle.std.specs.Prelude.{◌≡◌, Bool, true, List, [], ◌∷◌, ℕ, ◌-◌, ◌≤◌, ◌*◌, eqb}
use Rattle.std.specs.Float.{binary32}
use Rattle.loops.specs.Lists.{all_true}
use Rattle.definition.specs.declared.IvectorOptions.{IvectorOptions}
use Rattle.definition.specs.declared.Dimensions.{Dimensions}
use Rattle.definition.specs.declared.TableLengths.{TableLengths}
use Rattle.definition.specs.Options.{max_feat, max_columns, options_in_range, dims_agree, spliced}
use Rattle.definition.specs.Reader.{Got}
use Rattle.definition.specs.Text.{line}
use Rattle.definition.specs.Model as M
use Rattle.definition.specs.Model.{Files, Model, reading, model_of, tables_fit, load_scratch}
use Rattle.kaldi.specs.Inner.KaldiIoGot.{matrix_in}
use Rattle.kaldi.specs.Inner.KaldiFilesAnswers.{ExtractorIn}
use Rattle.kaldi.specs.Parts.{gmm_in, extractor_in}
use Rattle.kaldi.specs.Inner.KaldiTextAnswers.{cells, RowIn}
use Rattle.model.specs.declared.ivector_info.Contents.{Contents}
use Rattle.model.specs.declared.ivector_info.Judged.{Judged}

-- ---- the files

unfoldable pub contents : Files → Got M.Contents
contents f = reading f [] 0

-- with the text's bytes
abbrev pub contents_in : List ℕ → Contents → M.Contents
contents_in text c =
    record { gmm = gmm_in c.gmm; extractor = extractor_in c.extractor; lda = matrix_in binary32 c.lda; global_row = cells (line text c.row.from) }

-- what a fill has to know: the extractor's blocks and the row are there, and there are few numbers
pub record ContentsIn (text : List ℕ) (c : Contents) : Type 0 where
  pub extractor_stands : ExtractorIn c.extractor.m.src.now c.extractor.num_gauss c.extractor.feat_dim c.extractor.ivector_dim c.extractor.m.at c.extractor.sigma_inv.at
  pub one_source : c.extractor.sigma_inv.src.now ≡ c.extractor.m.src.now
  pub lda_rows : c.lda.rows ≤ max_feat
  pub lda_low : 1 ≤ c.lda.cols
  pub lda_high : c.lda.cols ≤ max_columns
  pub row_in : RowIn text c.row.len c.row.from

abbrev pub dims_in : Contents → Dimensions
dims_in c =
    record {
      num_gauss = c.gmm.inv_vars.rows;
      ext_gauss = c.extractor.num_gauss;
      feat_dim = c.extractor.feat_dim;
      ivector_dim = c.extractor.ivector_dim;
      base_dim = c.row.len - 1;
      lda_cols = c.lda.cols;
    }

-- ---- the judgement

-- `contents_agree`, by dimensions
abbrev pub agreeing : IvectorOptions → Dimensions → Contents → Bool
agreeing o d c = all_true (dims_agree o d ∷ eqb c.lda.rows c.extractor.feat_dim ∷ eqb c.gmm.inv_vars.cols c.extractor.feat_dim ∷ [])

abbrev pub judged_in : IvectorOptions → List ℕ → TableLengths → Judged → Model
judged_in o text z j = model_of o (contents_in text j.files) z

pub record JudgedIn (o : IvectorOptions) (text : List ℕ) (z : TableLengths) (scratch : ℕ) (j : Judged) : Type 0 where
  pub files_in : ContentsIn text j.files
  pub dims_are : j.dims ≡ dims_in j.files
  pub options_in : options_in_range o ≡ true
  pub spliced_in : spliced o j.dims ≤ j.dims.lda_cols
  pub lda_rows_are : j.files.lda.rows ≡ j.dims.feat_dim
  pub gmm_cols_are : j.files.gmm.inv_vars.cols ≡ j.dims.feat_dim
  pub tables_fit_is : tables_fit o j.dims z ≡ true
  pub scratch_fits : load_scratch j.dims ≤ scratch

-- ---- what a fill is lent

pub record LdaFits (o : IvectorOptions) (text : List ℕ) (j : Judged) (turned offset row : ℕ) : Type 0 where
  pub options_in : options_in_range o ≡ true
  pub row_in : RowIn text j.files.row.len j.files.row.from
  pub base_is : j.dims.base_dim ≤ 64
  pub rows_are : j.files.lda.rows ≡ j.dims.feat_dim
  pub spliced_in : spliced o j.dims ≤ j.files.lda.cols
  pub turned_fits : spliced o j.dims * j.dims.feat_dim ≤ turned
  pub offset_fits : j.dims.feat_dim ≤ offset
  pub row_fits : j.files.row.len ≤ row
