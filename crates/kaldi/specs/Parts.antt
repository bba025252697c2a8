-- What the checks of the files say: what the file holds, as the definition's parsers have it. Numbers stay in the file's bytes.
use Rattle.std.specs.Prelude.{true, false, ◌&&◌, List, ℕ, eqb, length, Float}
use Rattle.std.specs.Float.{binary32}
use Rattle.definition.specs.Options.{max_gauss, max_feat}
use Rattle.definition.specs.Reader.{Parser, ◌>>=◌, ◌>>◌, give, need, text}
use Rattle.definition.specs.Kaldi as K
use Rattle.definition.specs.Kaldi.{token, matrix, rowless, skipped}
use Rattle.kaldi.specs.Inner.KaldiIoGot.{numbers_in, matrix_in}
use Rattle.kaldi.specs.Inner.KaldiFilesAnswers.{means, inverses, items}
use Rattle.kaldi.specs.declared.kaldi_files.parts.Gmm.{Gmm}
use Rattle.kaldi.specs.Inner.KaldiFiles.{Counted}
use Rattle.kaldi.specs.declared.kaldi_files.parts.Extractor.{Extractor}
use Rattle.kaldi.specs.declared.kaldi_files.parts.Means.{Means}

-- ---- what the files hold

abbrev pub gmm_in : Gmm → K.Gmm
gmm_in g = record { weights = numbers_in binary32 g.weights; means_invvars = matrix_in binary32 g.means_invvars; inv_vars = matrix_in binary32 g.inv_vars }

abbrev pub extractor_in : Extractor → K.Extractor
extractor_in e =
    record {
      num_gauss = e.num_gauss;
      feat_dim = e.feat_dim;
      ivector_dim = e.ivector_dim;
      m = items (means e.m.src.now e.num_gauss e.m.at);
      sigma_inv = items (inverses e.sigma_inv.src.now e.num_gauss e.sigma_inv.at);
      prior_offset = e.prior_offset;
    }

-- the matrices M, which stand in the bytes s
abbrev pub counted_in : List ℕ → Means → Counted
counted_in s m = record { count = m.count; list = items (means s m.count m.m.at) }

-- ---- the ends of the definitions' parsers, which have functions of their own

-- of `gmm`, the end: its blocks' lengths are compared, n that of the weights
abbrev pub gmm_agreeing : List Float → ℕ → K.Matrix → K.Matrix → Parser K.Gmm
gmm_agreeing w n m v = do
  need (eqb m.rows v.rows && (eqb m.cols v.cols && eqb n m.rows)) 5
  give (record { weights = w; means_invvars = m; inv_vars = v })

-- of `gmm`, what stands behind the weights
abbrev pub gmm_matrices : List Float → Parser K.Gmm
gmm_matrices w = do
  token (text "<MEANS_INVVARS>")
  m ← matrix binary32 false max_gauss max_feat
  token (text "<INV_VARS>")
  v ← matrix binary32 true max_gauss max_feat
  gmm_agreeing w (length w) m v

-- of `extractor_heading`, what stands behind `<w>`
abbrev pub skipped_w : Parser (Unit {0})
skipped_w = do
  token (text "<w_vec>")
  skipped
  token (text "<M>")

-- the same with `<w>`
abbrev pub empty_w : Parser (Unit {0})
empty_w = do
  token (text "<w>")
  rowless
  skipped_w
