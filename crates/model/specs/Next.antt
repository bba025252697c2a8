-- An extractor whose readers are at the next Gaussian's blocks.
use Rattle.std.specs.Prelude.{◌≡◌, false, List, Float}
use Rattle.std.specs.Float.{binary64}
use Rattle.definition.specs.Options.{max_feat, max_ivector}
use Rattle.definition.specs.Kaldi.{matrix, packed_matrix}
use Rattle.kaldi.specs.Inner.KaldiIoAnswers.{place_of}
use Rattle.kaldi.specs.declared.kaldi_files.parts.Extractor.{Extractor}
use Rattle.model.specs.Inner.IvectorTables.{matrix_nums, packed_nums}

abbrev pub m_next : Extractor → List Float
m_next e = matrix_nums (matrix binary64 false max_feat max_ivector e.m.src.now e.m.at)

abbrev pub sigma_next : Extractor → List Float
sigma_next e = packed_nums (packed_matrix e.sigma_inv.src.now e.sigma_inv.at)

-- the same, with its readers behind them
pub record Behind (e f : Extractor) : Type 0 where
  pub m_place : f.m.at ≡ place_of (matrix binary64 false max_feat max_ivector e.m.src.now e.m.at)
  pub m_source : f.m.src ≡ e.m.src
  pub sigma_place : f.sigma_inv.at ≡ place_of (packed_matrix e.sigma_inv.src.now e.sigma_inv.at)
  pub sigma_source : f.sigma_inv.src ≡ e.sigma_inv.src
  pub feat_dim : f.feat_dim ≡ e.feat_dim
  pub ivector_dim : f.ivector_dim ≡ e.ivector_dim
