-- What a fill reads again, once the files are checked, and what it makes of it.
use Rattle.std.specs.Prelude.{◌≡◌, ℕ, false, List, [], slice_index_or, Float}
use Rattle.std.specs.Float.{binary64}
use Rattle.loops.specs.Lists.{flat}
use Rattle.definition.specs.Options.{max_feat, max_ivector}
use Rattle.definition.specs.Reader.{Got, read, refused}
use Rattle.definition.specs.Kaldi.{Matrix, Packed, Extractor, matrix, packed_matrix, matrix_at}
use Rattle.definition.specs.Model.{sigma_inv_m, quadratic_term}

-- ---- blocks that stand in the bytes s

abbrev pub matrix_nums : Got Matrix → List Float
matrix_nums (read m next) = m.nums
matrix_nums (refused n) = []

abbrev pub packed_nums : Got Packed → List Float
packed_nums (read v next) = v.nums
packed_nums (refused n) = []

-- an M of d rows of n at p, and a Σ⁻¹ of d rows at q
pub record MAt (d n : ℕ) (s : List ℕ) (p : ℕ) : Type 0 where
  pub block : Matrix
  pub next : ℕ
  pub stands : matrix binary64 false max_feat max_ivector s p ≡ read block next
  pub rows_are : block.rows ≡ d
  pub cols_are : block.cols ≡ n

pub record SigmaAt (d : ℕ) (s : List ℕ) (q : ℕ) : Type 0 where
  pub block : Packed
  pub next : ℕ
  pub stands : packed_matrix s q ≡ read block next
  pub size_is : block.rows ≡ d

-- ---- the tables of all Gaussians

abbrev pub m_at : Extractor → ℕ → List Float
m_at x i = (matrix_at x.m i).nums

abbrev pub sigma_inv_m_at : Extractor → ℕ → List Float
sigma_inv_m_at x i = sigma_inv_m x.feat_dim x.ivector_dim (slice_index_or x.sigma_inv i (record { rows = 0; nums = [] })).nums (m_at x i)

abbrev pub quadratic_term_at : Extractor → ℕ → List Float
quadratic_term_at x i = quadratic_term x.feat_dim x.ivector_dim (m_at x i) (sigma_inv_m_at x i)

unfoldable pub sigma_inv_ms : Extractor → List Float
sigma_inv_ms x = flat x.num_gauss (sigma_inv_m_at x)

unfoldable pub quadratic_terms : Extractor → List Float
quadratic_terms x = flat x.num_gauss (quadratic_term_at x)
