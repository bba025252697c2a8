-- The refusal's tests file by file, and the files' lengths as code computes them.
use Rattle.std.specs.Prelude.{◌≡◌, Bool, true, false, List, [], ◌∷◌, ◌++◌, ℕ, ◌+◌, ◌-◌, ◌*◌, ◌≤◌, length, Result, Ok, Err, Float}
use Rattle.std.specs.Float.{Format, binary32, binary64}
use Rattle.definition.specs.declared.refusal.Refusal.{Refusal}
use Rattle.definition.specs.Number.{number_of}
use Rattle.definition.specs.Options.{max_gauss, max_feat, max_ivector, max_columns}
use Rattle.definition.specs.Reader.{Got, refused, read}
use Rattle.definition.specs.Kaldi.{triangle}
use Rattle.writer.specs.declared.model_bytes.ModelSizes.{ModelSizes}
use Rattle.writer.specs.Written.{Params, outside, list_tests}

-- sizes that a load would take
pub record InRange (z : ModelSizes) : Type 0 where
  pub gauss_low : 1 ≤ z.num_gauss
  pub gauss : z.num_gauss ≤ max_gauss
  pub ext_low : 1 ≤ z.ext_gauss
  pub ext : z.ext_gauss ≤ max_gauss
  pub feat_low : 1 ≤ z.feat_dim
  pub feat : z.feat_dim ≤ max_feat
  pub ivector_low : 1 ≤ z.ivector_dim
  pub ivector : z.ivector_dim ≤ max_ivector
  pub columns_low : 1 ≤ z.lda_cols
  pub columns : z.lda_cols ≤ max_columns

-- the files' lengths, at w bytes a number
abbrev pub gmm_length : ℕ → ModelSizes → ℕ
gmm_length w z = 112 + w * (z.num_gauss + 2 * (z.num_gauss * z.feat_dim))

abbrev pub extractor_length : ℕ → ModelSizes → ℕ
extractor_length w z = 111 + w + z.ext_gauss * (21 + w * (z.feat_dim * z.ivector_dim + triangle z.feat_dim))

abbrev pub lda_length : ℕ → ModelSizes → ℕ
lda_length w z = 15 + w * (z.feat_dim * z.lda_cols)

abbrev pub total_length : ℕ → ModelSizes → ℕ
total_length w z = gmm_length w z + extractor_length w z + lda_length w z

-- the base dimension of a text that was read, and 7 for one that was not
abbrev pub BaseOf : Got (List Float) → Result ℕ Refusal → Type 0
BaseOf (refused n) (Ok base) = ⊥
BaseOf (refused n) (Err e) = number_of e ≡ 7
BaseOf (read row next) (Ok base) = (base ≡ length row - 1) × (1 ≤ base) × (base ≤ 64)
BaseOf (read row next) (Err e) = ⊥

-- the tests of each file's sizes and lists
abbrev pub gmm_tests : Format → Params → List (Bool × ℕ)
gmm_tests f p =
    let z = p.sizes in
    outside max_gauss z.num_gauss ∷ list_tests f binary32 true z.num_gauss p.weights
    ++ (outside max_feat z.feat_dim ∷ list_tests f binary32 false (z.num_gauss * z.feat_dim) p.means_invvars
    ++ list_tests f binary32 true (z.num_gauss * z.feat_dim) p.inv_vars)

abbrev pub extractor_tests : Format → Params → List (Bool × ℕ)
extractor_tests f p =
    let z = p.sizes in
    outside max_gauss z.ext_gauss ∷ outside max_ivector z.ivector_dim ∷ list_tests f binary64 false (z.ext_gauss * (z.feat_dim * z.ivector_dim)) p.m
    ++ (list_tests f binary64 false (z.ext_gauss * triangle z.feat_dim) p.sigma_inv ++ list_tests f binary64 false 1 (p.prior_offset ∷ []))

abbrev pub lda_tests : Format → Params → List (Bool × ℕ)
lda_tests f p = let z = p.sizes in outside max_columns z.lda_cols ∷ list_tests f binary32 false (z.feat_dim * z.lda_cols) p.lda
