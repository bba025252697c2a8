-- What the check of the extractor says: its runs of blocks, which stay in the bytes s.
use Rattle.std.specs.Prelude.{◌≡◌, Bool, true, false, ◌&&◌, List, [], ℕ, ◌≤◌, eqb}
use Rattle.std.specs.Float.{binary64}
use Rattle.loops.specs.Lists.{all_of}
use Rattle.definition.specs.Options.{max_gauss, max_feat, max_ivector}
use Rattle.definition.specs.Reader.{Got, read, refused, times}
use Rattle.definition.specs.Kaldi as K
use Rattle.definition.specs.Kaldi.{matrix, packed_matrix}

-- the matrices M, and the matrices SigmaInv, from a place on
abbrev pub means : List ℕ → ℕ → ℕ → Got (List K.Matrix)
means s n at = times n (matrix binary64 false max_feat max_ivector) s at

abbrev pub inverses : List ℕ → ℕ → ℕ → Got (List K.Packed)
inverses s n at = times n packed_matrix s at

-- the items of a run that was read
unfoldable pub items : {A : Type 0} → Got (List A) → List A
items (read xs next) = xs
items (refused n) = []

-- a block of the lengths that it should have
abbrev pub sized_as : ℕ → ℕ → K.Matrix → Bool
sized_as rows cols m = eqb m.rows rows && eqb m.cols cols

abbrev pub square_as : ℕ → K.Packed → Bool
square_as dim v = eqb v.rows dim

-- what a fill has to know: both runs are there, of these lengths, and few
pub record ExtractorIn (s : List ℕ) (gauss feat ivec m sigma : ℕ) : Type 0 where
  pub m_end : ℕ
  pub m_stands : means s gauss m ≡ read (items (means s gauss m)) m_end
  pub m_alike : all_of (sized_as feat ivec) (items (means s gauss m)) ≡ true
  pub sigma_end : ℕ
  pub sigma_stands : inverses s gauss sigma ≡ read (items (inverses s gauss sigma)) sigma_end
  pub sigma_alike : all_of (square_as feat) (items (inverses s gauss sigma)) ≡ true
  pub gauss_low : 1 ≤ gauss
  pub gauss_high : gauss ≤ max_gauss
  pub feat_low : 1 ≤ feat
  pub feat_high : feat ≤ max_feat
  pub ivec_low : 1 ≤ ivec
  pub ivec_high : ivec ≤ max_ivector
