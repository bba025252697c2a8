-- The files as the code writes them: what stands before each list of numbers is one text.
use Rattle.std.specs.Prelude.{ℕ, ◌*◌, List, [], ◌∷◌, ◌++◌, Float}
use Rattle.std.specs.Float.{Format}
use Rattle.loops.specs.Lists.{flat}
use Rattle.floats.specs.Real.{byte_width}
use Rattle.definition.specs.Kaldi.{vector_tag, matrix_tag, triangle}
use Rattle.writer.specs.Written.{numbers_bytes, size_bytes, mark, ended, token_bytes, line_bytes, table_bytes, matrix_bytes, packed_bytes, part}

abbrev pub weights_head : Format → List ℕ
weights_head f = mark ++ (token_bytes "<DiagGMM>" ++ (token_bytes "<GCONSTS>" ++ (ended (vector_tag f) ++ (4 ∷ 0 ∷ 0 ∷ 0 ∷ 0 ∷ (token_bytes "<WEIGHTS>" ++ ended (vector_tag f))))))

abbrev pub means_head : Format → List ℕ
means_head f = token_bytes "<MEANS_INVVARS>" ++ ended (matrix_tag f)

abbrev pub vars_head : Format → List ℕ
vars_head f = token_bytes "<INV_VARS>" ++ ended (matrix_tag f)

abbrev pub m_head : Format → List ℕ
m_head f =
    mark ++ (token_bytes "<IvectorExtractor>" ++ (token_bytes "<w>" ++ (ended (matrix_tag f) ++ (4 ∷ 0 ∷ 0 ∷ 0 ∷ 0 ∷ 4 ∷ 0 ∷ 0 ∷ 0 ∷ 0
    ∷ (token_bytes "<w_vec>" ++ (ended (vector_tag f) ++ (4 ∷ 0 ∷ 0 ∷ 0 ∷ 0 ∷ token_bytes "<M>")))))))

abbrev pub offset_head : Format → List ℕ
offset_head f = token_bytes "<IvectorOffset>" ++ (byte_width f ∷ [])

abbrev pub lda_head : Format → List ℕ
lda_head f = mark ++ ended (matrix_tag f)

abbrev pub m_blocks : Format → ℕ → ℕ → ℕ → List Float → List ℕ
m_blocks f e d s xs = flat e (λ i. matrix_bytes f d s (part (d * s) i xs))

abbrev pub sigma_blocks : Format → ℕ → ℕ → List Float → List ℕ
sigma_blocks f e d xs = flat e (λ i. packed_bytes f d (part (triangle d) i xs))

abbrev pub gmm_pieces : Format → ℕ → ℕ → List Float → List Float → List Float → List ℕ
gmm_pieces f g d weights means_invvars inv_vars =
    line_bytes f (weights_head f) g weights ++ (table_bytes f (means_head f) g d means_invvars ++ (table_bytes f (vars_head f) g d inv_vars ++ token_bytes "</DiagGMM>"))

abbrev pub extractor_pieces : Format → ℕ → ℕ → ℕ → List Float → List Float → Float → List ℕ
extractor_pieces f e d s m sigma_inv prior_offset =
    (m_head f ++ size_bytes e) ++ (m_blocks f e d s m ++ (token_bytes "<SigmaInv>" ++ (sigma_blocks f e d sigma_inv
    ++ (offset_head f ++ (numbers_bytes f (prior_offset ∷ []) ++ token_bytes "</IvectorExtractor>")))))
