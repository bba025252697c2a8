-- The options of example P9 with a window of 20, and the files of its model for a base dimension, which changes two of them.
use Rattle.std.specs.Prelude.{ℕ, List, [], ◌∷◌, ◌++◌}
use Rattle.loops.specs.Lists.{flat}
use Rattle.floats.specs.Operators.{f32, f64}
use Rattle.definition.specs.declared.IvectorOptions.{IvectorOptions}
use Rattle.definition.specs.Model.{Files}
use Rattle.definition.specs.Reader.{text}

-- the Rust's default options but for the contexts, the scale and the window
abbrev pub options : IvectorOptions
options =
    record {
      left_context = 0;
      right_context = 0;
      cmn_window = 20;
      global_frames = 200;
      num_gselect = 5;
      num_cg_iters = 15;
      min_post = f32 0x3ccc_cccd;  -- 0.025
      posterior_scale = f32 0x3e80_0000;  -- 0.25
      max_count = f64 0x4059_0000_0000_0000;  -- 100
      min_energy = f32 0x4248_0000;  -- 50
    }

-- a length in a file, and 1 and 2 as its numbers
abbrev len : ℕ → List ℕ
len n = 4 ∷ n ∷ 0 ∷ 0 ∷ 0 ∷ []

abbrev one : List ℕ
one = 0 ∷ 0 ∷ 128 ∷ 63 ∷ []

abbrev wide_one : List ℕ
wide_one = 0 ∷ 0 ∷ 0 ∷ 0 ∷ 0 ∷ 0 ∷ 240 ∷ 63 ∷ []

abbrev wide_two : List ℕ
wide_two = 0 ∷ 0 ∷ 0 ∷ 0 ∷ 0 ∷ 0 ∷ 0 ∷ 64 ∷ []

-- one Gaussian of one dimension: a weight, a mean and an inverse variance of 1
unfoldable pub gmm_file : List ℕ
gmm_file =
    (0 ∷ 66 ∷ []) ++ (text "<DiagGMM> <WEIGHTS> FV " ++ (len 1 ++ (one ++ (text "<MEANS_INVVARS> FM " ++ (len 1 ++ (len 1 ++ (one ++ (text "<INV_VARS> FM "
    ++ (len 1 ++ (len 1 ++ (one ++ text "</DiagGMM> ")))))))))))

-- M 2, Σ⁻¹ 1, prior offset 1
unfoldable pub extractor_file : List ℕ
extractor_file =
    (0 ∷ 66 ∷ []) ++ (text "<IvectorExtractor> <w> DM " ++ (len 0 ++ (len 0 ++ (text "<w_vec> DV " ++ (len 0 ++ (text "<M> " ++ (len 1 ++ (text "DM " ++ (len 1 ++ (len 1
    ++ (wide_two ++ (text "<SigmaInv> DP " ++ (len 1 ++ (wide_one ++ (text "<IvectorOffset> " ++ ((8 ∷ []) ++ (wide_one ++ text "</IvectorExtractor> ")))))))))))))))))

-- the LDA: one row of ones, dim of them, without an offset column
unfoldable pub lda_file : ℕ → List ℕ
lda_file dim = (0 ∷ 66 ∷ 70 ∷ 77 ∷ 32 ∷ 4 ∷ 1 ∷ 0 ∷ 0 ∷ 0 ∷ 4 ∷ dim ∷ 0 ∷ 0 ∷ 0 ∷ []) ++ flat dim (λ i. 0 ∷ 0 ∷ 128 ∷ 63 ∷ [])

-- the CMVN text: two equal rows, of dim sums of 50 and the count 100
unfoldable pub cmvn_file : ℕ → List ℕ
cmvn_file dim =
    let sums = flat dim (λ i. text "50 ") in
    text "[ " ++ (sums ++ (text "100" ++ ((10 ∷ []) ++ (sums ++ text "100 ]"))))

abbrev pub files : ℕ → Files
files dim = record { gmm = gmm_file; extractor = extractor_file; lda = lda_file dim; cmvn = cmvn_file dim }
