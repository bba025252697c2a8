-- Request 5, a model written back: the bytes of the GMM's, the extractor's and the LDA's file, from parameters that all have one width, f32 or f64; and what the
-- call refuses. The bytes are those of Kaldi's own writers.
use Rattle.std.specs.Prelude.{ℕ, zero, suc, ◌-◌, ◌*◌, ◌/◌, ◌%◌, Bool, true, false, not, List, [], ◌∷◌, ◌++◌, length, take, drop, ltb, eqb, Float}
use Prim.Native.String.{String}
use Rattle.std.specs.Float.{Format, binary32, binary64}
use Rattle.std.specs.Float.Ieee.{to_bits}
use Rattle.loops.specs.Lists.{flat, all_of, over}
use Rattle.loops.specs.Refusal.{first_of, taken}
use Rattle.definition.specs.declared.IvectorOptions.{IvectorOptions}
use Rattle.definition.specs.declared.Dimensions.{Dimensions}
use Rattle.definition.specs.Options.{within, max_gauss, max_feat, max_ivector, max_columns, options_in_range, dims_agree}
use Rattle.floats.specs.Real.{byte_width, kept_as}
use Rattle.definition.specs.Reader.{Got, refused, read, text, kept}
use Rattle.definition.specs.Kaldi.{vector_tag, matrix_tag, packed_tag, triangle}
use Rattle.definition.specs.Text.{cmvn}
use Rattle.writer.specs.declared.model_bytes.ModelSizes.{ModelSizes}
use Rattle.writer.specs.declared.model_bytes.WrittenAnswer.{WrittenAnswer}

-- ---- items

-- the n bytes of a number, from low to high
unfoldable pub low_bytes : ℕ → ℕ → List ℕ
low_bytes zero x = []
low_bytes (suc n) x = x % 256 ∷ low_bytes n (x / 256)

-- floats of width f, by their bits
unfoldable pub numbers_bytes : Format → List Float → List ℕ
numbers_bytes f [] = []
numbers_bytes f (x ∷ xs) = low_bytes (byte_width f) (to_bits f x) ++ numbers_bytes f xs

-- a size: the byte 4 and its four bytes
abbrev pub size_bytes : ℕ → List ℕ
size_bytes n = 4 ∷ low_bytes 4 n

-- the mark at a file's beginning
abbrev pub mark : List ℕ
mark = 0 ∷ 66 ∷ []

-- a token has one space after it
abbrev pub ended : List ℕ → List ℕ
ended t = t ++ (32 ∷ [])

abbrev pub token_bytes : String → List ℕ
token_bytes t = ended (text t)

-- ---- blocks: what stands before them, their sizes, their numbers

abbrev pub line_bytes : Format → List ℕ → ℕ → List Float → List ℕ
line_bytes f head n xs = head ++ (size_bytes n ++ numbers_bytes f xs)

abbrev pub table_bytes : Format → List ℕ → ℕ → ℕ → List Float → List ℕ
table_bytes f head r c xs = head ++ (size_bytes r ++ (size_bytes c ++ numbers_bytes f xs))

abbrev pub vector_bytes : Format → ℕ → List Float → List ℕ
vector_bytes f n xs = line_bytes f (ended (vector_tag f)) n xs

-- r rows of c
abbrev pub matrix_bytes : Format → ℕ → ℕ → List Float → List ℕ
matrix_bytes f r c xs = table_bytes f (ended (matrix_tag f)) r c xs

-- n rows of a lower triangle
abbrev pub packed_bytes : Format → ℕ → List Float → List ℕ
packed_bytes f n xs = line_bytes f (ended (packed_tag f)) n xs

-- ---- the files

-- what is written, row after row: for each Gaussian of the GMM a weight, means times inverse variances, inverse variances; for each of the extractor `<M>`, and
-- the lower triangle of `<SigmaInv>`; the offset; the LDA
pub record Params : Type 0 where
  pub sizes : ModelSizes
  pub weights : List Float
  pub means_invvars : List Float
  pub inv_vars : List Float
  pub m : List Float
  pub sigma_inv : List Float
  pub prior_offset : Float
  pub lda : List Float

abbrev pub params_from : ModelSizes → List Float → List Float → List Float → List Float → List Float → Float → List Float → Params
params_from z weights means_invvars inv_vars m sigma_inv prior_offset lda =
    record {
      sizes = z;
      weights = weights;
      means_invvars = means_invvars;
      inv_vars = inv_vars;
      m = m;
      sigma_inv = sigma_inv;
      prior_offset = prior_offset;
      lda = lda;
    }

-- part i of a list in parts of n
abbrev pub part : ℕ → ℕ → List Float → List Float
part n i xs = take n (drop (i * n) xs)

-- `<GCONSTS>` has no entries
unfoldable pub gmm_bytes : Format → Params → List ℕ
gmm_bytes f p =
    let g = p.sizes.num_gauss in
    let d = p.sizes.feat_dim in
    mark ++ (token_bytes "<DiagGMM>"
    ++ (token_bytes "<GCONSTS>" ++ (vector_bytes f 0 []
    ++ (token_bytes "<WEIGHTS>" ++ (vector_bytes f g p.weights
    ++ (token_bytes "<MEANS_INVVARS>" ++ (matrix_bytes f g d p.means_invvars
    ++ (token_bytes "<INV_VARS>" ++ (matrix_bytes f g d p.inv_vars
    ++ token_bytes "</DiagGMM>")))))))))

-- `<w>` is 0 by 0, `<w_vec>` has no entries
unfoldable pub extractor_bytes : Format → Params → List ℕ
extractor_bytes f p =
    let e = p.sizes.ext_gauss in
    let d = p.sizes.feat_dim in
    let s = p.sizes.ivector_dim in
    mark ++ (token_bytes "<IvectorExtractor>"
    ++ (token_bytes "<w>" ++ (matrix_bytes f 0 0 []
    ++ (token_bytes "<w_vec>" ++ (vector_bytes f 0 []
    ++ (token_bytes "<M>" ++ (size_bytes e ++ (flat e (λ i. matrix_bytes f d s (part (d * s) i p.m))
    ++ (token_bytes "<SigmaInv>" ++ (flat e (λ i. packed_bytes f d (part (triangle d) i p.sigma_inv))
    ++ (token_bytes "<IvectorOffset>" ++ ((byte_width f ∷ numbers_bytes f (p.prior_offset ∷ []))
    ++ token_bytes "</IvectorExtractor>"))))))))))))

unfoldable pub lda_bytes : Format → Params → List ℕ
lda_bytes f p = mark ++ matrix_bytes f p.sizes.feat_dim p.sizes.lda_cols p.lda

-- one after the other
abbrev pub model_bytes : Format → Params → List ℕ
model_bytes f p = gmm_bytes f p ++ (extractor_bytes f p ++ lda_bytes f p)

-- ---- what is refused

-- 4
abbrev pub outside : ℕ → ℕ → Bool × ℕ
outside most n = (not (within 1 most n), 4)

-- a list: its length (5), then its numbers as a table of width t keeps them (6)
abbrev pub list_tests : Format → Format → Bool → ℕ → List Float → List (Bool × ℕ)
list_tests f t positive n xs = (not (eqb (length xs) n), 5) ∷ (not (all_of (λ x. kept positive (kept_as t f x)) xs), 6) ∷ []

-- a model's dimensions, with the text's
abbrev pub dims_with : ModelSizes → ℕ → Dimensions
dims_with z base =
    record {
      num_gauss = z.num_gauss;
      ext_gauss = z.ext_gauss;
      feat_dim = z.feat_dim;
      ivector_dim = z.ivector_dim;
      base_dim = base;
      lda_cols = z.lda_cols;
    }

-- the CMVN text (7), then the files against each other (5)
abbrev pub text_tests : IvectorOptions → ModelSizes → Got (List Float) → List (Bool × ℕ)
text_tests o z (refused n) = (true, 7) ∷ []
text_tests o z (read row at) = (not (dims_agree o (dims_with z (length row - 1))), 5) ∷ []

-- in the order in which a load would meet them: 1, 4 to 7; and 26, an output shorter than the three files, last
unfoldable pub write_refusal : Format → IvectorOptions → List ℕ → Params → ℕ → ℕ
write_refusal f o t p room =
    let z = p.sizes in
    let g = z.num_gauss in
    let e = z.ext_gauss in
    let d = z.feat_dim in
    let s = z.ivector_dim in
    first_of ((not (options_in_range o), 1)
    ∷ outside max_gauss g ∷ list_tests f binary32 true g p.weights
    ++ (outside max_feat d ∷ list_tests f binary32 false (g * d) p.means_invvars
    ++ (list_tests f binary32 true (g * d) p.inv_vars
    ++ (outside max_gauss e ∷ outside max_ivector s ∷ list_tests f binary64 false (e * (d * s)) p.m
    ++ (list_tests f binary64 false (e * triangle d) p.sigma_inv
    ++ (list_tests f binary64 false 1 (p.prior_offset ∷ [])
    ++ (outside max_columns z.lda_cols ∷ list_tests f binary32 false (d * z.lda_cols) p.lda
    ++ (text_tests o z (cmvn t 0)
    ++ ((ltb room (length (model_bytes f p)), 26) ∷ [])))))))))

-- ---- the call

-- the lengths of the three files, in bytes; or the refusal's number
pub data Written : Type 0 where
  Files : ℕ → ℕ → ℕ → Written
  Refused : ℕ → Written

unfoldable pub written : Format → IvectorOptions → List ℕ → Params → ℕ → Written
written f o t p room =
    let r = write_refusal f o t p room in
    taken r (Files (length (gmm_bytes f p)) (length (extractor_bytes f p)) (length (lda_bytes f p))) (Refused r)

-- the output: nothing is written by a refusal, and places past the end keep their values
unfoldable pub written_out : Format → IvectorOptions → List ℕ → Params → List ℕ → List ℕ
written_out f o t p out = taken (write_refusal f o t p (length out)) (over (model_bytes f p) out) out

unfoldable pub written_answer : Written → WrittenAnswer
written_answer (Files gmm extractor lda) = record { refusal = 0; gmm = gmm; extractor = extractor; lda = lda }
written_answer (Refused r) = record { refusal = r; gmm = 0; extractor = 0; lda = 0 }
