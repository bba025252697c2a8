-- "Model bytes": Kaldi's binary format, and the model's three files in it.
use Rattle.std.specs.Prelude.{ℕ, ◌+◌, ◌*◌, ◌/◌, Bool, true, false, not, ◌&&◌, ◌||◌, List, [], ◌∷◌, length, take, drop, get_or, eqb, ltb, Float, if◌then◌else◌}
use Rattle.std.specs.Float.{Format, binary32, binary64}
use Rattle.std.specs.Float.Ieee.{of_bits}
use Rattle.std.specs.Float.Ieee.Scale.{finite}
use Rattle.loops.specs.Lists.{all_of}
use Rattle.definition.specs.Options.{within, max_gauss, max_feat, max_ivector, max_columns, max_skipped}
use Rattle.floats.specs.Real.{by_width, byte_width}
use Rattle.definition.specs.Reader.{read, refused, Parser, ◌>>=◌, ◌>>◌, give, need, times, bytes, run, text, same, little_endian, floats}

-- ---- items

-- the mark, 0 then `B`: judged once both are read
unfoldable pub binary : Parser (Unit {0})
binary = do
  b ← bytes 2
  need (same b (0 ∷ 66 ∷ [])) 3

-- space, newline and tab
unfoldable pub blank : ℕ → Bool
blank b = eqb b 32 || (eqb b 10 || eqb b 9)

-- a run of other bytes, leading blanks skipped, ended by a blank, which is read too
unfoldable pub word : Parser (List ℕ)
word s i =
    let from = i + run blank (drop i s) in
    let n = run (λ b. not (blank b)) (drop from s) in
    if ltb (from + n) (length s) then read (take n (drop from s)) (from + n + 1) else refused 2

-- compared only once ended
unfoldable pub token : List ℕ → Parser (Unit {0})
token want = do
  w ← word
  need (same w want) 3

-- the size byte 4 and a number of four bytes from low to high, which is below 2 ^ 31 (so that a negative one is above it)
unfoldable pub dim : ℕ → ℕ → Parser ℕ
dim low high = do
  z ← bytes 1
  need (same z (4 ∷ [])) 3
  b ← bytes 4
  need (within low high (little_endian b)) 4
  give (little_endian b)

-- ---- blocks, each at either width, which its tag says (request 5)

abbrev pub vector_tag : Format → List ℕ
vector_tag = by_width (text "FV") (text "DV")

abbrev pub matrix_tag : Format → List ℕ
matrix_tag = by_width (text "FM") (text "DM")

abbrev pub packed_tag : Format → List ℕ
packed_tag = by_width (text "FP") (text "DP")

-- the width whose mark it is; 3 where it is neither's
unfoldable pub width_by : (Format → List ℕ) → List ℕ → Parser Format
width_by marks b = if same b (marks binary32) then give binary32 else (need (same b (marks binary64)) 3 >> give binary64)

unfoldable pub block_width : (Format → List ℕ) → Parser Format
block_width tags = do
  b ← word
  width_by tags b

-- f is the width that its numbers are kept at
unfoldable pub vector : Format → Bool → ℕ → Parser (List Float)
vector f positive most = do
  w ← block_width vector_tag
  n ← dim 1 most
  floats f w positive n

-- skipped by its length
unfoldable pub skipped : Parser (Unit {0})
skipped = do
  w ← block_width vector_tag
  n ← dim 0 max_skipped
  bytes (n * byte_width w)
  give tt

pub record Matrix : Type 0 where
  pub rows : ℕ
  pub cols : ℕ
  pub nums : List Float  -- row after row

unfoldable pub matrix : Format → Bool → ℕ → ℕ → Parser Matrix
matrix f positive most_rows most_cols = do
  w ← block_width matrix_tag
  r ← dim 1 most_rows
  c ← dim 1 most_cols
  xs ← floats f w positive (r * c)
  give (record { rows = r; cols = c; nums = xs })

abbrev pub triangle : ℕ → ℕ
triangle n = n * (n + 1) / 2

-- a symmetric matrix: the lower triangle, row after row
pub record Packed : Type 0 where
  pub rows : ℕ
  pub nums : List Float

unfoldable pub packed_matrix : Parser Packed
packed_matrix = do
  w ← block_width packed_tag
  n ← dim 1 max_feat
  xs ← floats binary64 w false (triangle n)
  give (record { rows = n; nums = xs })

-- ---- the GMM

pub record Gmm : Type 0 where
  pub weights : List Float
  pub means_invvars : Matrix
  pub inv_vars : Matrix

-- the token `<WEIGHTS>`, after `<GCONSTS>` and its vector if they are there
unfoldable pub weights_heading : Parser (Unit {0})
weights_heading = do
  w ← word
  if same w (text "<GCONSTS>") then (skipped >> token (text "<WEIGHTS>")) else need (same w (text "<WEIGHTS>")) 3

unfoldable pub gmm : Parser Gmm
gmm = do
  binary
  token (text "<DiagGMM>")
  weights_heading
  w ← vector binary32 true max_gauss
  token (text "<MEANS_INVVARS>")
  m ← matrix binary32 false max_gauss max_feat
  token (text "<INV_VARS>")
  v ← matrix binary32 true max_gauss max_feat
  need (eqb m.rows v.rows && (eqb m.cols v.cols && eqb (length w) m.rows)) 5
  give (record { weights = w; means_invvars = m; inv_vars = v })

-- ---- the extractor

pub record Extractor : Type 0 where
  pub num_gauss : ℕ
  pub feat_dim : ℕ
  pub ivector_dim : ℕ
  pub m : List Matrix  -- one for each Gaussian
  pub sigma_inv : List Packed  -- one for each Gaussian
  pub prior_offset : Float

-- `<w>` has no rows: seen once both lengths are read
unfoldable pub rowless : Parser (Unit {0})
rowless = do
  w ← block_width matrix_tag
  r ← dim 0 max_skipped
  c ← dim 0 max_skipped
  need (eqb r 0) 5

unfoldable pub extractor_heading : Parser (Unit {0})
extractor_heading = do
  binary
  token (text "<IvectorExtractor>")
  token (text "<w>")
  rowless
  token (text "<w_vec>")
  skipped
  token (text "<M>")

-- a number by itself: the size byte 4 or 8, its bytes, its value
unfoldable pub single : Parser Float
single = do
  z ← bytes 1
  w ← width_by (λ f. byte_width f ∷ []) z
  b ← bytes (byte_width w)
  need (finite (of_bits w (little_endian b))) 6
  give (of_bits w (little_endian b))

-- matrix i of a list
abbrev pub matrix_at : List Matrix → ℕ → Matrix
matrix_at ms i = get_or ms i (record { rows = 0; cols = 0; nums = [] })

-- all matrices have the lengths of the first
unfoldable pub alike : List Matrix → List Packed → Bool
alike ms vs =
    let a = matrix_at ms 0 in
    all_of (λ m. eqb m.rows a.rows && eqb m.cols a.cols) ms && all_of (λ v. eqb v.rows a.rows) vs

unfoldable pub extractor : Parser Extractor
extractor = do
  extractor_heading
  n ← dim 1 max_gauss
  ms ← times n (matrix binary64 false max_feat max_ivector)
  token (text "<SigmaInv>")
  vs ← times n packed_matrix
  token (text "<IvectorOffset>")
  x ← single
  token (text "</IvectorExtractor>")
  need (alike ms vs) 5
  give (record { num_gauss = n; feat_dim = (matrix_at ms 0).rows; ivector_dim = (matrix_at ms 0).cols; m = ms; sigma_inv = vs; prior_offset = x })

-- ---- the LDA

unfoldable pub lda : Parser Matrix
lda = binary >> matrix binary32 false max_feat max_columns
