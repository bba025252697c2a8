-- The model of example P9 loads with each base dimension: GMM and extractor are the same bytes for all, and compute; the LDA is read by the laws of
-- written blocks, the CMVN text by those of Sums.antt; the tables are as long as the base dimension says.
use Rattle.std.specs.Prelude.{if◌then◌else◌}
use mathlib.Core.Path.{◌≡◌, refl, sym, ap, ap₂, ◌∙◌, subst}
use mathlib.Core.Bool.{Bool, true, false, not, ◌&&◌}
use mathlib.Core.List.{List, [], ◌∷◌, ◌++◌, append-nil, map-id}
use Prim.Native.Nat.{ℕ, zero, suc, ◌+◌, ◌-◌, ◌*◌, ◌/◌, ◌%◌, ◌≤◌}
use native.Mathlib.Nat.{mod-eq_of_lt, div-eq_of_lt, mul-one}
use native.Mathlib.Omega.{arith}
use borrow.Author.Tests.{le-leb, eq-eqb, le-ltb}
use lib.Dec.{leb}
use lib.ListN.{length, get_or, replicate, length-replicate, get_or-replicate}
use lib.Ieee.{Float, nan, binary32, fits}
use lib.Ieee.Bits.{is_true, of_bits-fits}
use Rattle.loops.specs.Lists.{build, flat, all_of}
use Rattle.loops.proofs.Choose.{and_both}
use Rattle.loops.proofs.Flat.{flat_ext}
use Rattle.floats.specs.Operators.{f32, as_f64, zero₃₂, one₃₂}
use Rattle.definition.specs.declared.Dimensions.{Dimensions}
use Rattle.definition.specs.declared.TableLengths.{TableLengths}
use Rattle.definition.specs.Options.{within, max_feat, max_columns, options_in_range, dims_agree, spliced}
use Rattle.floats.specs.Real.{kept_as}
use Rattle.definition.specs.Reader.{read, refused, after, ◌>>◌, give, need, kept}
use Rattle.definition.specs.Kaldi.{Matrix, matrix, Gmm, gmm, Extractor, extractor, lda}
use Rattle.definition.specs.Model.{Contents, Model, Tables, dims_of, contents_agree, gconst, transposed, sigma_inv_m, quadratic_term, lda_offset_of, tables_from, tables_of, model_of, tables_fit, load_scratch, judged, loading, load}
use Rattle.definition.proofs.Computed.{computed}
use Rattle.writer.specs.Written.{low_bytes, numbers_bytes, mark, matrix_bytes, outside}
use Rattle.writer.proofs.Reading.{Reads, reads_then, reads_when, reads_mark, reads_value, spoilt, Wide, judges_matrix}
use Rattle.lists.specs.Files.{options, gmm_file, extractor_file, lda_file, files}
use Rattle.lists.specs.Loads.{dims, model_with, largest, Loads, LoadsInLargest}
use Rattle.lists.proofs.Sums.{V, cmvn_is, long_row}

-- ---- what the files hold

abbrev matrix_of : ℕ → ℕ → List Float → Matrix
matrix_of r c xs = record { rows = r; cols = c; nums = xs }

abbrev G : Gmm
G = record { weights = one₃₂ ∷ []; means_invvars = matrix_of 1 1 (one₃₂ ∷ []); inv_vars = matrix_of 1 1 (one₃₂ ∷ []) }

abbrev X : Extractor
X =
    record {
      num_gauss = 1;
      feat_dim = 1;
      ivector_dim = 1;
      m = matrix_of 1 1 (as_f64 2 ∷ []) ∷ [];
      sigma_inv = (record { rows = 1; nums = as_f64 1 ∷ [] }) ∷ [];
      prior_offset = as_f64 1;
    }

abbrev ones : ℕ → List Float
ones n = replicate n one₃₂

got_gmm : gmm gmm_file 0 ≡ read G 95
unfolding computed gmm_file
got_gmm = refl

got_extractor : extractor extractor_file 0 ≡ read X 156
unfolding computed extractor_file
got_extractor = refl

in_range : options_in_range options ≡ true
unfolding computed
in_range = refl

-- ---- the LDA

fit_ones : (n : ℕ) → all_of (fits binary32) (ones n) ≡ true
unfolding all_of
fit_ones zero = refl
fit_ones (suc n) = and_both _ _ (is_true (fits binary32 one₃₂) (of_bits-fits binary32 0x3f80_0000)) (fit_ones n)

kept_ones : (n : ℕ) → all_of (λ x. kept false (kept_as binary32 binary32 x)) (ones n) ≡ true
unfolding computed
kept_ones zero = refl
kept_ones (suc n) = kept_ones n

bytes_ones : (n : ℕ) → numbers_bytes binary32 (ones n) ≡ flat n (λ i. 0 ∷ 0 ∷ 128 ∷ 63 ∷ [])
unfolding computed numbers_bytes low_bytes
bytes_ones zero = refl
bytes_ones (suc n) = ap (λ (l : List ℕ). 0 ∷ 0 ∷ 128 ∷ 63 ∷ l) (bytes_ones n)

lda_bytes_are : (dim : ℕ) → dim ≤ 64 → lda_file dim ≡ mark ++ matrix_bytes binary32 1 dim (ones dim)
unfolding lda_file low_bytes
lda_bytes_are dim h =
    let low : dim % 256 ≡ dim = mod-eq_of_lt (omega arith) in
    let high : dim / 256 ≡ 0 = div-eq_of_lt (omega arith) in
    rw (bytes_ones dim, low, high)

reads_lda : (dim : ℕ) → 1 ≤ dim → dim ≤ 64 → Reads lda (mark ++ matrix_bytes binary32 1 dim (ones dim)) (matrix_of 1 dim (ones dim))
unfolding lda
reads_lda dim l h =
    let wide : Wide binary32 binary32 false (1 * dim) (ones dim) = record { long = length-replicate dim one₃₂ ∙ omega arith; fit = fit_ones dim } in
    let inside : within 1 max_columns dim ≡ true = and_both _ _ (le-leb 1 dim l) (le-leb dim max_columns (omega arith)) in
    reads_then (λ _. matrix binary32 false max_feat max_columns) reads_mark
    (reads_value (ap (matrix_of 1 dim) (map-id (ones dim)))
    (reads_when (outside max_feat 1 ∷ outside max_columns dim ∷ spoilt binary32 binary32 false (ones dim) ∷ []) (refl, (ap not inside, (ap not (kept_ones dim), tt)))
    (judges_matrix binary32 binary32 false max_feat max_columns 1 dim (ones dim) (omega arith) (omega arith) wide)))

got_lda : (dim : ℕ) → 1 ≤ dim → dim ≤ 64 → lda (lda_file dim) 0 ≡ read (matrix_of 1 dim (ones dim)) (0 + length (lda_file dim))
got_lda dim l h =
    let whole : Reads lda (lda_file dim) (matrix_of 1 dim (ones dim)) = subst (λ (b : List ℕ). Reads lda b (matrix_of 1 dim (ones dim))) (sym (lda_bytes_are dim h)) (reads_lda dim l h) in
    ap (λ (b : List ℕ). lda b 0) (sym (append-nil (lda_file dim))) ∙ whole.at [] []

-- ---- the tables

gconsts : build 1 (gconst G) ≡ f32 0xbfb5_9fc7 ∷ []
unfolding computed
gconsts = refl

first : transposed 1 (matrix_of 1 1 (one₃₂ ∷ [])) ≡ one₃₂ ∷ []
unfolding computed
first = refl

products : sigma_inv_m 1 1 (as_f64 1 ∷ []) (as_f64 2 ∷ []) ≡ as_f64 2 ∷ []
unfolding computed
products = refl

squares : quadratic_term 1 1 (as_f64 2 ∷ []) (as_f64 2 ∷ []) ≡ as_f64 4 ∷ []
unfolding computed
squares = refl

single_ones : (n : ℕ) → flat n (λ c. one₃₂ ∷ []) ≡ ones n
unfolding flat
single_ones zero = refl
single_ones (suc n) = ap (λ (l : List Float). one₃₂ ∷ l) (single_ones n)

turned : (n : ℕ) → transposed n (matrix_of 1 n (ones n)) ≡ ones n
unfolding transposed build
turned n =
    flat_ext n _ (λ c. one₃₂ ∷ []) (λ c h. let z : 0 * n + c ≡ c = omega arith in ap (λ (x : Float). x ∷ []) (ap (λ (i : ℕ). get_or (ones n) i nan) z ∙ get_or-replicate {A = Float} n c one₃₂ nan h))
    ∙ single_ones n

no_offset : (n : ℕ) → build 1 (lda_offset_of n (matrix_of 1 n (ones n))) ≡ zero₃₂ ∷ []
unfolding build
no_offset n = rw (le-ltb n n (omega arith))

module _ (dim : ℕ) (low : 1 ≤ dim) (high : dim ≤ 64) where
  abbrev row : List Float
  row = V dim low high

  abbrev C : Contents
  C = record { gmm = G; extractor = X; lda = matrix_of 1 dim (ones dim); global_row = row }

  base : length row - 1 ≡ dim
  base = omega (arith, long_row dim low high)

  dims_are : dims_of C ≡ dims dim
  dims_are = ap (λ (b : ℕ). record { num_gauss = 1; ext_gauss = 1; feat_dim = 1; ivector_dim = 1; base_dim = b; lda_cols = dim }) base

  wide_row : spliced options (dims dim) ≡ dim
  wide_row = mul-one dim

  tables_are : tables_of options C ≡ tables_from (f32 0xbfb5_9fc7 ∷ []) (one₃₂ ∷ []) (one₃₂ ∷ []) (as_f64 2 ∷ []) (as_f64 4 ∷ []) (ones dim) (zero₃₂ ∷ []) row
  unfolding tables_of flat
  tables_are = rw (gconsts, first, products, squares, base, wide_row, turned dim, no_offset dim)

  agree : contents_agree options C ≡ true
  unfolding contents_agree dims_agree all_of
  agree = rw (base, wide_row, eq-eqb dim dim refl)

  module _ (z : TableLengths) (n : ℕ) where
    abbrev fit : Bool
    fit = tables_fit options (dims dim) z && leb 2 n

    last : (b : Bool) (M : Model) → (need b 8 >> give M) [] 0 ≡ (if b then read M 0 else refused 8)
    last true M = refl
    last false M = refl

    judged_is : judged options z n C [] 0 ≡ (if fit then read (model_with dim z) 0 else refused 8)
    unfolding judged
    judged_is =
        ap (λ (b : Bool). after (need b 5 [] 0) (λ _. need (tables_fit options (dims_of C) z && leb (load_scratch (dims_of C)) n) 8 >> give (model_of options C z)) []) agree
        ∙ last (tables_fit options (dims_of C) z && leb (load_scratch (dims_of C)) n) (model_of options C z)
        ∙ ap₂ (λ (d : Dimensions) (t : Tables). if tables_fit options d z && leb (load_scratch d) n then read (record { info = record { opts = options; dims = d; prior_offset = as_f64 1; tables = z }; tables = t }) 0 else refused 8) dims_are tables_are

    load_is : load options (files dim) z n ≡ (if fit then read (model_with dim z) 0 else refused 8)
    unfolding load loading
    load_is = simp (in_range, got_gmm, got_extractor, got_lda dim low high, cmvn_is dim low high) judged_is

pub loads : Loads
loads dim low high z n = load_is dim low high z n

room : (dim : ℕ) → dim ≤ 64 → (tables_fit options (dims dim) largest && leb 2 2) ≡ true
unfolding tables_fit
room dim h = rw (mul-one dim, mul-one dim, le-leb dim 64 h, le-leb (dim + 1) 65 (omega arith))

pub loads_in_largest : LoadsInLargest
loads_in_largest dim low high =
    loads dim low high largest 2 ∙ ap (λ (b : Bool). if b then read (model_with dim largest) 0 else refused 8) (room dim high)
