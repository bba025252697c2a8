-- What is claimed of the calls that write a model: four statements, each over both widths.
use Rattle.std.specs.Prelude.{◌≡◌, ℕ, ◌+◌, ◌*◌, ◌^◌, ◌≤◌, Bool, true, ◌&&◌, List, [], ◌∷◌, map, length, take, drop, leb, ltb, eqb, Float, if◌then◌else◌}
use Rattle.std.specs.Float.{Format, binary32}
use Rattle.std.specs.Float.Ieee.{fits}
use Rattle.loops.specs.Lists.{all_of, all_true, build}
use Rattle.loops.specs.Refusal.{taken}
use Rattle.definition.specs.declared.IvectorOptions.{IvectorOptions}
use Rattle.definition.specs.declared.TableLengths.{TableLengths}
use Rattle.floats.specs.Real.{kept_as}
use Rattle.definition.specs.Reader.{Got, read, refused}
use Rattle.definition.specs.Kaldi.{triangle}
use Rattle.definition.specs.Model.{Contents, Files, dims_of, model_of, tables_fit, load_scratch, load}
use Rattle.definition.specs.Text.{cmvn}
use Rattle.writer.specs.Written as W
use Rattle.writer.specs.declared.model_bytes.ModelSizes.{ModelSizes}
use Rattle.writer.specs.Written.{Written, Params, part, gmm_bytes, extractor_bytes, lda_bytes, model_bytes, write_refusal, written, written_out}

-- every number is one of the width, as numbers in code are
abbrev pub of_width : Format → Params → List Bool
of_width f p =
    all_of (fits f) p.weights
    ∷ all_of (fits f) p.means_invvars
    ∷ all_of (fits f) p.inv_vars
    ∷ all_of (fits f) p.m
    ∷ all_of (fits f) p.sigma_inv
    ∷ fits f p.prior_offset
    ∷ all_of (fits f) p.lda ∷ []

-- a file keeps a size in four bytes
abbrev pub in_four_bytes : ModelSizes → List Bool
in_four_bytes z =
    ltb z.num_gauss (2 ^ 32) ∷ ltb z.ext_gauss (2 ^ 32) ∷ ltb z.feat_dim (2 ^ 32) ∷ ltb z.ivector_dim (2 ^ 32) ∷ ltb z.lda_cols (2 ^ 32) ∷ []

-- lists have the lengths of their sizes
abbrev pub of_sizes : Params → List Bool
of_sizes p =
    let g = p.sizes.num_gauss in
    let e = p.sizes.ext_gauss in
    let d = p.sizes.feat_dim in
    eqb (length p.weights) g
    ∷ eqb (length p.means_invvars) (g * d)
    ∷ eqb (length p.inv_vars) (g * d)
    ∷ eqb (length p.m) (e * (d * p.sizes.ivector_dim))
    ∷ eqb (length p.sigma_inv) (e * triangle d)
    ∷ eqb (length p.lda) (d * p.sizes.lda_cols) ∷ []

-- parameters that have files: sizes that four bytes hold, lists as long as the sizes say, numbers of the width. Whether a load would take them is not said.
pub record Shaped (f : Format) (p : Params) : Type 0 where
  pub in_four_bytes_is : all_true (in_four_bytes p.sizes) ≡ true
  pub of_sizes_is : all_true (of_sizes p) ≡ true
  pub of_width_is : all_true (of_width f p) ≡ true

-- the files that parameters would be, with a text
abbrev pub files_of : Format → Params → List ℕ → Files
files_of f p t = record { gmm = gmm_bytes f p; extractor = extractor_bytes f p; lda = lda_bytes f p; cmvn = t }

-- ---- files, and what they are to a load

-- the files of an answer, cut out of the output by its lengths
abbrev pub files_in : Written → List ℕ → List ℕ → Files
files_in (W.Files gmm extractor lda) out t = record { gmm = take gmm out; extractor = take extractor (drop gmm out); lda = take lda (drop (gmm + extractor) out); cmvn = t }
files_in (W.Refused r) out t = record { gmm = []; extractor = []; lda = []; cmvn = t }

abbrev pub row_of : Got (List Float) → List Float
row_of (refused n) = []
row_of (read row next) = row

-- what the parameters are to a load: the numbers of the GMM and the LDA as f32, those of the extractor as f64
abbrev pub contents_of : Format → Params → List Float → Contents
contents_of f p row =
    let g = p.sizes.num_gauss in
    let e = p.sizes.ext_gauss in
    let d = p.sizes.feat_dim in
    let s = p.sizes.ivector_dim in
    record {
      gmm =
          record {
            weights = map (kept_as binary32 f) p.weights;
            means_invvars = record { rows = g; cols = d; nums = map (kept_as binary32 f) p.means_invvars };
            inv_vars = record { rows = g; cols = d; nums = map (kept_as binary32 f) p.inv_vars };
          };
      extractor =
          record {
            num_gauss = e;
            feat_dim = d;
            ivector_dim = s;
            m = build e (λ i. record { rows = d; cols = s; nums = part (d * s) i p.m });
            sigma_inv = build e (λ i. record { rows = d; nums = part (triangle d) i p.sigma_inv });
            prior_offset = p.prior_offset;
          };
      lda = record { rows = d; cols = p.sizes.lda_cols; nums = map (kept_as binary32 f) p.lda };
      global_row = row;
    }

-- tables of lengths z, and so much scratch, are enough for the model of the parameters
abbrev pub enough : Format → IvectorOptions → List ℕ → Params → TableLengths → ℕ → Bool
enough f o t p z scratch = let d = dims_of (contents_of f p (row_of (cmvn t 0))) in tables_fit o d z && leb (load_scratch d) scratch

-- ---- what load would refuse gets load's number

abbrev pub number_in : {A : Type 0} → Got A → ℕ
number_in (refused n) = n
number_in (read a next) = 0

-- whatever the sizes, numbers, options and text: a load of the files that the parameters would be, with tables and scratch that are enough, is refused by the number
-- that the call answers; only where it is taken, and the output is too short, does the call answer 26
abbrev pub Refuses : Type 0
Refuses =
    (f : Format) (o : IvectorOptions) (t : List ℕ) (p : Params) (room : ℕ) → Shaped f p → (z : TableLengths) (scratch : ℕ) → enough f o t p z scratch ≡ true
    → write_refusal f o t p room ≡ (let r = number_in (load o (files_of f p t) z scratch) in taken r (if ltb room (length (model_bytes f p)) then 26 else 0) r)

-- a set that load accepts, with these options and this text: there are tables and scratch into which it loads the files
pub record Accepted (f : Format) (o : IvectorOptions) (t : List ℕ) (p : Params) : Type 0 where
  pub shaped : Shaped f p
  pub tables : TableLengths
  pub scratch : ℕ
  pub loaded : number_in (load o (files_of f p t) tables scratch) ≡ 0

-- and those are the sets that the call takes
abbrev pub Takes : Type 0
Takes =
    (f : Format) (o : IvectorOptions) (t : List ℕ) (p : Params) (room : ℕ) → write_refusal f o t p room ≡ 0 → all_true (of_width f p) ≡ true
    → Accepted f o t p × (length (model_bytes f p) ≤ room)

-- ---- what was written loads as the parameters

-- where the output has room, into tables of lengths z and with so much scratch: the model of the parameters, or 8 where there is too little room
abbrev pub Loads : Type 0
Loads =
    (f : Format) (o : IvectorOptions) (t : List ℕ) (p : Params) (out : List ℕ) → Accepted f o t p → length (model_bytes f p) ≤ length out
    → (z : TableLengths) (scratch : ℕ)
    → load o (files_in (written f o t p (length out)) (written_out f o t p out) t) z scratch
    ≡ (if enough f o t p z scratch then read (model_of o (contents_of f p (row_of (cmvn t 0))) z) 0 else refused 8)

-- ---- sets that differ are written as different bytes

-- two accepted sets that are written as the same bytes are the same, in their sizes and in every number: so one bit that differs is seen in the bytes, be it the
-- sign of a zero or one that a load's narrowing drops
abbrev pub Differ : Type 0
Differ =
    (f : Format) (o o' : IvectorOptions) (t t' : List ℕ) (p q : Params)
    → Accepted f o t p → Accepted f o' t' q → model_bytes f p ≡ model_bytes f q → p ≡ q
