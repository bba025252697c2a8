-- A model: its tables, how they come from the files' numbers, and the load with refusals 1 to 8.
use Rattle.std.specs.Prelude.{ℕ, ◌+◌, ◌-◌, ◌*◌, ◌/◌, Bool, ◌&&◌, List, [], ◌∷◌, length, get_or, take, leb, ltb, eqb, Float, if◌then◌else◌, Result, Ok, Err}
use Rattle.std.specs.Float.Ieee.{neg}
use Rattle.loops.specs.Lists.{build, flat, all_true, pairwise, over}
use Rattle.floats.specs.Operators.{◌+₆₄◌, ◌-₆₄◌, ◌*₆₄◌, ◌/₆₄◌, f64, zero₃₂, zero₆₄, half₆₄, as_f64, at, sum₆₄}
use Rattle.floats.specs.Narrow.{narrowed}
use Rattle.floats.specs.Ln.{ln_of}
use Rattle.definition.specs.declared.IvectorOptions.{IvectorOptions}
use Rattle.definition.specs.declared.Dimensions.{Dimensions}
use Rattle.definition.specs.declared.TableLengths.{TableLengths}
use Rattle.definition.specs.declared.IvectorInfo.{IvectorInfo}
use Rattle.definition.specs.Options.{options_in_range, spliced, dims_agree}
use Rattle.definition.specs.Reader.{Got, read, refused, Parser, after, ◌>>=◌, ◌>>◌, give, need}
use Rattle.definition.specs.Kaldi.{Matrix, matrix_at, triangle, Gmm, gmm, Extractor, extractor, lda}
use Rattle.definition.specs.Text.{cmvn}

-- ---- `DiagGmm::parse`

-- 4019.. is 2 pi
abbrev pub gconst_offset : ℕ → Float
gconst_offset d = neg half₆₄ *₆₄ ln_of (f64 0x4019_21fb_5444_2d18) *₆₄ as_f64 d

-- of Gaussian i
unfoldable pub gconst : Gmm → ℕ → Float
gconst x i =
    let d = x.inv_vars.cols in
    narrowed (sum₆₄ (ln_of (at x.weights i) +₆₄ gconst_offset d) d (λ k.
    let miv = at x.means_invvars.nums (i * d + k) in
    let iv = at x.inv_vars.nums (i * d + k) in
    half₆₄ *₆₄ ln_of iv -₆₄ half₆₄ *₆₄ miv *₆₄ miv /₆₄ iv))

-- the first n columns of a matrix as rows
unfoldable pub transposed : ℕ → Matrix → List Float
transposed n x = flat n (λ c. build x.rows (λ r. at x.nums (r * x.cols + c)))

-- ---- `IvectorExtractor::parse`

-- `packed_index`: a symmetric matrix by the rows of its lower half
unfoldable pub packed : ℕ → ℕ → ℕ
packed i j = if leb j i then i * (i + 1) / 2 + j else j * (j + 1) / 2 + i

-- Σ⁻¹ M of one Gaussian, d rows of s
unfoldable pub sigma_inv_m : ℕ → ℕ → List Float → List Float → List Float
sigma_inv_m d s si m = flat d (λ a. build s (λ c. sum₆₄ zero₆₄ d (λ b. at si (packed a b) *₆₄ at m (b * s + c))))

-- Mᵗ Σ⁻¹ M of one Gaussian, packed
unfoldable pub quadratic_term : ℕ → ℕ → List Float → List Float → List Float
quadratic_term d s m sim = flat s (λ p. build (p + 1) (λ q. sum₆₄ zero₆₄ d (λ b. at m (b * s + p) *₆₄ at sim (b * s + q))))

-- ---- `IvectorInfo::open`

-- what the four files hold
pub record Contents : Type 0 where
  pub gmm : Gmm
  pub extractor : Extractor
  pub lda : Matrix
  pub global_row : List Float

abbrev pub dims_of : Contents → Dimensions
dims_of c =
    record {
      num_gauss = c.gmm.inv_vars.rows;
      ext_gauss = c.extractor.num_gauss;
      feat_dim = c.extractor.feat_dim;
      ivector_dim = c.extractor.ivector_dim;
      base_dim = length c.global_row - 1;
      lda_cols = c.lda.cols;
    }

-- where this fails: refusal 5 across files
unfoldable pub contents_agree : IvectorOptions → Contents → Bool
contents_agree o c = all_true (dims_agree o (dims_of c) ∷ eqb c.lda.rows c.extractor.feat_dim ∷ eqb c.gmm.inv_vars.cols c.extractor.feat_dim ∷ [])

-- a model's tables
pub record Tables : Type 0 where
  pub gconsts : List Float  -- by Gaussian
  pub means_invvars_t : List Float  -- by dimension, then Gaussian
  pub inv_vars_t : List Float  -- by dimension, then Gaussian
  pub sigma_inv_m : List Float  -- by Gaussian, then feature dimension, then i-vector dimension
  pub u : List Float  -- by Gaussian, then packed
  pub lda_t : List Float  -- by spliced dimension, then row
  pub lda_offset : List Float  -- by row
  pub global_mean_stats : List Float  -- sums, then the count

-- in that order
abbrev pub tables_from : List Float → List Float → List Float → List Float → List Float → List Float → List Float → List Float → Tables
tables_from gconsts means_invvars_t inv_vars_t sigma_inv_m u lda_t lda_offset global_mean_stats =
    record {
      gconsts = gconsts;
      means_invvars_t = means_invvars_t;
      inv_vars_t = inv_vars_t;
      sigma_inv_m = sigma_inv_m;
      u = u;
      lda_t = lda_t;
      lda_offset = lda_offset;
      global_mean_stats = global_mean_stats;
    }

-- row r of the column after n of them, or 0 where there is none
abbrev pub lda_offset_of : ℕ → Matrix → ℕ → Float
lda_offset_of n x r = if ltb n x.cols then at x.nums (r * x.cols + n) else zero₃₂

-- the tables that the files define
unfoldable pub tables_of : IvectorOptions → Contents → Tables
tables_of o c =
    let x = c.extractor in
    let d = x.feat_dim in
    let s = x.ivector_dim in
    let n = spliced o (dims_of c) in
    let m : ℕ → List Float = λ i. (matrix_at x.m i).nums in
    let sim : ℕ → List Float = λ i. sigma_inv_m d s (get_or x.sigma_inv i (record { rows = 0; nums = [] })).nums (m i) in
    tables_from (build c.gmm.inv_vars.rows (gconst c.gmm))
    (transposed d c.gmm.means_invvars)
    (transposed d c.gmm.inv_vars)
    (flat x.num_gauss sim)
    (flat x.num_gauss (λ i. quadratic_term d s (m i) (sim i)))
    (transposed n c.lda)
    (build d (lda_offset_of n c.lda))
    c.global_row

-- a loaded model: its record, and its tables
pub record Model : Type 0 where
  pub info : IvectorInfo
  pub tables : Tables

abbrev pub model : IvectorInfo → Tables → Model
model i t = record { info = i; tables = t }

abbrev pub model_of : IvectorOptions → Contents → TableLengths → Model
model_of o c z = model (record { opts = o; dims = dims_of c; prior_offset = c.extractor.prior_offset; tables = z }) (tables_of o c)

-- request 12: the same with a window of its own, that in force, in place of the options'
abbrev pub in_force : IvectorInfo → ℕ → IvectorInfo
in_force i w =
    let o = i.opts in
    record {
      opts = record {
        left_context = o.left_context;
        right_context = o.right_context;
        cmn_window = w;
        global_frames = o.global_frames;
        num_gselect = o.num_gselect;
        num_cg_iters = o.num_cg_iters;
        min_post = o.min_post;
        posterior_scale = o.posterior_scale;
        max_count = o.max_count;
        min_energy = o.min_energy;
      };
      dims = i.dims;
      prior_offset = i.prior_offset;
      tables = i.tables;
    }

abbrev pub model_in_force : Model → ℕ → Model
model_in_force M w = model (in_force M.info w) M.tables

-- ---- the load

-- lengths of the tables, in their order
abbrev pub lengths_from : ℕ → ℕ → ℕ → ℕ → ℕ → ℕ → ℕ → ℕ → TableLengths
lengths_from gconsts means_invvars_t inv_vars_t sigma_inv_m u lda_t lda_offset global_mean_stats =
    record {
      gconsts = gconsts;
      means_invvars_t = means_invvars_t;
      inv_vars_t = inv_vars_t;
      sigma_inv_m = sigma_inv_m;
      u = u;
      lda_t = lda_t;
      lda_offset = lda_offset;
      global_mean_stats = global_mean_stats;
    }

-- how many numbers each table keeps
abbrev pub table_sizes : IvectorOptions → Dimensions → TableLengths
table_sizes o d =
    let g = d.num_gauss in
    let e = d.ext_gauss in
    let f = d.feat_dim in
    let s = d.ivector_dim in
    lengths_from g (g * f) (g * f) (e * f * s) (e * triangle s) (spliced o d * f) f (d.base_dim + 1)

-- how many numbers lent tables have
abbrev pub table_lengths_of : Tables → TableLengths
table_lengths_of t =
    lengths_from (length t.gconsts) (length t.means_invvars_t) (length t.inv_vars_t) (length t.sigma_inv_m) (length t.u) (length t.lda_t)
    (length t.lda_offset) (length t.global_mean_stats)

abbrev pub table_lengths : TableLengths → List ℕ
table_lengths z =
    z.gconsts ∷ z.means_invvars_t ∷ z.inv_vars_t ∷ z.sigma_inv_m ∷ z.u ∷ z.lda_t ∷ z.lda_offset ∷ z.global_mean_stats ∷ []

unfoldable pub tables_fit : IvectorOptions → Dimensions → TableLengths → Bool
tables_fit o d z = pairwise leb (table_lengths (table_sizes o d)) (table_lengths z)

-- lent tables: as many numbers of each as are kept there; and with a model's tables at their fronts
abbrev pub kept_tables : TableLengths → Tables → Tables
kept_tables z t =
    tables_from (take z.gconsts t.gconsts) (take z.means_invvars_t t.means_invvars_t) (take z.inv_vars_t t.inv_vars_t)
    (take z.sigma_inv_m t.sigma_inv_m) (take z.u t.u) (take z.lda_t t.lda_t) (take z.lda_offset t.lda_offset)
    (take z.global_mean_stats t.global_mean_stats)

abbrev pub filled_tables : Tables → Tables → Tables
filled_tables x t =
    tables_from (over x.gconsts t.gconsts) (over x.means_invvars_t t.means_invvars_t) (over x.inv_vars_t t.inv_vars_t)
    (over x.sigma_inv_m t.sigma_inv_m) (over x.u t.u) (over x.lda_t t.lda_t) (over x.lda_offset t.lda_offset)
    (over x.global_mean_stats t.global_mean_stats)

-- the model that a record and lent tables hold
abbrev pub model_in : IvectorInfo → Tables → Model
model_in i t = model i (kept_tables (table_sizes i.opts i.dims) t)

-- scratch of a load: one Gaussian's Σ⁻¹ and M
abbrev pub load_scratch : Dimensions → ℕ
load_scratch d = triangle d.feat_dim + d.feat_dim * d.ivector_dim

pub record Files : Type 0 where
  pub gmm : List ℕ
  pub extractor : List ℕ
  pub lda : List ℕ
  pub cmvn : List ℕ

-- a file of its own, from its start; the bytes after its last item are ignored
abbrev pub file : {A : Type 0} → Parser A → List ℕ → Parser A
file p bytes s i = after (p bytes 0) (λ a _ _. read a i) bytes

-- the four files, one after the other
abbrev pub reading : Files → Parser Contents
reading f = do
  g ← file gmm f.gmm
  x ← file extractor f.extractor
  l ← file lda f.lda
  r ← file cmvn f.cmvn
  give (record { gmm = g; extractor = x; lda = l; global_row = r })

-- the files together, then the rooms: lent lengths z, and of scratch
unfoldable pub judged : IvectorOptions → TableLengths → ℕ → Contents → Parser Model
judged o z scratch c = do
  need (contents_agree o c) 5
  need (tables_fit o (dims_of c) z && leb (load_scratch (dims_of c)) scratch) 8
  give (model_of o c z)

-- "When a call is declined", 1 to 8
unfoldable pub loading : IvectorOptions → Files → TableLengths → ℕ → Parser Model
loading o f z scratch = do
  need (options_in_range o) 1
  c ← reading f
  judged o z scratch c

unfoldable pub load : IvectorOptions → Files → TableLengths → ℕ → Got Model
load o f z scratch = loading o f z scratch [] 0

-- what a load answers, and what it leaves in the tables
abbrev pub loaded_of : Got Model → Result IvectorInfo ℕ
loaded_of (refused n) = Err n
loaded_of (read M at) = Ok M.info

abbrev pub loaded_tables : Got Model → Tables → Tables
loaded_tables (refused n) t = t
loaded_tables (read M at) t = filled_tables M.tables t
