-- What options, dimensions and lent lengths that pass their tests say of numbers.
use mathlib.Core.Path.{◌≡◌, sym}
use mathlib.Core.Bool.{Bool, true, false, ◌||◌, and-true}
use mathlib.Core.Logic.{◌⊎◌, inl, inr}
use Prim.Native.Nat.{ℕ, ◌+◌, ◌*◌, ◌≤◌, ◌<◌}
use native.Mathlib.Nat.{mul-le-mul}
use native.Mathlib.Omega.{arith}
use lib.Dec.{leb, eqb}
use borrow.Author.Tests.{leb-true, eqb-true, le-leb, lt-leb, eq-eqb, ne_eqb}
use Rattle.loops.specs.Ring.{rows_in}
use Rattle.loops.proofs.Choose.{by-test, or_first, and_second, and_both, and_holds}
use Rattle.loops.proofs.Tests.{each_of, each_pair}
use Rattle.definition.specs.declared.IvectorInfo.{IvectorInfo}
use Rattle.definition.specs.declared.IvectorOptions.{IvectorOptions}
use Rattle.definition.specs.declared.Dimensions.{Dimensions}
use Rattle.definition.specs.declared.TableLengths.{TableLengths}
use Rattle.definition.specs.declared.RoomLengths.{RoomLengths}
use Rattle.definition.specs.Options.{within, options_in_range, dims_in_range, width, spliced, dims_agree}
use Rattle.definition.specs.Kaldi.{triangle}
use Rattle.definition.specs.Model.{table_sizes, table_lengths, tables_fit}
use Rattle.definition.specs.Stream.{record_sound, info_sound, stream_scratch, estimate_sizes, estimate_lengths, rooms_fit}

pub in_limits : (low high n : ℕ) → within low high n ≡ true → (low ≤ n) × (n ≤ high)
in_limits low high n e = let h = and_holds (leb low n) (leb n high) e in (leb-true low n h.0, leb-true n high h.1)

pub record OptionRanges (o : IvectorOptions) : Type 0 where
  pub left_is : o.left_context ≤ 8
  pub right_is : o.right_context ≤ 8
  pub some_window : 0 < o.cmn_window
  pub window_is : o.cmn_window ≤ 1000
  pub some_global : 0 < o.global_frames
  pub global_is : o.global_frames ≤ 10000
  pub some_gselect : 0 < o.num_gselect
  pub gselect_is : o.num_gselect ≤ 32
  pub iters_are : o.num_cg_iters ≤ 200

pub option_ranges : (o : IvectorOptions) → options_in_range o ≡ true → OptionRanges o
unfolding options_in_range
option_ranges o e =
    let h = each_of (λ t. t) _ e in
    let w = in_limits 1 1000 o.cmn_window h.1.1.0 in
    let g = in_limits 1 10000 o.global_frames h.1.1.1.0 in
    let n = in_limits 1 32 o.num_gselect h.1.1.1.1.0 in
    record {
      left_is = (in_limits 0 8 o.left_context h.0).1;
      right_is = (in_limits 0 8 o.right_context h.1.0).1;
      some_window = w.0;
      window_is = w.1;
      some_global = g.0;
      global_is = g.1;
      some_gselect = n.0;
      gselect_is = n.1;
      iters_are = (in_limits 0 200 o.num_cg_iters h.1.1.1.1.1.0).1;
    }

pub record DimRanges (d : Dimensions) : Type 0 where
  pub some_gauss : 0 < d.num_gauss
  pub gauss_is : d.num_gauss ≤ 1024
  pub some_ext : 0 < d.ext_gauss
  pub ext_is : d.ext_gauss ≤ 1024
  pub some_feat : 0 < d.feat_dim
  pub feat_is : d.feat_dim ≤ 64
  pub some_ivector : 0 < d.ivector_dim
  pub ivector_is : d.ivector_dim ≤ 128
  pub some_base : 0 < d.base_dim
  pub base_is : d.base_dim ≤ 64
  pub some_columns : 0 < d.lda_cols
  pub columns_are : d.lda_cols ≤ 1089

pub dim-ranges : (d : Dimensions) → dims_in_range d ≡ true → DimRanges d
unfolding dims_in_range
dim-ranges d e =
    let h = each_of (λ t. t) _ e in
    let g = in_limits 1 1024 d.num_gauss h.0 in
    let x = in_limits 1 1024 d.ext_gauss h.1.0 in
    let f = in_limits 1 64 d.feat_dim h.1.1.0 in
    let s = in_limits 1 128 d.ivector_dim h.1.1.1.0 in
    let b = in_limits 1 64 d.base_dim h.1.1.1.1.0 in
    let c = in_limits 1 1089 d.lda_cols h.1.1.1.1.1.0 in
    record {
      some_gauss = g.0;
      gauss_is = g.1;
      some_ext = x.0;
      ext_is = x.1;
      some_feat = f.0;
      feat_is = f.1;
      some_ivector = s.0;
      ivector_is = s.1;
      some_base = b.0;
      base_is = b.1;
      some_columns = c.0;
      columns_are = c.1;
    }

-- products of dimensions in range
pub record DimProducts (d : Dimensions) : Type 0 where
  pub gauss_feat : d.num_gauss * d.feat_dim ≤ 65536
  pub ext_feat : d.ext_gauss * d.feat_dim ≤ 65536
  pub ext_feat_ivector : d.ext_gauss * d.feat_dim * d.ivector_dim ≤ 8388608
  pub feat_ivector : d.feat_dim * d.ivector_dim ≤ 8192
  pub feat_next : d.feat_dim * (d.feat_dim + 1) ≤ 4160
  pub ivector_ivector : d.ivector_dim * d.ivector_dim ≤ 16384
  pub ivector_next : d.ivector_dim * (d.ivector_dim + 1) ≤ 16512
  pub ext_triangle : d.ext_gauss * triangle d.ivector_dim ≤ 8454144

pub dim_products : (d : Dimensions) → dims_in_range d ≡ true → DimProducts d
dim_products d e =
    let r = dim-ranges d e in
    let x : d.ext_gauss * d.feat_dim ≤ 65536 = mul-le-mul r.ext_is r.feat_is in
    let feat : d.feat_dim + 1 ≤ 65 = omega arith in
    let ivector : d.ivector_dim + 1 ≤ 129 = omega arith in
    let n : d.ivector_dim * (d.ivector_dim + 1) ≤ 16512 = mul-le-mul r.ivector_is ivector in
    let half : triangle d.ivector_dim ≤ 8256 = omega arith in
    record {
      gauss_feat = mul-le-mul r.gauss_is r.feat_is;
      ext_feat = x;
      ext_feat_ivector = mul-le-mul x r.ivector_is;
      feat_ivector = mul-le-mul r.feat_is r.ivector_is;
      feat_next = mul-le-mul r.feat_is feat;
      ivector_ivector = mul-le-mul r.ivector_is r.ivector_is;
      ivector_next = n;
      ext_triangle = mul-le-mul r.ext_is half;
    }

pub record SplicedRanges (o : IvectorOptions) (d : Dimensions) : Type 0 where
  pub some_spliced : 0 < spliced o d
  pub spliced_is : spliced o d ≤ 1088
  pub spliced_feat : spliced o d * d.feat_dim ≤ 69632

pub spliced-ranges : (o : IvectorOptions) (d : Dimensions) → options_in_range o ≡ true → dims_in_range d ≡ true → SplicedRanges o d
spliced-ranges o d e f =
    let p = option_ranges o e in
    let r = dim-ranges d f in
    let wide : width o ≤ 17 = omega arith in
    let some : 1 ≤ width o = omega arith in
    let s : spliced o d ≤ 1088 = mul-le-mul r.base_is wide in
    let n : 1 * 1 ≤ spliced o d = mul-le-mul r.some_base some in
    record { some_spliced = n; spliced_is = s; spliced_feat = mul-le-mul s r.feat_is }

pub record Agreeing (o : IvectorOptions) (d : Dimensions) : Type 0 where
  pub columns_are : (d.lda_cols ≡ spliced o d) ⊎ (d.lda_cols ≡ spliced o d + 1)
  pub gauss_fit : d.num_gauss ≤ d.ext_gauss

pub agreeing : (o : IvectorOptions) (d : Dimensions) → dims_agree o d ≡ true → Agreeing o d
unfolding dims_agree
agreeing o d e =
    let a = eqb d.lda_cols (spliced o d) in
    let h = and_holds (a || eqb d.lda_cols (spliced o d + 1)) (leb d.num_gauss d.ext_gauss) e in
    record {
      columns_are = by-test a (λ t. inl (eqb-true _ _ t)) (λ t. inr (eqb-true _ _ (rw t at h.0)));
      gauss_fit = leb-true _ _ h.1;
    }

-- the tests of `dims_agree`, as code makes them
module _ (o : IvectorOptions) (d : Dimensions) where
  abbrev columns : Bool
  columns = eqb d.lda_cols (spliced o d) || eqb d.lda_cols (spliced o d + 1)

  pub agree_few : d.ext_gauss < d.num_gauss → false ≡ dims_agree o d
  unfolding dims_agree
  agree_few h = sym (and_second columns _ (lt-leb _ _ h))

  pub agree_same : d.num_gauss ≤ d.ext_gauss → d.lda_cols ≡ spliced o d → true ≡ dims_agree o d
  unfolding dims_agree
  agree_same h e = sym (and_both columns _ (or_first _ _ (eq-eqb _ _ e)) (le-leb _ _ h))

  pub agree_more : d.num_gauss ≤ d.ext_gauss → (d.lda_cols ≡ spliced o d → ⊥) → eqb d.lda_cols (spliced o d + 1) ≡ dims_agree o d
  unfolding dims_agree
  agree_more h e = sym (rw (ne_eqb _ _ e, le-leb _ _ h) (and-true _))

-- each table has room for what it keeps
pub record TablesFitting (o : IvectorOptions) (d : Dimensions) (z : TableLengths) : Type 0 where
  pub gconsts_fit : d.num_gauss ≤ z.gconsts
  pub means_fit : d.num_gauss * d.feat_dim ≤ z.means_invvars_t
  pub vars_fit : d.num_gauss * d.feat_dim ≤ z.inv_vars_t
  pub sigma_fits : d.ext_gauss * d.feat_dim * d.ivector_dim ≤ z.sigma_inv_m
  pub u_fits : d.ext_gauss * triangle d.ivector_dim ≤ z.u
  pub lda_fits : spliced o d * d.feat_dim ≤ z.lda_t
  pub offset_fits : d.feat_dim ≤ z.lda_offset
  pub global_fits : d.base_dim + 1 ≤ z.global_mean_stats

pub tables-fitting : (o : IvectorOptions) (d : Dimensions) (z : TableLengths) → tables_fit o d z ≡ true → TablesFitting o d z
unfolding tables_fit
tables-fitting o d z e =
    let h = each_pair leb (table_lengths (table_sizes o d)) (table_lengths z) e in
    record {
      gconsts_fit = leb-true _ _ h.0;
      means_fit = leb-true _ _ h.1.0;
      vars_fit = leb-true _ _ h.1.1.0;
      sigma_fits = leb-true _ _ h.1.1.1.0;
      u_fits = leb-true _ _ h.1.1.1.1.0;
      lda_fits = leb-true _ _ h.1.1.1.1.1.0;
      offset_fits = leb-true _ _ h.1.1.1.1.1.1.0;
      global_fits = leb-true _ _ h.1.1.1.1.1.1.1.0;
    }

-- a model's record: the tests that it passes
pub record RecordSound (i : IvectorInfo) : Type 0 where
  pub options_are : options_in_range i.opts ≡ true
  pub dims_are : dims_in_range i.dims ≡ true
  pub agree : dims_agree i.opts i.dims ≡ true

pub record_sound_lem : (i : IvectorInfo) → record_sound i ≡ true → RecordSound i
unfolding record_sound
record_sound_lem i e = let h = each_of (λ t. t) _ e in record { options_are = h.0; dims_are = h.1.0; agree = h.1.1.0 }

-- and one that could come from a load
pub info_sound_lem : (i : IvectorInfo) → info_sound i ≡ true → (RecordSound i) × (tables_fit i.opts i.dims i.tables ≡ true)
unfolding info_sound
info_sound_lem i e = let h = and_holds (record_sound i) _ e in (record_sound_lem i h.0, h.1)

-- rooms that fit
pub record Fitting (d : Dimensions) (z : RoomLengths) : Type 0 where
  pub frames_fit : 1 ≤ rows_in z.rings.frames d.base_dim
  pub rows_fit : 2 ≤ rows_in z.rings.rows d.base_dim
  pub cmvn_fits : d.base_dim + 1 ≤ z.estimate.cmvn_stats
  pub linear_fits : d.ivector_dim ≤ z.estimate.linear
  pub quadratic_fits : triangle d.ivector_dim ≤ z.estimate.quadratic
  pub current_fits : d.ivector_dim ≤ z.estimate.current
  pub scratch_fits : stream_scratch d ≤ z.estimate.scratch

pub fitting : (d : Dimensions) (z : RoomLengths) → rooms_fit d z ≡ true → Fitting d z
unfolding rooms_fit
fitting d z e =
    let h = each_of (λ t. t) _ e in
    let f = each_pair leb (estimate_sizes d) (estimate_lengths z.estimate) h.1.1.0 in
    record {
      frames_fit = leb-true _ _ h.0;
      rows_fit = leb-true _ _ h.1.0;
      cmvn_fits = leb-true _ _ f.0;
      linear_fits = leb-true _ _ f.1.0;
      quadratic_fits = leb-true _ _ f.1.1.0;
      current_fits = leb-true _ _ f.1.1.1.0;
      scratch_fits = leb-true _ _ f.1.1.1.1.0;
    }
