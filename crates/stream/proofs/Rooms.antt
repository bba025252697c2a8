-- Lent tables and rooms that pass the tests of a record: what those say of numbers, that the parts that are kept are what the batch asks, and
-- the rooms when these parts come back.
use mathlib.Core.Path.{◌≡◌}
use mathlib.Core.Bool.{true}
use mathlib.Core.List.{List}
use Prim.Native.Nat.{◌+◌, ◌*◌}
use native.Mathlib.Omega.{arith}
use lib.Seq.{length-take-le}
use lib.Ieee.{Float}
use Rattle.loops.specs.Lists.{over}
use Rattle.definition.specs.declared.IvectorInfo.{IvectorInfo}
use Rattle.definition.specs.Options.{spliced}
use Rattle.definition.specs.Model.{Tables, table_sizes, table_lengths_of, tables_fit, kept_tables}
use Rattle.definition.specs.Estimate.{Estimate}
use Rattle.definition.specs.Stream.{record_sound}
use Rattle.definition.proofs.Ranges.{OptionRanges, option_ranges, DimRanges, dim-ranges, DimProducts, dim_products, SplicedRanges, spliced-ranges, Agreeing, agreeing, TablesFitting, tables-fitting, record_sound_lem}
use Rattle.program.specs.Rooms.{EstimateRooms, estimate_from}
use Rattle.program.specs.Calls.{over_estimate}
use Rattle.stream.specs.Inner.IvectorBatch.{Ready}

-- ---- what the tests say

pub record Sized (i : IvectorInfo) (t : Tables) : Type 0 where
  pub options_are : OptionRanges i.opts
  pub dims_are : DimRanges i.dims
  pub products_are : DimProducts i.dims
  pub spliced_is : SplicedRanges i.opts i.dims
  pub agree : Agreeing i.opts i.dims
  pub tables_fit_is : TablesFitting i.opts i.dims (table_lengths_of t)

pub sized : (i : IvectorInfo) (t : Tables) → record_sound i ≡ true → tables_fit i.opts i.dims (table_lengths_of t) ≡ true → Sized i t
sized i t r f =
    let s = record_sound_lem i r in
    record {
      options_are = option_ranges i.opts s.options_are;
      dims_are = dim-ranges i.dims s.dims_are;
      products_are = dim_products i.dims s.dims_are;
      spliced_is = spliced-ranges i.opts i.dims s.options_are s.dims_are;
      agree = agreeing i.opts i.dims s.agree;
      tables_fit_is = tables-fitting i.opts i.dims (table_lengths_of t) f;
    }

-- ---- the parts that are lent on

module _ {i : IvectorInfo} {t : Tables} (r : Sized i t) where
  open i use {opts as o, dims as d}
  open t use {gconsts, means_invvars_t, inv_vars_t, sigma_inv_m, u, lda_t, lda_offset, global_mean_stats}

  pub ready : Ready i (kept_tables (table_sizes o d) t)
  ready =
      let f = r.tables_fit_is in
      record {
        left_in = r.options_are.left_is;
        right_in = r.options_are.right_is;
        select_in = r.options_are.gselect_is;
        base_in = r.dims_are.base_is;
        feat_in = r.dims_are.feat_is;
        gauss_in = r.dims_are.gauss_is;
        gconsts_fit = omega (arith, length-take-le d.num_gauss gconsts f.gconsts_fit);
        means_fit = omega (arith, length-take-le (d.num_gauss * d.feat_dim) means_invvars_t f.means_fit);
        invs_fit = omega (arith, length-take-le (d.num_gauss * d.feat_dim) inv_vars_t f.vars_fit);
        lda_fits = omega (arith, length-take-le (spliced o d * d.feat_dim) lda_t f.lda_fits);
        offset_fits = omega (arith, length-take-le d.feat_dim lda_offset f.offset_fits);
        some_base = r.dims_are.some_base;
        global_fits = omega (arith, length-take-le (d.base_dim + 1) global_mean_stats f.global_fits);
      }

-- ---- the rooms afterwards

pub rooms-over : {cmvn linear quadratic current : List Float} (e : Estimate) (z : EstimateRooms)
    → cmvn ≡ over e.cmvn z.cmvn → linear ≡ over e.stats.linear z.linear → quadratic ≡ over e.stats.quadratic z.quadratic
    → current ≡ over e.current z.current → estimate_from cmvn linear quadratic current ≡ over_estimate e z
rooms-over e z c l q v = rw (c, l, q, v)
