-- What parameters that have files meet, one fact for each list: as long as the sizes say, and of the width.
use mathlib.Core.Path.{◌≡◌}
use mathlib.Core.Bool.{Bool, true, false}
use Prim.Native.Nat.{◌*◌, ◌<◌, ◌^◌}
use borrow.Author.Tests.{eqb-true, ltb-true}
use lib.Ieee.{Format, binary32, binary64, fits}
use Rattle.loops.specs.Lists.{all_of}
use Rattle.loops.proofs.Tests.{each_of}
use Rattle.definition.specs.Kaldi.{triangle}
use Rattle.writer.specs.Written.{Params}
use Rattle.writer.specs.Theorems.{in_four_bytes, of_sizes, of_width, Shaped}
use Rattle.writer.proofs.Reading.{Wide}

pub record Fitting (f : Format) (p : Params) : Type 0 where
  pub gauss : p.sizes.num_gauss < 2 ^ 32
  pub ext : p.sizes.ext_gauss < 2 ^ 32
  pub feat : p.sizes.feat_dim < 2 ^ 32
  pub ivector : p.sizes.ivector_dim < 2 ^ 32
  pub columns : p.sizes.lda_cols < 2 ^ 32
  pub weights : Wide binary32 f true p.sizes.num_gauss p.weights
  pub means : Wide binary32 f false (p.sizes.num_gauss * p.sizes.feat_dim) p.means_invvars
  pub vars : Wide binary32 f true (p.sizes.num_gauss * p.sizes.feat_dim) p.inv_vars
  pub m : Wide binary64 f false (p.sizes.ext_gauss * (p.sizes.feat_dim * p.sizes.ivector_dim)) p.m
  pub sigma : Wide binary64 f false (p.sizes.ext_gauss * triangle p.sizes.feat_dim) p.sigma_inv
  pub offset : fits f p.prior_offset ≡ true
  pub lda : Wide binary32 f false (p.sizes.feat_dim * p.sizes.lda_cols) p.lda

pub fitting : (f : Format) (p : Params) → Shaped f p → Fitting f p
unfolding all_of
fitting f p h =
    let a = each_of (λ (b : Bool). b) (in_four_bytes p.sizes) h.in_four_bytes_is in
    let b = each_of (λ (b : Bool). b) (of_sizes p) h.of_sizes_is in
    let c = each_of (λ (b : Bool). b) (of_width f p) h.of_width_is in
    record {
      gauss = ltb-true _ _ a.0;
      ext = ltb-true _ _ a.1.0;
      feat = ltb-true _ _ a.1.1.0;
      ivector = ltb-true _ _ a.1.1.1.0;
      columns = ltb-true _ _ a.1.1.1.1.0;
      weights = record { long = eqb-true _ _ b.0; fit = c.0 };
      means = record { long = eqb-true _ _ b.1.0; fit = c.1.0 };
      vars = record { long = eqb-true _ _ b.1.1.0; fit = c.1.1.0 };
      m = record { long = eqb-true _ _ b.1.1.1.0; fit = c.1.1.1.0 };
      sigma = record { long = eqb-true _ _ b.1.1.1.1.0; fit = c.1.1.1.1.0 };
      offset = c.1.1.1.1.1.0;
      lda = record { long = eqb-true _ _ b.1.1.1.1.1.0; fit = c.1.1.1.1.1.1.0 };
    }
