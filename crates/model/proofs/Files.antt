-- What the checks of the four files say of the dimensions.
use mathlib.Core.Path.{◌≡◌, refl, ap, ◌∙◌}
use mathlib.Core.Bool.{true, ◌&&◌}
use mathlib.Core.List.{List}
use Prim.Native.Nat.{ℕ, ◌-◌}
use native.Mathlib.Omega.{arith}
use lib.ListN.{length}
use lib.Dec.{leb}
use Rattle.loops.proofs.Tests.{of_each}
use Rattle.definition.specs.declared.IvectorOptions.{IvectorOptions}
use Rattle.definition.specs.declared.Dimensions.{Dimensions}
use Rattle.definition.specs.declared.TableLengths.{TableLengths}
use Rattle.definition.specs.Options.{dims_in_range}
use Rattle.definition.specs.Text.{line}
use Rattle.definition.specs.Model.{dims_of, contents_agree, tables_fit, load_scratch}
use Rattle.kaldi.proofs.Bytes.{in_range}
use Rattle.kaldi.specs.Inner.KaldiTextAnswers.{cells}
use Rattle.model.specs.declared.ivector_info.Contents.{Contents}
use Rattle.model.specs.Inner.IvectorInfo.{contents_in, ContentsIn, dims_in, agreeing}

module _ {text : List ℕ} {c : Contents} (x : ContentsIn text c) where
  pub dims_are : dims_in c ≡ dims_of (contents_in text c)
  dims_are =
      let e : c.row.len - 1 ≡ length (cells (line text c.row.from)) - 1 = omega (arith, x.row_in.many) in
      ap
      (λ (b : ℕ).
      record {
        num_gauss = c.gmm.inv_vars.rows;
        ext_gauss = c.extractor.num_gauss;
        feat_dim = c.extractor.feat_dim;
        ivector_dim = c.extractor.ivector_dim;
        base_dim = b;
        lda_cols = c.lda.cols;
      })
      e

  pub dims_range : dims_in_range (dims_in c) ≡ true
  unfolding dims_in_range
  dims_range =
      let g = c.gmm in
      let e = x.extractor_stands in
      let row = x.row_in in
      of_each (λ t. t) _ (
        in_range 1 1024 g.inv_vars.rows (omega (arith, g.gauss_low, g.rows_agree)) (omega (arith, g.gauss_high, g.rows_agree)),
        (
          in_range 1 1024 _ e.gauss_low e.gauss_high,
          (
            in_range 1 64 _ e.feat_low e.feat_high,
            (
              in_range 1 128 _ e.ivec_low e.ivec_high,
              (in_range 1 64 (c.row.len - 1) (omega (arith, row.low)) (omega (arith, row.high)), (in_range 1 1089 _ x.lda_low x.lda_high, tt)),
            ),
          ),
        ),
      )

  module _ {d : Dimensions} (e : d ≡ dims_in c) where
    pub agree_same : (o : IvectorOptions) → agreeing o d c ≡ contents_agree o (contents_in text c)
    unfolding contents_agree
    agree_same o = rw (e, dims_are) refl

    pub room_same : (o : IvectorOptions) (z : TableLengths) (n : ℕ)
        → (tables_fit o d z && leb (load_scratch d) n) ≡ (tables_fit o (dims_of (contents_in text c)) z && leb (load_scratch (dims_of (contents_in text c))) n)
    room_same o z n = rw (e, dims_are) refl

    pub range_is : dims_in_range d ≡ true
    range_is = ap dims_in_range e ∙ dims_range
