-- What a set that is not refused meets: its sizes are in range, its lists have their lengths, and their numbers are ones to keep.
use mathlib.Core.Path.{◌≡◌, refl}
use mathlib.Core.Bool.{Bool, true, false, not, true≢false}
use mathlib.Core.List.{List, [], ◌∷◌, ◌++◌}
use Prim.Native.Nat.{ℕ, ◌-◌, ◌*◌, ◌≤◌}
use borrow.Author.Tests.{not-false, leb-true, eqb-true, ltb-false}
use lib.Dec.{ltb}
use lib.ListN.{length}
use lib.Ieee.{Float, Format, binary32, binary64}
use Rattle.loops.specs.Lists.{all_of}
use Rattle.loops.proofs.Choose.{and_holds}
use Rattle.loops.proofs.Refusal.{NoneFirst, Numbered, none_first}
use Rattle.definition.specs.declared.IvectorOptions.{IvectorOptions}
use Rattle.definition.specs.Options.{within, max_gauss, max_feat, max_ivector, max_columns, options_in_range, dims_agree}
use Rattle.floats.specs.Real.{kept_as}
use Rattle.definition.specs.Reader.{Got, refused, read, kept}
use Rattle.definition.specs.Kaldi.{triangle}
use Rattle.definition.specs.Text.{cmvn}
use Rattle.writer.specs.declared.model_bytes.ModelSizes.{ModelSizes}
use Rattle.writer.specs.Written.{Params, text_tests, dims_with, model_bytes, write_refusal}

-- a size from 1 to `most`
pub record Sized (most n : ℕ) : Type 0 where
  pub low : 1 ≤ n
  pub high : n ≤ most

-- a list that a table of width t keeps
pub record Listed (f t : Format) (positive : Bool) (n : ℕ) (xs : List Float) : Type 0 where
  pub long : length xs ≡ n
  pub good : all_of (λ x. kept positive (kept_as t f x)) xs ≡ true

sized : (most n : ℕ) → not (within 1 most n) ≡ false → Sized most n
sized most n e = let h = and_holds _ _ (not-false _ e) in record { low = leb-true _ _ h.0; high = leb-true _ _ h.1 }

-- the text's row, and the files against each other
pub record TextFits (o : IvectorOptions) (z : ModelSizes) (c : Got (List Float)) : Type 0 where
  pub row : List Float
  pub next : ℕ
  pub is : c ≡ read row next
  pub agree : dims_agree o (dims_with z (length row - 1)) ≡ true

pub record Sound (f : Format) (o : IvectorOptions) (t : List ℕ) (p : Params) (room : ℕ) : Type 0 where
  pub options : options_in_range o ≡ true
  pub gauss : Sized max_gauss p.sizes.num_gauss
  pub weights : Listed f binary32 true p.sizes.num_gauss p.weights
  pub feat : Sized max_feat p.sizes.feat_dim
  pub means : Listed f binary32 false (p.sizes.num_gauss * p.sizes.feat_dim) p.means_invvars
  pub vars : Listed f binary32 true (p.sizes.num_gauss * p.sizes.feat_dim) p.inv_vars
  pub ext : Sized max_gauss p.sizes.ext_gauss
  pub ivector : Sized max_ivector p.sizes.ivector_dim
  pub m : Listed f binary64 false (p.sizes.ext_gauss * (p.sizes.feat_dim * p.sizes.ivector_dim)) p.m
  pub sigma : Listed f binary64 false (p.sizes.ext_gauss * triangle p.sizes.feat_dim) p.sigma_inv
  pub offset : Listed f binary64 false 1 (p.prior_offset ∷ [])
  pub columns : Sized max_columns p.sizes.lda_cols
  pub lda : Listed f binary32 false (p.sizes.feat_dim * p.sizes.lda_cols) p.lda
  pub text : TextFits o p.sizes (cmvn t 0)
  pub fits_in : length (model_bytes f p) ≤ room

-- the tests after the lists
module _ (o : IvectorOptions) (z : ModelSizes) (b : Bool) where
  numbered : (c : Got (List Float)) → Numbered (text_tests o z c ++ ((b, 26) ∷ []))
  numbered (refused n) = tt
  numbered (read row next) = tt

  last_ones : (c : Got (List Float)) → NoneFirst (text_tests o z c ++ ((b, 26) ∷ [])) → TextFits o z c × (b ≡ false)
  last_ones (refused n) h = absurd (true≢false h.0)
  last_ones (read row next) h = (record { row = row; next = next; is = refl; agree = not-false _ h.0 }, h.1.0)

module _ (f : Format) (o : IvectorOptions) (t : List ℕ) (p : Params) (room : ℕ) where
  pub sound : write_refusal f o t p room ≡ 0 → Sound f o t p room
  unfolding write_refusal
  sound e =
      let h = none_first _ (numbered o p.sizes (ltb room (length (model_bytes f p))) (cmvn t 0)) e in
      let h2 = h.1.1 in
      let h4 = h2.1.1 in
      let h7 = h4.1.1.1 in
      let h9 = h7.1.1 in
      let h11 = h9.1.1 in
      let h13 = h11.1.1 in
      let h15 = h13.1.1 in
      let h17 = h15.1.1 in
      let last = last_ones o p.sizes _ (cmvn t 0) h17.1.1.1 in
      record {
        options = not-false _ h.0;
        gauss = sized _ _ h.1.0;
        weights = record { long = eqb-true _ _ (not-false _ h2.0); good = not-false _ h2.1.0 };
        feat = sized _ _ h4.0;
        means = record { long = eqb-true _ _ (not-false _ h4.1.0); good = not-false _ h4.1.1.0 };
        vars = record { long = eqb-true _ _ (not-false _ h7.0); good = not-false _ h7.1.0 };
        ext = sized _ _ h9.0;
        ivector = sized _ _ h9.1.0;
        m = record { long = eqb-true _ _ (not-false _ h11.0); good = not-false _ h11.1.0 };
        sigma = record { long = eqb-true _ _ (not-false _ h13.0); good = not-false _ h13.1.0 };
        offset = record { long = eqb-true _ _ (not-false _ h15.0); good = not-false _ h15.1.0 };
        columns = sized _ _ h17.0;
        lda = record { long = eqb-true _ _ (not-false _ h17.1.0); good = not-false _ h17.1.1.0 };
        text = last.0;
        fits_in = ltb-false _ _ last.1;
      }
