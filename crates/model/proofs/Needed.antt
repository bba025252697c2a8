-- The ways out of `model_dimensions`.
use mathlib.Core.Path.{◌≡◌, refl, sym, ap, ◌∙◌, subst}
use mathlib.Core.Bool.{true, ◌&&◌}
use Prim.Native.Nat.{ℕ, ◌+◌, ◌*◌, ◌≤◌}
use native.Mathlib.Omega.{arith}
use lib.Dec.{leb}
use borrow.Author.Tests.{le-leb}
use Rattle.loops.proofs.Choose.{and_both}
use Rattle.definition.specs.declared.IvectorOptions.{IvectorOptions}
use Rattle.definition.specs.declared.Dimensions.{Dimensions}
use Rattle.definition.specs.declared.TableLengths.{TableLengths}
use Rattle.definition.specs.Options.{options_in_range, dims_in_range, spliced}
use Rattle.definition.specs.Reader.{Got, read, refused}
use Rattle.definition.specs.Kaldi.{triangle}
use Rattle.definition.specs.Model.{Model, Files, lengths_from, tables_fit, load_scratch, load}
use Rattle.definition.proofs.Ranges.{DimRanges, DimProducts, SplicedRanges, dim-ranges, dim_products, spliced-ranges}
use Rattle.kaldi.proofs.Chain.{not-read, same-value, same_refusal}
use Rattle.model.specs.Memory.{dimensions_of, dimensions_answer, no_dimensions}
use Rattle.model.proofs.Sized.{Follows, follows}
use Rattle.model.proofs.Exact.{dims_sound}

-- ---- a model's dimensions, judged with the longest lengths that there are

abbrev pub most : ℕ
most = 18446744073709551615

abbrev pub all_most : TableLengths
all_most = lengths_from most most most most most most most most

-- they are enough for every model
module _ (o : IvectorOptions) (d : Dimensions) (a : options_in_range o ≡ true) (b : dims_in_range d ≡ true) where
  enough : (tables_fit o d all_most && leb (load_scratch d) most) ≡ true
  unfolding tables_fit
  enough =
      let k : DimRanges d × DimProducts d × SplicedRanges o d = (dim-ranges d b, dim_products d b, spliced-ranges o d a b) in
      let g = d.num_gauss in
      let e = d.ext_gauss in
      let x = d.feat_dim in
      let s = d.ivector_dim in
      let le : (n : ℕ) → n ≤ most → leb n most ≡ true = λ n h. le-leb n most h in
      and_both _ _
      (and_both _ _ (le g (omega (arith, k))) (and_both _ _ (le (g * x) (omega (arith, k))) (and_both _ _ (le (g * x) (omega (arith, k))) (and_both _ _ (le (e * x * s) (omega (arith, k)))
      (and_both _ _ (le (e * triangle s) (omega (arith, k))) (and_both _ _ (le (spliced o d * x) (omega (arith, k))) (and_both _ _ (le x (omega (arith, k))) (and_both _ _ (le (d.base_dim + 1) (omega (arith, k))) refl))))))))
      (le (load_scratch d) (omega (arith, k)))

module _ (o : IvectorOptions) (f : Files) where
  -- what the judgement says, in one statement over the dimensions' call
  pub dims_refused : {e : ℕ} → refused e ≡ load o f all_most most → record { refusal = e; dims = no_dimensions } ≡ dimensions_answer (dimensions_of o f)
  unfolding dimensions_answer
  dims_refused {e} h = go (dimensions_of o f) refl
    where
      go : (x : Got Dimensions) → dimensions_of o f ≡ x → record { refusal = e; dims = no_dimensions } ≡ dimensions_answer x
      go (refused r) q = ap (λ (n : ℕ). record { refusal = n; dims = no_dimensions }) (same_refusal (h ∙ subst (λ (x : Got Dimensions). Follows o all_most most x (load o f all_most most)) q (follows o all_most most f)))
      go (read d i) q =
          let sound = dims_sound o f q in
          let found = (subst (λ (x : Got Dimensions). Follows o all_most most x (load o f all_most most)) q (follows o all_most most f)).0 (enough o d sound.0 sound.1) in
          absurd (not-read (h ∙ found.is))

  pub dims_read : {M : Model} {p : ℕ} {d : Dimensions} → read M p ≡ load o f all_most most → M.info.dims ≡ d → record { refusal = 0; dims = d } ≡ dimensions_answer (dimensions_of o f)
  unfolding dimensions_answer
  dims_read {M} {p} {d} h same = go (dimensions_of o f) refl
    where
      go : (x : Got Dimensions) → dimensions_of o f ≡ x → record { refusal = 0; dims = d } ≡ dimensions_answer x
      go (refused r) q = absurd (not-read (sym (h ∙ subst (λ (x : Got Dimensions). Follows o all_most most x (load o f all_most most)) q (follows o all_most most f))))
      go (read c i) q =
          let sound = dims_sound o f q in
          let found = (subst (λ (x : Got Dimensions). Follows o all_most most x (load o f all_most most)) q (follows o all_most most f)).0 (enough o c sound.0 sound.1) in
          ap (λ (x : Dimensions). record { refusal = 0; dims = x }) (sym same ∙ ap (λ (m : Model). m.info.dims) (same-value (h ∙ found.is)) ∙ found.dims_are)
