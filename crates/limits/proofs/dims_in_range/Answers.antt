-- `dims_in_range` meets its contract: where all tests but the last hold that one decides (`all-last` in Listed.antt, `inside` and `held_inside` in
-- Within.antt); they are found from the last but one on, since each is asked only where those before it hold.
use mathlib.Core.Path.{◌≡◌, refl, sym, ◌∙◌}
use mathlib.Core.Bool.{true, true≢false}
use Rattle.definition.specs.Options.{within, dims_in_range, max_gauss, max_feat, max_ivector, max_columns}
use Rattle.limits.proofs.Listed.{all-last}
use Rattle.limits.proofs.Within.{inside, held_inside}
use Rattle.limits.proofs.dims_in_range.Goals.{then-contains, else-contains, then-contains-2, else-contains-2, then-contains-3, else-contains-3, then-contains-4, else-contains-4}
use Rattle.limits.proofs.dims_in_range.Goals as goal

pub returns-then-contains-5 : goal.returns-then-contains-5
unfolding dims_in_range
returns-then-contains-5 c =
    let d = c.args.d in
    let h4 : (c.if-contains-3.value ≡ true) × (within 1 64 d.base_dim ≡ true) =
    elim c.if-contains-4.branch [
      | then-contains-4 w ↦
          let s = w.new-then-contains-4.ensures in
          (w.if-contains-4.true, held_inside 1 64 d.base_dim s.start s.end s.exhausted w.contains-then-contains-4.ensures.value w.value-is c.if-contains-5.true)
      | else-contains-4 w ↦ absurd (true≢false (sym c.if-contains-5.true ∙ w.value-is ∙ w.if-contains-4.false))
    ] in
    let h3 : (c.if-contains-2.value ≡ true) × (within 1 max_ivector d.ivector_dim ≡ true) =
    elim c.if-contains-3.branch [
      | then-contains-3 w ↦
          let s = w.new-then-contains-3.ensures in
          (w.if-contains-3.true, held_inside 1 max_ivector d.ivector_dim s.start s.end s.exhausted w.contains-then-contains-3.ensures.value w.value-is h4.0)
      | else-contains-3 w ↦ absurd (true≢false (sym h4.0 ∙ w.value-is ∙ w.if-contains-3.false))
    ] in
    let h2 : (c.if-contains.value ≡ true) × (within 1 max_feat d.feat_dim ≡ true) =
    elim c.if-contains-2.branch [
      | then-contains-2 w ↦
          let s = w.new-then-contains-2.ensures in
          (w.if-contains-2.true, held_inside 1 max_feat d.feat_dim s.start s.end s.exhausted w.contains-then-contains-2.ensures.value w.value-is h3.0)
      | else-contains-2 w ↦ absurd (true≢false (sym h3.0 ∙ w.value-is ∙ w.if-contains-2.false))
    ] in
    let h1 : (c.contains.result ≡ true) × (within 1 max_gauss d.ext_gauss ≡ true) =
    elim c.if-contains.branch [
      | then-contains w ↦
          let s = w.new-then-contains.ensures in
          (w.if-contains.true, held_inside 1 max_gauss d.ext_gauss s.start s.end s.exhausted w.contains-then-contains.ensures.value w.value-is h2.0)
      | else-contains w ↦ absurd (true≢false (sym h2.0 ∙ w.value-is ∙ w.if-contains.false))
    ] in
    let n = c.new.ensures in
    let s = c.new-then-contains-5.ensures in
    let h0 = held_inside 1 max_gauss d.num_gauss n.start n.end n.exhausted c.contains.ensures.value refl h1.0 in
    inside 1 max_columns d.lda_cols s.start s.end s.exhausted c.contains-then-contains-5.ensures.value
    ∙ all-last 5 _ refl (h0, (h1.1, (h2.1, (h3.1, (h4.1, tt)))))
