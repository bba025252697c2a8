-- `check` meets its contract: the first refusal of the options, the three files, the text and the room (laws in Order.antt).
use borrow.Author.Rules.{rules}
use mathlib.Core.Path.{◌≡◌, sym, ap, ◌∙◌}
use mathlib.Core.Bool.{Bool, not}
use mathlib.Core.List.{[], ◌∷◌}
use Prim.Native.Nat.{ℕ}
use native.Mathlib.Omega.{arith}
use lib.Dec.{leb}
use Rattle.loops.specs.Refusal.{first_of}
use Rattle.definition.specs.Number.{number_of, refused_by}
use Rattle.writer.specs.Written.{write_refusal}
use Rattle.writer.specs.Lent.{params_in}
use Rattle.writer.proofs.Lengths.{total_low, sum_is, few_bytes}
use Rattle.writer.proofs.Order.{passed, here, after, feat_high, in_range, all_tests}
use Rattle.writer.proofs.model_checks.check.Goals as goal

pub returns-in_err-need : goal.returns-in_err-need
unfolding write_refusal
returns-in_err-need g c =
    let told : refused_by c.from_residual.result ≡ number_of c.in_err-need.field-0.0 = search rules in
    told ∙ here _ _ _ (c.in_err-need.ensures ∙ ap (λ (b : Bool). first_of ((not b, 1) ∷ [])) c.options_in_range.ensures)

pub returns-in_err-check_gmm : goal.returns-in_err-check_gmm
unfolding write_refusal
returns-in_err-check_gmm g c =
    let told : refused_by c.from_residual-in_err-check_gmm.result ≡ number_of c.in_err-check_gmm.field-0.0 = search rules in
    told ∙ after _ _ tt (c.in_ok-need.ensures ∙ ap (λ (b : Bool). first_of ((not b, 1) ∷ [])) c.options_in_range.ensures) (here _ _ _ c.in_err-check_gmm.ensures)

pub returns-in_err-check_extractor : goal.returns-in_err-check_extractor
unfolding write_refusal
returns-in_err-check_extractor g c =
    let told : refused_by c.from_residual-in_err-check_extractor.result ≡ number_of c.in_err-check_extractor.field-0.0 = search rules in
    told ∙ after _ _ tt (c.in_ok-need.ensures ∙ ap (λ (b : Bool). first_of ((not b, 1) ∷ [])) c.options_in_range.ensures) (after _ _ tt c.in_ok-check_gmm.ensures (here _ _ _ c.in_err-check_extractor.ensures))

pub returns-in_err-check_lda : goal.returns-in_err-check_lda
unfolding write_refusal
returns-in_err-check_lda g c =
    let told : refused_by c.from_residual-in_err-check_lda.result ≡ number_of c.in_err-check_lda.field-0.0 = search rules in
    told ∙ after _ _ tt (c.in_ok-need.ensures ∙ ap (λ (b : Bool). first_of ((not b, 1) ∷ [])) c.options_in_range.ensures) (after _ _ tt c.in_ok-check_gmm.ensures (after _ _ tt c.in_ok-check_extractor.ensures (here _ _ _ c.in_err-check_lda.ensures)))

pub returns-in_err-check_text : goal.returns-in_err-check_text
unfolding write_refusal
returns-in_err-check_text g c =
    let told : refused_by c.from_residual-in_err-check_text.result ≡ number_of c.in_err-check_text.field-0.0 = search rules in
    told ∙ after _ _ tt (c.in_ok-need.ensures ∙ ap (λ (b : Bool). first_of ((not b, 1) ∷ [])) c.options_in_range.ensures) (after _ _ tt c.in_ok-check_gmm.ensures (after _ _ tt c.in_ok-check_extractor.ensures (after _ _ tt c.in_ok-check_lda.ensures (here _ _ _ c.in_err-check_text.ensures))))

pub check_extractor-requires : goal.check_extractor-requires
check_extractor-requires g c = feat_high g.W.Real.format (params_in g.W.Real.float c.args.p.now) c.in_ok-check_gmm.ensures

pub check_lda-requires : goal.check_lda-requires
check_lda-requires g c = feat_high g.W.Real.format (params_in g.W.Real.float c.args.p.now) c.in_ok-check_gmm.ensures

pub check_text-requires-clause-options : goal.check_text-requires-clause-options
check_text-requires-clause-options g c = sym c.options_in_range.ensures ∙ passed _ 1 tt c.in_ok-need.ensures

pub check_text-requires-clause-sizes : goal.check_text-requires-clause-sizes
check_text-requires-clause-sizes g c = in_range g.W.Real.format (params_in g.W.Real.float c.args.p.now) c.in_ok-check_gmm.ensures c.in_ok-check_extractor.ensures c.in_ok-check_lda.ensures

pub gmm_length-requires-clause-sizes : goal.gmm_length-requires-clause-sizes
gmm_length-requires-clause-sizes g c = in_range g.W.Real.format (params_in g.W.Real.float c.args.p.now) c.in_ok-check_gmm.ensures c.in_ok-check_extractor.ensures c.in_ok-check_lda.ensures

pub extractor_length-requires-clause-sizes : goal.extractor_length-requires-clause-sizes
extractor_length-requires-clause-sizes g c = in_range g.W.Real.format (params_in g.W.Real.float c.args.p.now) c.in_ok-check_gmm.ensures c.in_ok-check_extractor.ensures c.in_ok-check_lda.ensures

pub lda_length-requires-clause-sizes : goal.lda_length-requires-clause-sizes
lda_length-requires-clause-sizes g c = in_range g.W.Real.format (params_in g.W.Real.float c.args.p.now) c.in_ok-check_gmm.ensures c.in_ok-check_extractor.ensures c.in_ok-check_lda.ensures

pub overflow_add-total : goal.overflow_add-total
overflow_add-total g c =
    let sizes = in_range g.W.Real.format (params_in g.W.Real.float c.args.p.now) c.in_ok-check_gmm.ensures c.in_ok-check_extractor.ensures c.in_ok-check_lda.ensures in
    let width = few_bytes g.W.Real.format (c.BYTES-width.ensures ∙ g.met.W.Real.bytes) in
    omega (arith, total_low c.BYTES-width.result c.args.p.now.sizes width sizes, c.gmm_length.ensures, c.extractor_length.ensures)

pub overflow_add-total-2 : goal.overflow_add-total-2
overflow_add-total-2 g c =
    let sizes = in_range g.W.Real.format (params_in g.W.Real.float c.args.p.now) c.in_ok-check_gmm.ensures c.in_ok-check_extractor.ensures c.in_ok-check_lda.ensures in
    let width = few_bytes g.W.Real.format (c.BYTES-width.ensures ∙ g.met.W.Real.bytes) in
    omega (arith, total_low c.BYTES-width.result c.args.p.now.sizes width sizes, c.gmm_length.ensures, c.extractor_length.ensures, c.lda_length.ensures)

pub returns : goal.returns
returns g c =
    let a = c.args in
    let total = sum_is a.p.now.sizes c.gmm_length.ensures c.extractor_length.ensures c.lda_length.ensures (c.BYTES-width.ensures ∙ g.met.W.Real.bytes) in
    all_tests g.W.Real.format (params_in g.W.Real.float c.args.p.now) c.in_ok-check_gmm.ensures c.in_ok-check_extractor.ensures c.in_ok-check_lda.ensures a.o a.text.now a.room
    (c.in_ok-need.ensures ∙ ap (λ (b : Bool). first_of ((not b, 1) ∷ [])) c.options_in_range.ensures) c.in_ok-check_text.ensures (c.need-2.ensures ∙ ap (λ (k : ℕ). first_of ((not (leb k a.room), 26) ∷ [])) total)
