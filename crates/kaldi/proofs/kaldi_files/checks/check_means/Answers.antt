-- `check_means` meets its contract: the number of Gaussians, the first M, and the others, which are to have the first one's lengths.
-- A run by its first item and its rest is in Runs.antt, what is known of all of them is `means_known` (ExtractorRead.antt).
use Rattle.std.proofs.Common.{rules, ◌≡◌, ap, sym, refl, ◌∙◌, ◌-◌, true, false}
use lib.Ieee.{binary64}
use Rattle.definition.specs.Options.{max_feat, max_ivector}
use Rattle.definition.specs.Number.{number_of}
use Rattle.definition.specs.Reader.{refused}
use Rattle.definition.specs.Kaldi.{matrix}
use Rattle.kaldi.specs.Inner.KaldiIoGot.{parsed}
use Rattle.kaldi.proofs.Chain.{goes, stops}
use Rattle.kaldi.specs.Inner.KaldiFilesAnswers.{means, sized_as}
use Rattle.kaldi.specs.Parts.{counted_in}
use Rattle.kaldi.specs.Inner.KaldiFiles.{counted}
use Rattle.kaldi.proofs.FileRuns.{first_refused, rest_refused, tally_refused}
use Rattle.kaldi.proofs.ExtractorRead.{means_known}
use Rattle.kaldi.proofs.kaldi_files.checks.check_means.Goals as goal

pub returns-in_err-count-clause-value : goal.returns-in_err-count-clause-value
unfolding counted
returns-in_err-count-clause-value c =
    let none : parsed (counted_in c.args.r.now.src.now) c.from_residual.result c.dim.new.self.at ≡ refused (number_of c.in_err-count.field-0.0) = search rules in
    none ∙ stops _ _ (sym c.in_err-count.ensures.value) refl

pub returns-in_err-first-clause-value : goal.returns-in_err-first-clause-value
unfolding counted
returns-in_err-first-clause-value c =
    let s = c.args.r.now.src.now in
    let same = ap (λ b. b.now) c.dim.ensures.same_source in
    let none : parsed (counted_in s) c.from_residual-in_err-first.result c.matrix.new.self.at ≡ refused (number_of c.in_err-first.field-0.0) = search rules in
    let first = rw same at c.in_err-first.ensures.value in
    none ∙ goes _ _ (sym c.in_ok-count.ensures.value) (stops _ _ (first_refused (matrix binary64 false max_feat max_ivector) s c.dim.new.self.at c.in_ok-count.count c.in_ok-count.ensures.range.0 _ (sym first)) refl)

pub returns-in_err-alike-clause-value : goal.returns-in_err-alike-clause-value
unfolding counted
returns-in_err-alike-clause-value c =
    let s = c.args.r.now.src.now in
    let same = ap (λ b. b.now) c.dim.ensures.same_source in
    let then = ap (λ b. b.now) c.matrix.ensures.same_source ∙ same in
    let none : parsed (counted_in s) c.from_residual-in_err-alike.result c.check_matrices.new.r.at ≡ refused (number_of c.in_err-alike.field-0.0) = search rules in
    let first = rw same at c.in_ok-first.ensures.value in
    let others = rw then at c.in_err-alike.ensures.value in
    let m = c.in_ok-first.first in
    none ∙ goes _ _ (sym c.in_ok-count.ensures.value) (stops _ _ (rest_refused (matrix binary64 false max_feat max_ivector) s c.dim.new.self.at c.in_ok-count.count c.in_ok-count.ensures.range.0 _ _ (sym first) _
    (tally_refused (sized_as m.rows m.cols) true (means s (c.in_ok-count.count - 1) c.matrix.new.self.at) (sym others))) refl)

pub returns-clause-means_in : goal.returns-clause-means_in
returns-clause-means_in c =
    let s = c.args.r.now.src.now in
    let same = ap (λ b. b.now) c.dim.ensures.same_source in
    let then = ap (λ b. b.now) c.matrix.ensures.same_source ∙ same in
    let first = rw same at c.in_ok-first.ensures.value in
    let others = rw then at c.in_ok-alike.ensures.value in
    let count = c.in_ok-count.ensures.range in
    means_known s c.in_ok-count.count c.dim.new.self.at count.0 _ _ (sym first) (sym others) count.1 c.in_ok-first.ensures.rows c.in_ok-first.ensures.cols

pub returns-clause-value : goal.returns-clause-value
unfolding counted
returns-clause-value c =
    let s = c.args.r.now.src.now in
    let same = ap (λ b. b.now) c.dim.ensures.same_source in
    let then = ap (λ b. b.now) c.matrix.ensures.same_source ∙ same in
    let first = rw same at c.in_ok-first.ensures.value in
    let others = rw then at c.in_ok-alike.ensures.value in
    let count = c.in_ok-count.ensures.range in
    let all = means_known s c.in_ok-count.count c.dim.new.self.at count.0 _ _ (sym first) (sym others) count.1 c.in_ok-first.ensures.rows c.in_ok-first.ensures.cols in
    goes _ _ (sym c.in_ok-count.ensures.value) (goes _ _ all.stands refl)
