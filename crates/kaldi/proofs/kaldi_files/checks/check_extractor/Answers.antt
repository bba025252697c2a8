-- `check_extractor` meets its contract: each item says what the bytes hold at its place, and each way out is a case of the definition's
-- `extractor` by what the items before it said (ExtractorRead.antt, which has the test of all lengths too).
use Rattle.std.proofs.Common.{rules, ◌≡◌, ap, sym, refl, ◌∙◌, true}
use Rattle.definition.specs.Number.{number_of}
use Rattle.definition.specs.Reader.{read, refused}
use Rattle.kaldi.specs.Inner.KaldiIoGot.{parsed}
use Rattle.kaldi.specs.Inner.KaldiFilesAnswers.{inverses, square_as}
use Rattle.kaldi.specs.Parts.{counted_in, extractor_in}
use Rattle.kaldi.specs.Inner.KaldiFiles.{counted}
use Rattle.kaldi.proofs.FileRuns.{tally_refused, tally_stands}
use Rattle.kaldi.proofs.ExtractorRead as E
use Rattle.kaldi.proofs.kaldi_files.checks.check_extractor.Goals as goal

pub returns-in_err-extractor_heading-clause-value : goal.returns-in_err-extractor_heading-clause-value
returns-in_err-extractor_heading-clause-value c =
    let s = c.args.r.now.src.now in
    let none : parsed extractor_in c.from_residual.result c.extractor_heading.new.r.at ≡ refused (number_of c.in_err-extractor_heading.field-0.0) = search rules in
    none ∙ E.no_heading s c.args.r.now.at (sym c.in_err-extractor_heading.ensures.value)

pub returns-in_err-means-clause-value : goal.returns-in_err-means-clause-value
returns-in_err-means-clause-value c =
    let s = c.args.r.now.src.now in
    let s1 = ap (λ b. b.now) c.extractor_heading.ensures.same_source in
    let heading = sym c.in_ok-extractor_heading.ensures.value in
    let none : parsed extractor_in c.from_residual-in_err-means.result c.check_means.new.r.at ≡ refused (number_of c.in_err-means.field-0.0) = search rules in
    none ∙ E.no_means s c.args.r.now.at heading (sym (rw s1 at c.in_err-means.ensures.value))

pub returns-in_err-token-clause-value : goal.returns-in_err-token-clause-value
returns-in_err-token-clause-value c =
    let s = c.args.r.now.src.now in
    let s1 = ap (λ b. b.now) c.extractor_heading.ensures.same_source in
    let s2 = ap (λ b. b.now) c.check_means.ensures.same_source ∙ s1 in
    let heading = sym c.in_ok-extractor_heading.ensures.value in
    let ms : counted s c.extractor_heading.new.r.at ≡ read (counted_in s c.in_ok-means.means) c.check_means.new.r.at = sym (rw s1 at c.in_ok-means.ensures.value) in
    let none : parsed extractor_in c.from_residual-in_err-token.result c.token.new.self.at ≡ refused (number_of c.in_err-token.field-0.0) = search rules in
    none ∙ E.no_token s c.args.r.now.at heading ms (sym (rw s2 at c.in_err-token.ensures.value))

pub returns-in_err-square-clause-value : goal.returns-in_err-square-clause-value
returns-in_err-square-clause-value c =
    let s = c.args.r.now.src.now in
    let s1 = ap (λ b. b.now) c.extractor_heading.ensures.same_source in
    let s2 = ap (λ b. b.now) c.check_means.ensures.same_source ∙ s1 in
    let s3 = ap (λ b. b.now) c.token.ensures.same_source ∙ s2 in
    let heading = sym c.in_ok-extractor_heading.ensures.value in
    let ms : counted s c.extractor_heading.new.r.at ≡ read (counted_in s c.in_ok-means.means) c.check_means.new.r.at = sym (rw s1 at c.in_ok-means.ensures.value) in
    let behind = sym (rw s2 at c.in_ok-token.ensures.value) in
    let none : parsed extractor_in c.from_residual-in_err-square.result c.check_packeds.new.r.at ≡ refused (number_of c.in_err-square.field-0.0) = search rules in
    none ∙ E.no_inverses s c.args.r.now.at heading ms behind (tally_refused (square_as c.in_ok-means.means.rows) true _ (sym (rw s3 at c.in_err-square.ensures.value)))

pub returns-in_err-prior_offset-clause-value : goal.returns-in_err-prior_offset-clause-value
returns-in_err-prior_offset-clause-value c =
    let s = c.args.r.now.src.now in
    let s1 = ap (λ b. b.now) c.extractor_heading.ensures.same_source in
    let s2 = ap (λ b. b.now) c.check_means.ensures.same_source ∙ s1 in
    let s3 = ap (λ b. b.now) c.token.ensures.same_source ∙ s2 in
    let s4 = ap (λ b. b.now) c.check_packeds.ensures.same_source ∙ s3 in
    let heading = sym c.in_ok-extractor_heading.ensures.value in
    let ms : counted s c.extractor_heading.new.r.at ≡ read (counted_in s c.in_ok-means.means) c.check_means.new.r.at = sym (rw s1 at c.in_ok-means.ensures.value) in
    let behind = sym (rw s2 at c.in_ok-token.ensures.value) in
    let squares = sym (rw s3 at c.in_ok-square.ensures.value) in
    let vs = tally_stands (square_as c.in_ok-means.means.rows) true (inverses s c.in_ok-means.means.count c.token.new.self.at) squares in
    let none : parsed extractor_in c.from_residual-in_err-prior_offset.result c.read_offset.new.r.at ≡ refused (number_of c.in_err-prior_offset.field-0.0) = search rules in
    none ∙ E.no_closing s c.args.r.now.at heading ms behind vs (sym (rw s4 at c.in_err-prior_offset.ensures.value))

pub returns-in_err-need_alike-clause-value : goal.returns-in_err-need_alike-clause-value
returns-in_err-need_alike-clause-value c =
    let s = c.args.r.now.src.now in
    let s1 = ap (λ b. b.now) c.extractor_heading.ensures.same_source in
    let s2 = ap (λ b. b.now) c.check_means.ensures.same_source ∙ s1 in
    let s3 = ap (λ b. b.now) c.token.ensures.same_source ∙ s2 in
    let s4 = ap (λ b. b.now) c.check_packeds.ensures.same_source ∙ s3 in
    let heading = sym c.in_ok-extractor_heading.ensures.value in
    let ms : counted s c.extractor_heading.new.r.at ≡ read (counted_in s c.in_ok-means.means) c.check_means.new.r.at = sym (rw s1 at c.in_ok-means.ensures.value) in
    let behind = sym (rw s2 at c.in_ok-token.ensures.value) in
    let squares = sym (rw s3 at c.in_ok-square.ensures.value) in
    let vs = tally_stands (square_as c.in_ok-means.means.rows) true (inverses s c.in_ok-means.means.count c.token.new.self.at) squares in
    let offset = sym (rw s4 at c.in_ok-prior_offset.ensures.value) in
    let known = rw s1 at c.in_ok-means.ensures.means_in in
    let none : parsed extractor_in c.from_residual-in_err-need_alike.result c.read_offset.new.r.at ≡ refused (number_of c.in_err-need_alike.field-0.0) = search rules in
    let test = E.need_unmet _ 5 _ s c.read_offset.new.r.at (c.in_err-need_alike.ensures s c.read_offset.new.r.at) in
    none ∙ ap (λ n. refused n) test.1 ∙ E.not_alike s c.args.r.now.at heading ms behind vs offset (E.alike_is_both s known c.token.new.self.at squares refl ∙ test.0)

pub returns-clause-value : goal.returns-clause-value
returns-clause-value c =
    let s = c.args.r.now.src.now in
    let s1 = ap (λ b. b.now) c.extractor_heading.ensures.same_source in
    let s2 = ap (λ b. b.now) c.check_means.ensures.same_source ∙ s1 in
    let s3 = ap (λ b. b.now) c.token.ensures.same_source ∙ s2 in
    let s4 = ap (λ b. b.now) c.check_packeds.ensures.same_source ∙ s3 in
    let heading = sym c.in_ok-extractor_heading.ensures.value in
    let ms : counted s c.extractor_heading.new.r.at ≡ read (counted_in s c.in_ok-means.means) c.check_means.new.r.at = sym (rw s1 at c.in_ok-means.ensures.value) in
    let behind = sym (rw s2 at c.in_ok-token.ensures.value) in
    let squares = sym (rw s3 at c.in_ok-square.ensures.value) in
    let vs = tally_stands (square_as c.in_ok-means.means.rows) true (inverses s c.in_ok-means.means.count c.token.new.self.at) squares in
    let offset = sym (rw s4 at c.in_ok-prior_offset.ensures.value) in
    let known = rw s1 at c.in_ok-means.ensures.means_in in
    let test = E.need_met _ 5 s c.read_offset.new.r.at (c.in_ok-need_alike.ensures s c.read_offset.new.r.at) in
    let m_source = ap (λ b. b.now) c.in_ok-means.ensures.from ∙ s1 in
    E.same_sources s _ _ _ _ _ _ _ _ _ m_source s3
    ∙ E.all_alike s c.args.r.now.at heading ms behind vs offset (E.alike_is_both s known c.token.new.self.at squares refl ∙ test) (E.extractor_is s known c.token.new.self.at squares refl c.in_ok-prior_offset.prior_offset c.read_offset.new.r.at)

pub returns-clause-stands : goal.returns-clause-stands
returns-clause-stands c =
    let s = c.args.r.now.src.now in
    let s1 = ap (λ b. b.now) c.extractor_heading.ensures.same_source in
    let s2 = ap (λ b. b.now) c.check_means.ensures.same_source ∙ s1 in
    let s3 = ap (λ b. b.now) c.token.ensures.same_source ∙ s2 in
    let known = rw s1 at c.in_ok-means.ensures.means_in in
    let squares = sym (rw s3 at c.in_ok-square.ensures.value) in
    let vs = tally_stands (square_as c.in_ok-means.means.rows) true (inverses s c.in_ok-means.means.count c.token.new.self.at) squares in
    let test = E.need_met _ 5 s c.read_offset.new.r.at (c.in_ok-need_alike.ensures s c.read_offset.new.r.at) in
    E.extractor_known s known c.token.new.self.at squares refl test
