-- `read_offset` meets its contract: a token, a number and a token (`goes` and `stops` in Chain.antt of kaldi_io).
use Rattle.std.proofs.Common.{rules, ◌≡◌, ap, sym, refl, ◌∙◌}
use Rattle.definition.specs.Number.{number_of}
use Rattle.definition.specs.Reader.{refused}
use Rattle.kaldi.specs.Inner.KaldiIoGot.{parsed, as_read}
use Rattle.kaldi.proofs.Chain.{goes, stops}
use Rattle.kaldi.specs.Inner.KaldiFiles.{closing}
use Rattle.kaldi.proofs.kaldi_files.checks.read_offset.Goals as goal

pub returns-in_err-token-2-clause-value : goal.returns-in_err-token-2-clause-value
unfolding closing
returns-in_err-token-2-clause-value c =
    let s1 = ap (λ b. b.now) c.token.ensures.same_source in
    let s2 = ap (λ b. b.now) c.number.ensures.same_source ∙ s1 in
    let none : parsed as_read c.from_residual-in_err-token-2.result c.token-2.new.self.at ≡ refused (number_of c.in_err-token-2.field-0.0) = search rules in
    none ∙ goes _ _ (sym c.in_ok-token.ensures.value) (goes _ _ (sym (rw s1 at c.in_ok-offset.ensures.value)) (stops _ _ (sym (rw s2 at c.in_err-token-2.ensures.value)) refl))

pub returns-clause-value : goal.returns-clause-value
unfolding closing
returns-clause-value c =
    let s1 = ap (λ b. b.now) c.token.ensures.same_source in
    let s2 = ap (λ b. b.now) c.number.ensures.same_source ∙ s1 in
    goes _ _ (sym c.in_ok-token.ensures.value) (goes _ _ (sym (rw s1 at c.in_ok-offset.ensures.value)) (goes _ _ (sym (rw s2 at c.in_ok-token-2.ensures.value)) refl))
