-- `extractor_heading` meets its contract: past the mark and the token it is `empty_w`.
use Rattle.std.proofs.Common.{ap, sym, ◌∙◌}
use Rattle.definition.specs.Kaldi.{extractor_heading}
use Rattle.kaldi.proofs.Chain.{goes}
use Rattle.kaldi.proofs.kaldi_files.checks.extractor_heading.Goals as goal

pub returns-clause-value : goal.returns-clause-value
unfolding extractor_heading
returns-clause-value c =
    let first = ap (λ b. b.now) c.binary.ensures.same_source in
    let second = ap (λ b. b.now) c.token.ensures.same_source ∙ first in
    goes _ _ (sym c.in_ok-binary.ensures.value) (goes _ _ (sym (rw first at c.in_ok-token.ensures.value)) (rw second at c.empty_w.ensures.value))
