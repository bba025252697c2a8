-- The number in front, and what stands behind it; no search is asked.
use Rattle.std.proofs.Common.{drop, ap, ◌∙◌}
use Rattle.script.specs.declared.Scan.{Scan}
use Rattle.script.proofs.words.Words.number.Goals as goal

pub returns-clause-value : goal.returns-clause-value
returns-clause-value c = ap (λ (n : Scan). n.value) c.number-n.ensures

pub returns-clause-behind : goal.returns-clause-behind
returns-clause-behind c = c.after-self.ensures ∙ ap (λ (n : Scan). drop n.next c.args.self.now.rest.now) c.number-n.ensures
