-- The number in front, with its sign, and what stands behind it; no search is asked.
use Rattle.std.proofs.Common.{drop, ap, ◌∙◌}
use Rattle.script.specs.declared.Signed.{Signed}
use Rattle.script.proofs.words.Words.signed.Goals as goal

pub returns-clause-value : goal.returns-clause-value
returns-clause-value c = c.signed_number-by.ensures

pub returns-clause-behind : goal.returns-clause-behind
returns-clause-behind c = c.after-self.ensures ∙ ap (λ (n : Signed). drop n.next c.args.self.now.rest.now) c.signed_number-by.ensures
