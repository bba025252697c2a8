-- `check_lda` meets its contract: the first refusal of two tests, one after the other.
use borrow.Author.Rules.{rules}
use mathlib.Core.Path.{◌≡◌, ◌∙◌}
use Rattle.definition.specs.Number.{number_of, refused_by}
use Rattle.writer.proofs.Order.{here, after}
use Rattle.writer.proofs.model_checks.check_lda.Goals as goal

pub returns-in_err-check_size : goal.returns-in_err-check_size
returns-in_err-check_size g c =
    let told : refused_by c.from_residual.result ≡ number_of c.in_err-check_size.field-0.0 = search rules in
    told ∙ here _ _ _ c.in_err-check_size.ensures.number

pub returns : goal.returns
returns g c = after _ _ tt c.in_ok-check_size.ensures.number (c.check_list.ensures)
