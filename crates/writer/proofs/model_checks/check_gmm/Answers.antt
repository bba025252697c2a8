-- `check_gmm` meets its contract: the first refusal of five tests, one after the other.
use borrow.Author.Rules.{rules}
use mathlib.Core.Path.{◌≡◌, ◌∙◌}
use Rattle.definition.specs.Number.{number_of, refused_by}
use Rattle.writer.proofs.Order.{here, after}
use Rattle.writer.proofs.model_checks.check_gmm.Goals as goal

pub returns-in_err-check_size : goal.returns-in_err-check_size
returns-in_err-check_size g c =
    let told : refused_by c.from_residual.result ≡ number_of c.in_err-check_size.field-0.0 = search rules in
    told ∙ here _ _ _ c.in_err-check_size.ensures.number

pub returns-in_err-check_list : goal.returns-in_err-check_list
returns-in_err-check_list g c =
    let told : refused_by c.from_residual-in_err-check_list.result ≡ number_of c.in_err-check_list.field-0.0 = search rules in
    told ∙ after _ _ tt c.in_ok-check_size.ensures.number (here _ _ _ c.in_err-check_list.ensures)

pub returns-in_err-check_size-2 : goal.returns-in_err-check_size-2
returns-in_err-check_size-2 g c =
    let told : refused_by c.from_residual-in_err-check_size-2.result ≡ number_of c.in_err-check_size-2.field-0.0 = search rules in
    told ∙ after _ _ tt c.in_ok-check_size.ensures.number (after _ _ tt c.in_ok-check_list.ensures (here _ _ _ c.in_err-check_size-2.ensures.number))

pub returns-in_err-check_list-2 : goal.returns-in_err-check_list-2
returns-in_err-check_list-2 g c =
    let told : refused_by c.from_residual-in_err-check_list-2.result ≡ number_of c.in_err-check_list-2.field-0.0 = search rules in
    told ∙ after _ _ tt c.in_ok-check_size.ensures.number (after _ _ tt c.in_ok-check_list.ensures (after _ _ tt c.in_ok-check_size-2.ensures.number (here _ _ _ c.in_err-check_list-2.ensures)))

pub returns : goal.returns
returns g c = after _ _ tt c.in_ok-check_size.ensures.number (after _ _ tt c.in_ok-check_list.ensures (after _ _ tt c.in_ok-check_size-2.ensures.number (after _ _ tt c.in_ok-check_list-2.ensures (c.check_list-3.ensures))))
