-- `check_text` meets its contract: a text that is refused, and one whose base dimension is judged with the other sizes.
use borrow.Author.Rules.{rules}
use mathlib.Core.Path.{◌≡◌, ap, ◌∙◌}
use mathlib.Core.Bool.{Bool, not}
use mathlib.Core.List.{[], ◌∷◌}
use Rattle.loops.specs.Refusal.{first_of}
use Rattle.definition.specs.Number.{number_of, refused_by}
use Rattle.definition.specs.Text.{cmvn}
use Rattle.writer.proofs.Order.{text_refused, text_agrees, dims_in}
use Rattle.writer.proofs.model_checks.check_text.Goals as goal

pub returns-in_err-base_dim : goal.returns-in_err-base_dim
returns-in_err-base_dim c =
    let told : refused_by c.from_residual.result ≡ number_of c.in_err-base_dim.field-0.0 = search rules in
    told ∙ text_refused c.args.o c.args.z (cmvn c.args.text.now 0) _ c.in_err-base_dim.ensures

pub dims_agree-requires : goal.dims_agree-requires
dims_agree-requires c = (c.requires.options, dims_in c.args.o c.args.z (cmvn c.args.text.now 0) _ c.in_ok-base_dim.ensures c.requires.sizes)

pub returns : goal.returns
returns c =
    text_agrees c.args.o c.args.z (cmvn c.args.text.now 0) _ c.in_ok-base_dim.ensures (c.need.ensures ∙ ap (λ (b : Bool). first_of ((not b, 5) ∷ [])) c.dims_agree.ensures)
