-- `shofrakin_write_f32` meets its contract: what `write` answers at f32, as a record; each number stands for itself in the parameters (`as_they_are`).
use borrow.Author.Rules.{rules}
use mathlib.Core.Path.{◌≡◌, ap, ◌∙◌}
use lib.ListN.{length}
use lib.Ieee.{binary32}
use Rattle.writer.specs.Written.{Params, written, written_out, written_answer}
use Rattle.writer.specs.Lent.{written_of}
use Rattle.exports.proofs.Params.{as_they_are}
use Rattle.exports.proofs.model_calls.shofrakin_write_f32.Goals as goal

pub returns : goal.returns
returns c =
    let a = c.args in
    let same = as_they_are a.sizes a.weights.now a.means_invvars.now a.inv_vars.now a.m.now a.sigma_inv.now a.prior_offset a.lda.now in
    let told : c.from.result ≡ written_answer (written_of c.write.result) = search rules in (
      told ∙ ap written_answer (c.write.ensures.answer ∙ ap (λ (p : Params). written binary32 a.opts a.cmvn.now p (length a.out.now)) same),
      c.write.ensures.bytes ∙ ap (λ (p : Params). written_out binary32 a.opts a.cmvn.now p a.out.now) same,
    )
