-- `batch_sums::open_slot` meets its contract: two places are set, and d zeros stand from k * d on (`row_cleared` in Rows.antt).
use Rattle.std.proofs.Common.{ℕ, ◌*◌, replicate, refl, ap, ◌∙◌}
use Rattle.loops.proofs.Parts.{length_lent}
use Rattle.floats.specs.Operators.{zero₆₄}
use Rattle.gmm.proofs.Rows.{row_cleared}
use Rattle.gmm.proofs.batch_sums.open_slot.Goals as goal

pub returns-clause-sum : goal.returns-clause-sum
returns-clause-sum c =
    let d = c.args.d in
    let s = c.args.sums.now in
    let long = length_lent (s.count * d) d _ s.sum.now refl c.requires.2 in
    row_cleared d (s.count * d) s.sum.now c.requires.2 (c.fill.ensures.after (λ y e. e) ∙ ap (λ (n : ℕ). replicate n zero₆₄) long)
