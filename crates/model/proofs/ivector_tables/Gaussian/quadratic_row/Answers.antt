-- `quadratic_row` meets its contract: the sums of weighted rows are those of the definition with the factors exchanged (`factor-first` in Rows.antt).
use Rattle.std.proofs.Common.{◌+◌, ◌*◌, ℕ, ap, ◌∙◌}
use Rattle.loops.specs.Lists.{build}
use Rattle.floats.specs.Operators.{at}
use Rattle.model.proofs.Rows.{factor-first, rows-of}
use Rattle.model.proofs.ivector_tables.Gaussian.quadratic_row.Goals as goal

pub returns : goal.returns
returns c =
    let self = c.args.self.now in
    let p = c.requires in
    factor-first self.d self.n (c.args.p + 1) c.args.sigma_inv_m.now (λ b. at self.m.now (b * self.n + c.args.p)) (c.column_of.ensures ∙ ap (λ (k : ℕ). build k (λ b. at self.m.now (b * self.n + c.args.p))) p.2)
    (rows-of self.n c.args.sigma_inv_m.now _ _ p.3 (c.column_of.auto.x ∙ p.2) c.weighted_rows.ensures)
