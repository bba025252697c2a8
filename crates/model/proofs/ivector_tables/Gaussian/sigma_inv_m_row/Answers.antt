-- `sigma_inv_m_row` meets its contract: column a of Σ⁻¹ is its row a (`row-of-column` in Rows.antt), and the sums of weighted rows are those of the
-- definition with the factors exchanged (`factor-first` there).
use Rattle.std.proofs.Common.{◌∙◌}
use Rattle.floats.specs.Operators.{at}
use Rattle.definition.specs.Model.{packed}
use Rattle.model.proofs.Rows.{row-of-column, factor-first, rows-of}
use Rattle.model.proofs.ivector_tables.Gaussian.sigma_inv_m_row.Goals as goal

pub returns : goal.returns
returns c =
    let self = c.args.self.now in
    let p = c.requires in
    factor-first self.d self.n self.n self.m.now (λ b. at self.sigma_inv.now (packed c.args.a b)) (row-of-column self.d c.args.a self.sigma_inv.now p.1 c.column.ensures)
    (rows-of self.n self.m.now _ _ p.2 (c.column.auto.out ∙ p.1) c.weighted_rows.ensures)
