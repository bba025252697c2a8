-- `sigma_inv_m` meets its contract, by the laws of rows that make a table (crate loops); that this is the definition's `sigma_inv_m` is
-- `sigma_whole` (Rows.antt).
use Rattle.std.proofs.Common.{ℕ, ◌+◌, ◌-◌, ◌*◌, List, length, ap, ◌∙◌, arith}
use lib.Ieee.{Float}
use Rattle.loops.specs.Lists.{build}
use Rattle.loops.proofs.Build.{length_build}
use Rattle.loops.proofs.Flat.{rows_none, rows_turn, rows_end, length_cells}
use Rattle.model.specs.declared.ivector_tables.Gaussian as Declared
use Rattle.model.proofs.Rows.{sigma_row, sigma_whole}
use Rattle.model.proofs.ivector_tables.Gaussian.sigma_inv_m.Goals as goal

abbrev row_of : Declared.Gaussian → ℕ → List Float
row_of x a = build x.n (sigma_row x.d x.n x.sigma_inv.now x.m.now a)

pub loop-a-init : goal.loop-a-init
loop-a-init c = rows_none (row_of c.args.self.now) _

pub loop-a-preserved : goal.loop-a-preserved
loop-a-preserved c =
    let self = c.args.self.now in
    let a = c.loop-a.a in
    rows_turn (row_of self) a _ {k = a * self.n + self.n - a * self.n} (length_cells a self.n _) c.loop-a.invariant c.sigma_inv_m_row.ensures
    (ap length c.sigma_inv_m_row.ensures ∙ length_build self.n _ ∙ omega arith)

pub returns : goal.returns
returns c =
    let self = c.args.self.now in
    sigma_whole self.d self.n self.sigma_inv.now self.m.now c.args.out.now c.requires
    (rows_end (row_of self) c.loop-a.a _ _ (omega arith) c.loop-a-test.false c.loop-a.invariant)
