-- `quadratic_term` meets its contract, by the laws of rows that make a table (crate loops); that this is the definition's `quadratic_term` is
-- `quadratic_whole` (Rows.antt).
use Rattle.std.proofs.Common.{ℕ, ◌+◌, ◌-◌, List, length, sym, refl, ap, ◌∙◌, arith}
use lib.Ieee.{Float}
use Rattle.loops.specs.Lists.{build}
use Rattle.loops.proofs.Build.{length_build}
use Rattle.loops.proofs.Flat.{rows_none, rows_turn, rows_end}
use Rattle.loops.proofs.Triangle.{length_triangle, triangle-next}
use Rattle.model.specs.declared.ivector_tables.Gaussian as Declared
use Rattle.model.proofs.Rows.{quadratic_row, quadratic_whole}
use Rattle.model.proofs.ivector_tables.Gaussian.quadratic_term.Goals as goal

abbrev row_of : Declared.Gaussian → List Float → ℕ → ℕ → Float
row_of x y = quadratic_row x.d x.n x.m.now y

pub loop-p-init : goal.loop-p-init
loop-p-init c = record { behind = refl; rows = rows_none (λ p. build (p + 1) (row_of c.args.self.now c.args.sigma_inv_m.now p)) _ }

pub loop-p-preserved : goal.loop-p-preserved
loop-p-preserved c =
    let loop = c.loop-p in
    let row = row_of c.args.self.now c.args.sigma_inv_m.now in
    record {
      behind = omega (arith, loop.invariant.behind, triangle-next loop.p);
      rows = rows_turn (λ p. build (p + 1) (row p)) loop.p _ {k = loop.start + loop.p + 1 - loop.start} (length_triangle row loop.p ∙ sym loop.invariant.behind) loop.invariant.rows c.quadratic_row.ensures
          (ap length c.quadratic_row.ensures ∙ length_build (loop.p + 1) _ ∙ omega arith);
    }

pub returns : goal.returns
returns c =
    let self = c.args.self.now in
    quadratic_whole self.d self.n self.m.now c.args.sigma_inv_m.now c.args.out.now c.requires.1
    (rows_end (λ p. build (p + 1) (row_of self c.args.sigma_inv_m.now p)) c.loop-p.p _ _ (omega arith) c.loop-p-test.false c.loop-p.invariant.rows)
