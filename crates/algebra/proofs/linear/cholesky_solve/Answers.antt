-- `linear::cholesky_solve` meets its contract, by whether there is a factor (`solve_on`, `solve_off` in Cells.antt).
use Rattle.algebra.proofs.Cells.{solve_on, solve_off}
use Rattle.algebra.proofs.linear.cholesky_solve.Goals as goal

pub returns-then-factor-clause-solved : goal.returns-then-factor-clause-solved
returns-then-factor-clause-solved c = solve_on _ _ _ _ c.factor.ensures c.if-factor.true c.forward.ensures c.backward.ensures

pub returns-clause-solved : goal.returns-clause-solved
returns-clause-solved c = solve_off _ _ _ _ c.factor.ensures c.if-factor.false
