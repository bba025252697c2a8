-- `linear::exact_or_start` meets its contract, by whether the exact solution is there (`has_exact`, `has_none` in Cells.antt).
use borrow.Author.Tests.{not-true, not-false}
use Rattle.algebra.proofs.Cells.{has_exact, has_none}
use mathlib.Core.Path.{ap}
use mathlib.Core.Bool.{not}
use Rattle.algebra.proofs.linear.exact_or_start.Goals as goal

pub returns-then-not-cholesky_solve : goal.returns-then-not-cholesky_solve
returns-then-not-cholesky_solve c = has_none _ _ _ _ c.copy.ensures c.cholesky_solve.ensures.has_factor (not-true _ (ap not c.if-not-cholesky_solve.true))

pub returns-else-not-cholesky_solve : goal.returns-else-not-cholesky_solve
returns-else-not-cholesky_solve c = has_exact _ _ _ _ _ c.cholesky_solve.ensures.solved c.cholesky_solve.ensures.has_factor (not-false _ (ap not c.if-not-cholesky_solve.false))
