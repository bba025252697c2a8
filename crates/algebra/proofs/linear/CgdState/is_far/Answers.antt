-- `CgdState::is_far` meets its contract, by its first test; no search is asked.
use Rattle.algebra.proofs.linear.CgdState.is_far.Goals as goal

pub returns-then-self-residual_factor : goal.returns-then-self-residual_factor
returns-then-self-residual_factor c = simp c.if-self-residual_factor.true

pub returns-else-self-residual_factor : goal.returns-else-self-residual_factor
returns-else-self-residual_factor c = simp c.if-self-residual_factor.false
