-- `CgdState::is_worse` meets its contract, by its first test; no search is asked.
use Rattle.algebra.proofs.linear.CgdState.is_worse.Goals as goal

pub returns-then-self-r_initial : goal.returns-then-self-r_initial
returns-then-self-r_initial c = simp c.if-self-r_initial.true

pub returns-else-self-r_initial : goal.returns-else-self-r_initial
returns-else-self-r_initial c = simp c.if-self-r_initial.false
