-- `diag_gmm::weighed` meets its contract, by its test; no search is asked.
use mathlib.Core.Path.{refl}
use Rattle.definition.specs.Posteriors.{weighed}
use Rattle.gmm.proofs.diag_gmm.weighed.Goals as goal

pub returns-then-weight : goal.returns-then-weight
unfolding weighed
returns-then-weight c = rw c.if-weight.true refl

pub returns : goal.returns
unfolding weighed
returns c = rw (c.min_post_for.ensures, c.if-weight.false) refl
