-- `diag_gmm::min_post_for` meets its contract, by its test; no search is asked.
use mathlib.Core.Path.{refl}
use Rattle.definition.specs.Posteriors.{min_post_for}
use Rattle.gmm.proofs.diag_gmm.min_post_for.Goals as goal

pub returns-then-weight : goal.returns-then-weight
unfolding min_post_for
returns-then-weight c = rw c.if-weight.true refl

pub returns : goal.returns
unfolding min_post_for
returns c = rw (c.min.ensures, c.abs.ensures, c.if-weight.false) refl
