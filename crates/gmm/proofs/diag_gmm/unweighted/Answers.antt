-- `diag_gmm::unweighted` meets its contract: what it hands back is the definition's; no search is asked.
use mathlib.Core.Path.{refl}
use Rattle.definition.specs.Posteriors.{unweighted}
use Rattle.gmm.proofs.diag_gmm.unweighted.Goals as goal

pub returns : goal.returns
unfolding unweighted
returns c = refl
