-- `same_estimate` meets its contract: the derived comparison is the definition's; no search is asked.
use mathlib.Core.Bool.{and-true}
use lib.Dec.{eqb}
use Rattle.limits.proofs.same_estimate.Goals as goal

pub returns : goal.returns
returns c = rw (and-true (eqb c.args.a.scratch c.args.b.scratch)) c.eq.ensures
