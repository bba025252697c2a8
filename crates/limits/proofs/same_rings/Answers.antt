-- `same_rings` meets its contract: the derived comparison is the definition's; no search is asked.
use mathlib.Core.Bool.{and-true}
use lib.Dec.{eqb}
use Rattle.definition.specs.Stream.{same_rings}
use Rattle.limits.proofs.same_rings.Goals as goal

pub returns : goal.returns
unfolding same_rings
returns c = rw (and-true (eqb c.args.a.waiting_weights c.args.b.waiting_weights)) c.eq.ensures
