-- `same_tables` meets its contract: the derived comparison is the definition's; no search is asked.
use mathlib.Core.Bool.{and-true}
use lib.Dec.{eqb}
use Rattle.definition.specs.Stream.{same_tables}
use Rattle.limits.proofs.same_tables.Goals as goal

pub returns : goal.returns
unfolding same_tables
returns c = rw (and-true (eqb c.args.a.global_mean_stats c.args.b.global_mean_stats)) c.eq.ensures
