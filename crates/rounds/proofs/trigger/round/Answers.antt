-- `round` meets its contract: it is `go_through`, from no changes on.
use mathlib.Core.Path.{refl}
use Rattle.rounds.proofs.trigger.round.Goals as goal

pub returns-clause-round : goal.returns-clause-round
returns-clause-round c = c.go_through-result.ensures.round refl
