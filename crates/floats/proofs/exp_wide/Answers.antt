-- `exp_wide` gives the series of y, squared seven times, by the contracts of its calls.
use mathlib.Core.Path.{ap, ◌∙◌}
use Rattle.floats.specs.Exp.{squares}
use Rattle.floats.proofs.exp_wide.Goals as goal

pub returns : goal.returns
returns c = c.squared.ensures ∙ ap (squares 7) c.powers.ensures
