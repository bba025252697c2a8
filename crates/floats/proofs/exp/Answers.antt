-- `exp` gives `exp_of x`, by the contracts of its three calls, one after the other; no search is asked.
use mathlib.Core.Path.{ap, ◌∙◌}
use Rattle.floats.specs.Exp.{wide_exp}
use Rattle.floats.proofs.exp.Goals as goal

pub exp_narrow-requires : goal.exp_narrow-requires
exp_narrow-requires c = c.exp_wide.ensures ∙ ap wide_exp c.exp_argument.ensures

pub returns : goal.returns
returns c = c.exp_narrow.ensures
