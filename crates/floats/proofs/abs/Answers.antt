-- `abs` gives `absolute x`, as the library's does (`abs_std` in Extremes.antt); no search is asked.
use mathlib.Core.Path.{◌∙◌}
use Rattle.floats.proofs.Extremes.{abs_std}
use Rattle.floats.proofs.abs.Goals as goal

pub returns : goal.returns
returns c = c.abs.ensures.value ∙ abs_std c.args.x
