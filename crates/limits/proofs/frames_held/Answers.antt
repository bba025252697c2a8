-- `frames_held` meets its contract: what the library's subtraction leaves is the definition's; no search is asked.
use Rattle.definition.specs.Machine.{frames_held}
use Rattle.limits.proofs.frames_held.Goals as goal

pub returns : goal.returns
unfolding frames_held
returns c = c.saturating_sub.ensures
