-- `frames_ready` meets its contract, by its test; no search is asked.
use mathlib.Core.Path.{refl}
use Rattle.definition.specs.Machine.{frames_ready}
use Rattle.limits.proofs.frames_ready.Goals as goal

pub returns-then-finished : goal.returns-then-finished
unfolding frames_ready
returns-then-finished c = rw c.if-finished.true refl

pub returns-else-finished : goal.returns-else-finished
unfolding frames_ready
returns-else-finished c = rw c.if-finished.false c.saturating_sub.ensures
