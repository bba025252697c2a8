-- By whether the place is in the text (`step_in` and `step_behind`, Scanning.antt).
use Rattle.script.proofs.Scanning.{step_in, step_behind}
use Rattle.script.proofs.step.Goals as goal

pub returns-then-at-text : goal.returns-then-at-text
returns-then-at-text c = step_in _ _ c.if-at-text.true

pub returns-else-at-text : goal.returns-else-at-text
returns-else-at-text c = step_behind _ _ c.if-at-text.false
