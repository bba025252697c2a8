-- `delta_weights::open_place` meets its contract: what stood in places k to n - 1 stands one place up (`moved_up` in Inserted.antt).
use mathlib.Core.Path.{◌∙◌}
use native.Mathlib.Omega.{arith}
use lib.Ieee.{nan}
use Rattle.stream.proofs.Inserted.{moved_up}
use Rattle.stream.proofs.delta_weights.open_place.Goals as goal

pub returns-clause-frames : goal.returns-clause-frames
returns-clause-frames c = c.copy_within.ensures.after ∙ moved_up 0 c.args.frames.now c.args.k _ _ (omega arith)

pub returns-clause-weights : goal.returns-clause-weights
returns-clause-weights c = c.copy_within-2.ensures.after ∙ moved_up nan c.args.weights.now c.args.k _ _ (omega arith)
