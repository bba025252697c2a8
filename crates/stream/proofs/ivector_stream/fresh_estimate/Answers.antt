-- `ivector_stream::fresh_estimate` meets its contract: each callee fills the front of a room, and the rest of the room stays.
use mathlib.Core.Path.{◌∙◌}
use lib.Seq.{length-take-le}
use Rattle.loops.proofs.Fill.{lent_over}
use Rattle.stream.proofs.ivector_stream.fresh_estimate.Goals as goal

pub returns-clause-linear : goal.returns-clause-linear
returns-clause-linear c = lent_over _ _ _ (c.new.auto.linear ∙ length-take-le _ _ c.requires.linear) c.new.ensures.0

pub returns-clause-quadratic : goal.returns-clause-quadratic
returns-clause-quadratic c = lent_over _ _ _ (c.new.auto.quadratic ∙ length-take-le _ _ c.requires.quadratic) c.new.ensures.1

pub returns-clause-current : goal.returns-clause-current
returns-clause-current c = lent_over _ _ _ (c.prior_vector.auto.ivector ∙ length-take-le _ _ c.requires.current) c.prior_vector.ensures
