-- The changes of a decoder frame in the answer's two lists: after j turns the first j of them stand there.
use mathlib.Core.Path.{refl, ap, ◌∙◌}
use borrow.Author.Rules.{rules}
use native.Mathlib.Omega.{arith}
use Rattle.loops.proofs.Fill.{put_none, put_turn, put_end}
use Rattle.definition.specs.declared.InputFrame.{InputFrame}
use Rattle.rounds.proofs.Walk.{number_le, given_put}
use Rattle.rounds.proofs.silence_weighting.give.Goals as goal

pub loop-j-init : goal.loop-j-init
loop-j-init c = record { long = refl; so_far = put_none _ _ _ }

pub input_frame-requires-clause-j_in : goal.input_frame-requires-clause-j_in
input_frame-requires-clause-j_in c = omega (arith, number_le _ _ _ _ c.number_of-n.ensures)

pub loop-j-preserved : goal.loop-j-preserved
loop-j-preserved c = record { long = search rules; so_far = put_turn _ _ _ _ (omega arith) c.loop-j.invariant.so_far (ap (λ (x : InputFrame). x.0) c.input_frame.ensures) }

pub returns-clause-frames : goal.returns-clause-frames
returns-clause-frames c = put_end _ _ _ _ _ (omega arith) (omega arith) c.loop-j.invariant.so_far ∙ given_put _ _ _ _ _ (λ x. x.0) _ _ _ c.number_of-n.ensures

pub returns-clause-weights : goal.returns-clause-weights
returns-clause-weights c = c.fill.ensures ∙ given_put _ _ _ c.args.clock.first c.args.k (λ x. x.1) _ _ _ c.number_of-n.ensures
