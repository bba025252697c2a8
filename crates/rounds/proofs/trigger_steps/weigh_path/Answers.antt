-- `weigh_path` meets its contract: a traceback that is refused ends the round at step 3 (`note_stopped`); else the weighing goes on from what it left (`then_weighed`), and
-- where that is taken its lists have room for what it gave (`changes_fit`). The laws are those of Steps.antt.
use mathlib.Core.Path.{◌∙◌}
use mathlib.Core.List.{List}
use Prim.Native.Nat.{ℕ}
use lib.Ieee.{Float}
use Rattle.std.proofs.lemmas.Result.{err_from_is_err_and}
use Rattle.rounds.specs.Inner.SilenceWeightingRooms.{rooms_in}
use Rattle.rounds.specs.Round.{Utterance, with_table}
use Rattle.rounds.proofs.Steps.{noted, note_stopped, note_went_on, then_weighed, changes_fit, weigh_ends, weigh_fits, note_halt, weigh_halt}
use Rattle.rounds.proofs.trigger_steps.weigh_path.Goals.{Start}
use Rattle.rounds.proofs.trigger_steps.weigh_path.Goals as goal

-- the segments, beside numbers xs
abbrev spoken : Start → List Float → Utterance
spoken c xs = record { start = c.args.start; numbers = xs; phones = c.args.path.phones.now; starts = c.args.path.starts.now; ends = c.args.path.ends.now }

pub returns-in_err-at_step-clause-steps : goal.returns-in_err-at_step-clause-steps
returns-in_err-at_step-clause-steps c =
    let e = err_from_is_err_and c.from_residual.result c.from_residual.ensures.1 in
    rw (e.1, e.2)
    (λ b xs next _. noted _ _ c.args.delta_frames.now c.args.delta_weights.now _ (spoken (goal.at.returns-in_err-at_step-clause-steps c).Start xs) _ c.decoded.ensures _ _ c.compute_current_traceback-noted.ensures.call b next
    ∙ note_stopped _ _ _ _ next c.in_err-at_step.ensures)

pub returns-in_err-at_step-clause-halt : goal.returns-in_err-at_step-clause-halt
returns-in_err-at_step-clause-halt c =
    let e = err_from_is_err_and c.from_residual.result c.from_residual.ensures.1 in
    rw (e.1, e.2) (note_halt _ _ c.in_err-at_step.ensures)

pub returns-clause-halt : goal.returns-clause-halt
returns-clause-halt c = rw c.at_step-2.ensures (weigh_halt _)

pub returns-clause-frames : goal.returns-clause-frames
returns-clause-frames c =
    rw c.at_step-2.ensures
    (weigh_fits _ _ (λ h. (changes_fit _ _ c.args.delta_frames.now c.args.delta_weights.now 0 _ _ _ _ _ c.args.start c.get_delta_weights-weighed.ensures.call h).0))

pub returns-clause-weights : goal.returns-clause-weights
returns-clause-weights c =
    rw c.at_step-2.ensures
    (weigh_fits _ _ (λ h. (changes_fit _ _ c.args.delta_frames.now c.args.delta_weights.now 0 _ _ _ _ _ c.args.start c.get_delta_weights-weighed.ensures.call h).1))

pub returns-clause-steps : goal.returns-clause-steps
returns-clause-steps c =
    let w = c.get_delta_weights-weighed in
    rw c.at_step-2.ensures
    (λ b xs next e. then_weighed _ _ c.args.delta_frames.now c.args.delta_weights.now _ (spoken (goal.at.returns-clause-steps c).Start xs) _ c.decoded.ensures _ _ c.compute_current_traceback-noted.ensures.call b next
    (note_went_on _ _ c.in_ok-at_step.ensures) _ e _ _ _ _ w.ensures.call
    ∙ weigh_ends _ (λ (n : ℕ). with_table b w.new.s (rooms_in w.new.rooms) w.new.frames w.new.weights n) next)
