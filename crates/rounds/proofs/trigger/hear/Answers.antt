-- `hear` meets its contract: a forget that is refused ends the round at step 1 (`not_forgotten`); else the pushes go on from what it left (`then_pushed`). The laws are
-- those of Steps.antt.
use Rattle.std.proofs.lemmas.Result.{err_from_is_err_and}
use Rattle.rounds.specs.declared.trigger_steps.Step.TheVariants as S
use Rattle.rounds.proofs.Steps.{halts, no_halt, not_forgotten, then_pushed}
use Rattle.rounds.proofs.trigger.hear.Goals as goal

pub returns-in_err-at_step-clause-steps : goal.returns-in_err-at_step-clause-steps
returns-in_err-at_step-clause-steps c =
    let e = err_from_is_err_and c.from_residual.result c.from_residual.ensures.1 in
    rw (e.1, e.2) (λ b next. not_forgotten _ _ c.args.start c.args.numbers.now _ _ c.forget-forgotten.ensures.call b next _ (halts S.Forget _ _ 0 0 _ c.in_err-at_step.ensures))

pub returns-clause-steps : goal.returns-clause-steps
returns-clause-steps c =
    λ b next. then_pushed _ _ c.args.start c.args.numbers.now _ _ c.forget-forgotten.ensures.call b next _ (no_halt S.Forget _ _ 0 0 _ c.in_ok-at_step.ensures) _ c.push_all.ensures.halt _ _ c.push_all.ensures.pushes
