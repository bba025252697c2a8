-- `push_all` meets its contract, by the invariant in Invariants.antt: a push that is taken is `push_taken`, and the first refusal ends them
-- (`push_refused`), both in Steps.antt.
use mathlib.Core.Path.{◌≡◌, sym, ap, ◌∙◌}
use Prim.Native.Nat.{ℕ}
use Rattle.std.proofs.lemmas.Result.{err_from_is_err_and}
use Rattle.stream.specs.Stream.{record_of, rings_of}
use Rattle.stream.proofs.Loans.{still_rest}
use Rattle.rounds.specs.declared.trigger_steps.Step.TheVariants as S
use Rattle.rounds.specs.Round.{cut, push_all}
use Rattle.rounds.proofs.Steps.{halts, no_halt, push_refused, push_taken, push-none}
use Rattle.rounds.proofs.trigger.push_all.Goals as goal

pub loop-frame-preserved : goal.loop-frame-preserved
loop-frame-preserved c =
    let was = c.loop-frame.invariant in
    let step = c.in-Some.ensures.steps in
    let n-is : c.max-n.result ≡ c.loop-frame.frame-iterator.size = sym was.1 in (
      was.0,
      step.0 ∙ was.1,
      still_rest was.2 c.push-call.ensures.rest,
      push_taken c.max-n.result was.0 _ _ _ step.1.0 (rw n-is step.1.1) step.1.2 _ _ _ _ c.push-call.ensures.call _ (no_halt S.Push _ _ 0 0 _ c.in_ok-at_step.ensures) ∙ was.3,
    )

pub returns-in_err-at_step-clause-pushes : goal.returns-in_err-at_step-clause-pushes
returns-in_err-at_step-clause-pushes c =
    let e = err_from_is_err_and c.from_residual.result c.from_residual.ensures.1 in
    let was = c.loop-frame.invariant in
    let step = c.in-Some.ensures.steps in
    let n-is : c.max-n.result ≡ c.loop-frame.frame-iterator.size = sym was.1 in
    rw (e.1, e.2)
    (push_refused c.max-n.result was.0 _ _ _ step.1.0 (rw n-is step.1.1) step.1.2 _ _ _ _ c.push-call.ensures.call _ (halts S.Push _ _ 0 0 _ c.in_err-at_step.ensures) ∙ was.3
    ∙ ap (λ (k : ℕ). push_all (record_of c.args.stream.now) (rings_of c.args.stream.now) (cut k c.args.numbers.now)) c.max-n.ensures)

pub returns-clause-pushes : goal.returns-clause-pushes
returns-clause-pushes c =
    let was = c.loop-frame.invariant in
    push-none c.max-n.result was.0 _ c.in-None.ensures.steps.1.0 _ _ ∙ was.3
    ∙ ap (λ (k : ℕ). push_all (record_of c.args.stream.now) (rings_of c.args.stream.now) (cut k c.args.numbers.now)) c.max-n.ensures
