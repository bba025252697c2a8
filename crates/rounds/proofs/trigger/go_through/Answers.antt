-- `go_through` meets its contract: each of its calls says what its steps are, and the round ends where one is refused (`ends_hearing`, `ends_weighing`, `ends_changing`) or
-- with what `decide` answers (`ends_full`). The laws are those of Steps.antt.
use mathlib.Core.Path.{refl, ap, ◌∙◌}
use native.Mathlib.Omega.{arith}
use lib.ListN.{length}
use Rattle.std.proofs.lemmas.Result.{err_from_is_err_and}
use Rattle.definition.specs.Lent.{tables_in}
use Rattle.stream.specs.Stream.{rings_of, estimate_of}
use Rattle.rounds.specs.declared.trigger_steps.Step.TheVariants as S
use Rattle.rounds.proofs.Steps.{halts, no_halt, ends_hearing, ends_weighing, ends_changing, ends_full}
use Rattle.rounds.specs.Lent.{voices_of}
use Rattle.rounds.proofs.trigger.go_through.Goals as goal

-- ---- steps 1 and 2

pub returns-in_err-hear-clause-round : goal.returns-in_err-hear-clause-round
returns-in_err-hear-clause-round c = λ none.
    let a = c.args in
    let u = a.utterance in
    let e = err_from_is_err_and c.from_residual.result c.from_residual.ensures.1 in
    rw (e.1, e.2, none)
    (ends_hearing (tables_in a.tables) (length a.stream.now.scratch.now) a.silence_phones.now (voices_of a.voices) u.start u.numbers.now u.path.phones.now u.path.starts.now u.path.ends.now
    _ (rings_of a.stream.now) (estimate_of a.stream.now) _ _ _ _ _ _ _ _ _ c.in_err-hear.ensures.steps c.hear.ensures.rest.estimate (λ z. omega (arith, z, c.in_err-hear.ensures.halt)))

-- ---- steps 3 and 4

pub returns-in_err-given-clause-round : goal.returns-in_err-given-clause-round
returns-in_err-given-clause-round c = λ none.
    let a = c.args in
    let u = a.utterance in
    let e = err_from_is_err_and c.from_residual-in_err-given.result c.from_residual-in_err-given.ensures.1 in
    rw (e.1, e.2, none)
    (ends_weighing (tables_in a.tables) (length a.stream.now.scratch.now) a.silence_phones.now (voices_of a.voices) u.start u.numbers.now u.path.phones.now u.path.starts.now u.path.ends.now
    _ (rings_of a.stream.now) (estimate_of a.stream.now) _ _ _ _ _ _ _ _ _ c.in_ok-hear.ensures.steps refl
    _ c.num_frames_ready-ready.ensures _ _ _ _ _ _ _ c.in_err-given.ensures.steps c.hear.ensures.rest.estimate (λ z. omega (arith, z, c.in_err-given.ensures.halt)))

-- ---- step 5

pub returns-in_err-at_step-clause-round : goal.returns-in_err-at_step-clause-round
returns-in_err-at_step-clause-round c = λ none.
    let a = c.args in
    let u = a.utterance in
    let e = err_from_is_err_and c.from_residual-in_err-at_step.result c.from_residual-in_err-at_step.ensures.1 in
    rw (e.1, e.2)
    (ends_changing (tables_in a.tables) (length a.stream.now.scratch.now) a.silence_phones.now (voices_of a.voices) u.start u.numbers.now u.path.phones.now u.path.starts.now u.path.ends.now
    _ (rings_of a.stream.now) (estimate_of a.stream.now) _ _ _ _ _ _ _ _ _ c.in_ok-hear.ensures.steps refl
    _ c.num_frames_ready-ready.ensures _ _ _ _ _ _ _ c.in_ok-given.ensures.steps refl _ _ c.change-changed.ensures.call (c.change-changed.ensures.rest.estimate ∙ c.hear.ensures.rest.estimate) _ (halts S.Change _ _ 0 0 _ c.in_err-at_step.ensures))

-- ---- steps 6 and 7

pub returns-clause-round : goal.returns-clause-round
returns-clause-round c = λ none.
    let a = c.args in
    let u = a.utterance in
    ends_full (tables_in a.tables) (length a.stream.now.scratch.now) a.silence_phones.now (voices_of a.voices) u.start u.numbers.now u.path.phones.now u.path.starts.now u.path.ends.now
    _ (rings_of a.stream.now) (estimate_of a.stream.now) _ _ _ _ _ _ _ _ _ c.in_ok-hear.ensures.steps refl
    _ c.num_frames_ready-ready.ensures _ _ _ _ _ _ _ c.in_ok-given.ensures.steps refl _ _ c.change-changed.ensures.call (c.change-changed.ensures.rest.estimate ∙ c.hear.ensures.rest.estimate)
    (ap length (c.change-changed.ensures.rest.scratch ∙ c.hear.ensures.rest.scratch)) _ (no_halt S.Change _ _ 0 0 _ c.in_ok-at_step.ensures) _ _ _ _ c.decide.ensures.steps
