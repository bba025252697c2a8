-- `decide` meets its contract: with no ready frame nothing is done (`no_vector`); a fetch that is refused ends the round at step 6 (`fetch_refused`);
-- one that is taken is followed by the nearest voice (`fetch_taken`). Scratch is used by a fetch that is taken alone (`fetch_number`,
-- `found-worked`). The laws are those of Steps.antt.
use mathlib.Core.Path.{sym, ap, ◌∙◌}
use mathlib.Core.Bool.{true≢false}
use lib.ListN.{length}
use Rattle.std.proofs.lemmas.Result.{err_from_is_err_and}
use Rattle.definition.specs.Lent.{tables_in}
use Rattle.stream.specs.Stream.{record_of, rooms_of, not_finite_in, nans_in}
use Rattle.rounds.specs.declared.trigger_steps.Step.TheVariants as S
use Rattle.rounds.specs.Round.{result_of}
use Rattle.rounds.proofs.Steps.{halts, no_halt, no_vector, fetch_refused, fetch_taken, fetch_number, found_is, found-worked, stopped_err}
use Rattle.rounds.specs.Lent.{voices_of}
use Rattle.rounds.proofs.trigger.decide.Goals as goal

pub returns-then-ready-eq0-clause-steps : goal.returns-then-ready-eq0-clause-steps
returns-then-ready-eq0-clause-steps c =
    let a = c.args in
    no_vector (tables_in a.tables) (length a.stream.now.scratch.now) (voices_of a.voices) (record_of a.stream.now) (rooms_of a.stream.now) a.out.now _ c.num_frames_ready-ready.ensures c.if-ready-eq0.true

pub returns-in_err-at_step-clause-steps : goal.returns-in_err-at_step-clause-steps
returns-in_err-at_step-clause-steps c =
    let a = c.args in
    let e = err_from_is_err_and c.from_residual.result c.from_residual.ensures.1 in
    rw (e.1, e.2)
    (fetch_refused (tables_in a.tables) (length a.stream.now.scratch.now) (voices_of a.voices) (record_of a.stream.now) (rooms_of a.stream.now) a.out.now _ c.num_frames_ready-ready.ensures
    c.if-ready-eq0.false _ _ _ c.fetch-fetched.ensures.call _ (halts S.Fetch _ _ _ _ _ c.in_err-at_step.ensures))

pub returns-in_err-at_step-clause-scratch : goal.returns-in_err-at_step-clause-scratch
returns-in_err-at_step-clause-scratch c =
    let a = c.args in
    let x = c.fetch-fetched.result in
    let number = fetch_number (tables_in a.tables) (length a.stream.now.scratch.now) (voices_of a.voices) (record_of a.stream.now) (rooms_of a.stream.now) a.out.now _ c.num_frames_ready-ready.ensures
    c.if-ready-eq0.false _ _ _ c.fetch-fetched.ensures.call in
    λ _. c.fetch-fetched.ensures.scratch (λ z. (stopped_err _ _ _ (halts S.Fetch x (record_of c.fetch-fetched.new.self) (not_finite_in x) (nans_in x) _ c.in_err-at_step.ensures)).1 (number ∙ z))

pub returns-clause-steps : goal.returns-clause-steps
returns-clause-steps c =
    let a = c.args in
    let result-is = found_is _ _ _ _ _ _ _ _ c.ivector_dim-dim.ensures c.nearest_voice-found.ensures (c.result_of.ensures ∙ ap result_of c.numbered.ensures) in
    fetch_taken (tables_in a.tables) (length a.stream.now.scratch.now) (voices_of a.voices) (record_of a.stream.now) (rooms_of a.stream.now) a.out.now _ c.num_frames_ready-ready.ensures
    c.if-ready-eq0.false _ _ _ c.fetch-fetched.ensures.call _ (no_halt S.Fetch _ _ _ _ _ c.in_ok-at_step.ensures) _ result-is

pub returns-clause-scratch : goal.returns-clause-scratch
returns-clause-scratch c = λ h. absurd (true≢false (sym (found-worked _ _ c.result_of.ensures) ∙ h))
