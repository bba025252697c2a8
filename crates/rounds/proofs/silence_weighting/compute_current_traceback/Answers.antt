-- The traceback's one equation: refused, all is left as it was; else the rooms have grown and are marked, as the laws of `Calls` put together.
use mathlib.Core.Path.{sym}
use native.Mathlib.Omega.{arith}
use Rattle.std.proofs.lemmas.Result.{err_from_is_err_and}
use Rattle.rounds.proofs.SilenceRefusals.{traceback_taken}
use Rattle.rounds.proofs.Calls.{put_long, traceback_refused, traceback_done}
use Rattle.rounds.proofs.silence_weighting.compute_current_traceback.Goals as goal

pub returns-in_err-check_traceback-clause-call : goal.returns-in_err-check_traceback-clause-call
returns-in_err-check_traceback-clause-call c =
    let e = err_from_is_err_and c.from_residual.result c.from_residual.ensures.1 in
    rw (e.1, e.2) (traceback_refused _ _ _ _ _ _ _ _ _ _ c.in_err-check_traceback.ensures)

pub grow-requires : goal.grow-requires
grow-requires c =
    let t = traceback_taken _ _ _ _ _ _ _ _ _ (sym c.in_ok-check_traceback.ensures) in
    let s = c.saturating_sub.ensures in
    record { known = omega arith; is_silence = omega arith; current_weight = omega arith }

pub mark_segments-requires-clause-known : goal.mark_segments-requires-clause-known
mark_segments-requires-clause-known c =
    let t = traceback_taken _ _ _ _ _ _ _ _ _ (sym c.in_ok-check_traceback.ensures) in
    omega (arith, put_long _ _ _ c.args.rooms.now.known.now (omega arith) c.grow.ensures.known)

pub mark_segments-requires-clause-is_silence : goal.mark_segments-requires-clause-is_silence
mark_segments-requires-clause-is_silence c =
    let t = traceback_taken _ _ _ _ _ _ _ _ _ (sym c.in_ok-check_traceback.ensures) in
    omega (arith, put_long _ _ _ c.args.rooms.now.is_silence.now (omega arith) c.grow.ensures.is_silence)

pub mark_segments-requires-clause-starts : goal.mark_segments-requires-clause-starts
mark_segments-requires-clause-starts c = (traceback_taken _ _ _ _ _ _ _ _ _ (sym c.in_ok-check_traceback.ensures)).starts_is

pub mark_segments-requires-clause-ends : goal.mark_segments-requires-clause-ends
mark_segments-requires-clause-ends c = (traceback_taken _ _ _ _ _ _ _ _ _ (sym c.in_ok-check_traceback.ensures)).ends_is

pub returns-clause-call : goal.returns-clause-call
returns-clause-call c =
    let t = traceback_taken _ _ _ _ _ _ _ _ _ (sym c.in_ok-check_traceback.ensures) in
    let g = c.grow.ensures in
    traceback_done _ _ _ _ _ _ _ _ _ _ _ _ _ _ _ _ c.in_ok-check_traceback.ensures t c.saturating_sub.ensures c.max.ensures g.known g.is_silence g.current_weight c.mark_segments.ensures
    (put_long _ _ _ _ (omega arith) g.known) (put_long _ _ _ _ (omega arith) g.is_silence)
