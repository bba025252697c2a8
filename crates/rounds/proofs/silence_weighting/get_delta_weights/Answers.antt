-- The one equation of `get_delta_weights`: refused, nothing asked for, or the walk's weights and changes, as the laws of `Calls` put together.
use mathlib.Core.Path.{◌≡◌, refl, sym, ap, ◌∙◌}
use native.Mathlib.Omega.{arith}
use Prim.Native.Nat.{max}
use lib.ListN.{length}
use Rattle.std.proofs.lemmas.Result.{err_from_is_err_and}
use Rattle.loops.specs.Ring.{put}
use Rattle.definition.specs.declared.DecoderFrame.{DecoderFrame}
use Rattle.definition.specs.Silence.{wanted}
use Rattle.rounds.proofs.SilenceRefusals.{delta_taken}
use Rattle.rounds.proofs.Calls.{some_asked, delta_refused, delta_nothing, delta_done}
use Rattle.rounds.proofs.silence_weighting.get_delta_weights.Goals.{After-max}
use Rattle.rounds.proofs.silence_weighting.get_delta_weights.Goals as goal

-- how long the table is to be
size : (c : After-max) →
    let a = c.args in
    c.max.result ≡ max a.s.now.length.0 (wanted a.s.now a.num_frames_ready a.first_decoder_frame).0
size c = c.max.ensures ∙ ap (λ (x : DecoderFrame). max c.args.s.now.length.0 x.0) c.decoder_frames.ensures

pub returns-in_err-check_deltas-clause-call : goal.returns-in_err-check_deltas-clause-call
returns-in_err-check_deltas-clause-call c =
    let e = err_from_is_err_and c.from_residual.result c.from_residual.ensures.1 in
    rw (e.1, e.2) (delta_refused _ _ _ _ _ _ _ _ _ (c.in_err-check_deltas.ensures _ _ c.min-room.ensures))

pub returns-then-num_frames_ready-first_decoder_frame-clause-call : goal.returns-then-num_frames_ready-first_decoder_frame-clause-call
returns-then-num_frames_ready-first_decoder_frame-clause-call c =
    let e = c.in_ok-check_deltas.ensures _ _ c.min-room.ensures in
    delta_nothing _ _ _ _ _ _ _ _ e c.if-num_frames_ready-first_decoder_frame.true (delta_taken _ _ _ _ _ _ (sym e))

pub invariant_of-clock : goal.invariant_of-clock
invariant_of-clock c =
    let t = delta_taken _ _ _ _ _ _ (sym (c.in_ok-check_deltas.ensures _ _ c.min-room.ensures)) in
    record { some = t.sound_is.some_subsampling; few = t.sound_is.subsampling_is; early = t.first_is }

pub decoder_frames-requires : goal.decoder_frames-requires
decoder_frames-requires c = (delta_taken _ _ _ _ _ _ (sym (c.in_ok-check_deltas.ensures _ _ c.min-room.ensures))).ready_is

pub give_changes-changes-requires-clause-rooms : goal.give_changes-changes-requires-clause-rooms
give_changes-changes-requires-clause-rooms c =
    let t = delta_taken _ _ _ _ _ _ (sym (c.in_ok-check_deltas.ensures _ _ c.min-room.ensures)) in
    let n = size (goal.at.give_changes-changes-requires-clause-rooms c).After-max in
    record { known = omega arith; is_silence = omega arith; current_weight = omega arith }

pub give_changes-changes-requires-clause-bound : goal.give_changes-changes-requires-clause-bound
give_changes-changes-requires-clause-bound c =
    let t = delta_taken _ _ _ _ _ _ (sym (c.in_ok-check_deltas.ensures _ _ c.min-room.ensures)) in
    omega (arith, size (goal.at.give_changes-changes-requires-clause-bound c).After-max)

pub give_changes-changes-requires-clause-enough : goal.give_changes-changes-requires-clause-enough
give_changes-changes-requires-clause-enough c =
    let t = delta_taken _ _ _ _ _ _ (sym (c.in_ok-check_deltas.ensures _ _ c.min-room.ensures)) in
    let a = c.args in
    let z = a.rooms.now in
    let n = size (goal.at.give_changes-changes-requires-clause-enough c).After-max in
    omega (arith, t.room_is, ap length (some_asked a.s.now z.known.now z.is_silence.now z.current_weight.now a.num_frames_ready a.first_decoder_frame c.if-num_frames_ready-first_decoder_frame.false _ n))

pub fill-requires : goal.fill-requires
fill-requires c =
    let t = delta_taken _ _ _ _ _ _ (sym (c.in_ok-check_deltas.ensures _ _ c.min-room.ensures)) in
    omega (arith, size (goal.at.fill-requires c).After-max, ap length c.give_changes-changes.ensures.known)

pub fill-requires-2 : goal.fill-requires-2
fill-requires-2 c =
    let t = delta_taken _ _ _ _ _ _ (sym (c.in_ok-check_deltas.ensures _ _ c.min-room.ensures)) in
    omega (arith, size (goal.at.fill-requires-2 c).After-max, ap length c.give_changes-changes.ensures.is_silence)

pub returns-clause-call : goal.returns-clause-call
returns-clause-call c =
    let e = c.in_ok-check_deltas.ensures _ _ c.min-room.ensures in
    let g = c.give_changes-changes.ensures in
    delta_done _ _ _ _ _ _ _ _ c.if-num_frames_ready-first_decoder_frame.false _ (size (goal.at.returns-clause-call c).After-max) _ _ _ _ _ _ _ e (delta_taken _ _ _ _ _ _ (sym e)) refl
    g.count (c.fill.ensures ∙ ap (put _ _) g.known) (c.fill-2.ensures ∙ ap (put _ _) g.is_silence) g.current_weight g.frames g.weights
