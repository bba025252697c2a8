-- Which refusal `get_delta_weights` meets, where no test of the record and the frames does: none where nothing is asked for or where each input frame
-- has room, else as the count tells.
use mathlib.Core.Path.{refl, ◌∙◌}
use native.Mathlib.Omega.{arith}
use Rattle.rounds.proofs.SilenceRefusals.{sound, not_broken, at_most}
use Rattle.rounds.proofs.Calls.{reached, refusal_nothing, refusal_counted, refusal_roomy}
use Rattle.rounds.proofs.silence_weighting.check_deltas.Goals as goal

pub invariant_of-clock : goal.invariant_of-clock
invariant_of-clock c =
    let b = sound _ _ _ _ (not_broken _ _ c.is_whole.ensures c.in_ok-need.ensures) in
    record { some = b.some_subsampling; few = b.subsampling_is; early = at_most _ _ _ c.in_ok-need-3.ensures }

pub returns-then-ready-first : goal.returns-then-ready-first
returns-then-ready-first c =
    let z = c.args.rooms.now in
    λ f w e. refusal_nothing c.args.s z.known.now z.is_silence.now z.current_weight.now c.args.ready c.args.first f w
    (reached _ _ _ _ _ _ _ _ _ c.is_whole.ensures c.in_ok-need.ensures c.in_ok-need-2.ensures c.in_ok-need-3.ensures c.decoder_frames-wanted.ensures c.places.ensures c.in_ok-need-4.ensures)
    c.if-ready-first.true

pub returns-then-frames_out-s : goal.returns-then-frames_out-s
returns-then-frames_out-s c =
    let z = c.args.rooms.now in
    λ f w e. refusal_roomy c.args.s z.known.now z.is_silence.now z.current_weight.now c.args.ready c.args.first f w
    (reached _ _ _ _ _ _ _ _ _ c.is_whole.ensures c.in_ok-need.ensures c.in_ok-need-2.ensures c.in_ok-need-3.ensures c.decoder_frames-wanted.ensures c.places.ensures c.in_ok-need-4.ensures)
    c.if-ready-first.false c.max.ensures refl e _ _ c.walk_begin.ensures refl c.if-frames_out-s.true

pub count_changes-requires-clause-rooms : goal.count_changes-requires-clause-rooms
count_changes-requires-clause-rooms c =
    let b = sound _ _ _ _ (not_broken _ _ c.is_whole.ensures c.in_ok-need.ensures) in
    record { known = omega arith; is_silence = omega arith; current_weight = omega arith }

pub count_changes-requires-clause-bound : goal.count_changes-requires-clause-bound
count_changes-requires-clause-bound c =
    let b = sound _ _ _ _ (not_broken _ _ c.is_whole.ensures c.in_ok-need.ensures) in
    omega (arith, at_most _ _ _ c.in_ok-need-4.ensures, c.places.ensures, c.max.ensures)

pub returns : goal.returns
returns c =
    let z = c.args.rooms.now in
    λ f w e. c.need-5.ensures ∙ refusal_counted c.args.s z.known.now z.is_silence.now z.current_weight.now c.args.ready c.args.first f w
    (reached _ _ _ _ _ _ _ _ _ c.is_whole.ensures c.in_ok-need.ensures c.in_ok-need-2.ensures c.in_ok-need-3.ensures c.decoder_frames-wanted.ensures c.places.ensures c.in_ok-need-4.ensures)
    c.if-ready-first.false c.max.ensures (c.count_changes.ensures _) e
