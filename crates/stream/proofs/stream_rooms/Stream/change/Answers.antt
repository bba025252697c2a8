-- `change` meets its contract: once the change is taken there is room for it, and the waiting frames are in order; the two lists have it inserted.
use mathlib.Core.Path.{refl, sym, ap}
use Rattle.std.proofs.lemmas.Result.{err_from_is_err_and}
use native.Mathlib.Omega.{arith}
use Rattle.definition.specs.Changes.{changed}
use Rattle.definition.specs.Number.{refused_by}
use Rattle.program.specs.Calls.{update_frame_weights}
use Rattle.stream.specs.Stream.{record_of, rings_of}
use Rattle.stream.proofs.Records.{few}
use Rattle.stream.proofs.Refusals.{change_taken, change_few}
use Rattle.stream.proofs.Replies.{rings_are, changed_stream}
use Rattle.stream.proofs.Taken.{taken_is}
use Rattle.stream.proofs.stream_rooms.Stream.change.Goals as goal

pub update_frame_weights-past_highest-requires : goal.update_frame_weights-past_highest-requires
update_frame_weights-past_highest-requires c =
    let a = c.args in
    let t = change_taken (record_of a.self.now) (rings_of a.self.now) a.delta_frames.now a.delta_weights.now c.change_refusal.ensures (ap refused_by c.in_ok-change_refusal.was) in
    record { frames = omega (arith, t.room_is, t.passed); weights = omega (arith, t.room_is, t.passed); paired = sym t.even; order = t.passed.whole_is.in_order; bound = t.near }

pub overflow_add-self : goal.overflow_add-self
overflow_add-self c =
    let a = c.args in
    let t = change_taken (record_of a.self.now) (rings_of a.self.now) a.delta_frames.now a.delta_weights.now c.change_refusal.ensures (ap refused_by c.in_ok-change_refusal.was) in
    omega (arith, t.room_is, t.passed)

pub returns-in_err-change_refusal-clause-few : goal.returns-in_err-change_refusal-clause-few
returns-in_err-change_refusal-clause-few c =
    let a = c.args in
    let e = err_from_is_err_and c.from_residual.result c.from_residual.ensures.1 in
    rw (e.1, e.2) (change_few (record_of a.self.now) (rings_of a.self.now) a.delta_frames.now a.delta_weights.now c.in_err-change_refusal.ensures)

pub returns-clause-few : goal.returns-clause-few
returns-clause-few c =
    λ h.
    let a = c.args in
    let s = record_of a.self.now in
    let z = rings_of a.self.now in
    few s z (change_taken s z a.delta_frames.now a.delta_weights.now c.change_refusal.ensures (ap refused_by c.in_ok-change_refusal.was)).passed

pub returns-clause-call : goal.returns-clause-call
unfolding changed update_frame_weights
returns-clause-call c =
    let a = c.args in
    let s = record_of a.self.now in
    let z = rings_of a.self.now in
    let e = c.update_frame_weights-past_highest.ensures in
    taken_is s z (update_frame_weights s z a.delta_frames.now a.delta_weights.now) c.change_refusal.ensures (ap refused_by c.in_ok-change_refusal.was)
    (changed_stream s z a.delta_frames.now a.delta_weights.now e.past_highest) (rings_are refl refl e.changes.0 e.changes.1)
