-- `push` meets its contract: refused, all is as it was; taken, the frame is at its place, and its sums are in the next row.
use mathlib.Core.Path.{ap}
use Rattle.std.proofs.lemmas.Result.{err_from_is_err_and}
use native.Mathlib.Omega.{arith}
use Rattle.definition.specs.Number.{refused_by}
use Rattle.stream.specs.Stream.{record_of, rings_of}
use Rattle.stream.proofs.Records.{few}
use Rattle.stream.proofs.Refusals.{push_taken, push_few, store_fits}
use Rattle.stream.proofs.Taken.{push_is}
use Rattle.stream.proofs.stream_rooms.Stream.push.Goals as goal

pub store_frame-requires : goal.store_frame-requires
store_frame-requires c =
    let s = record_of c.args.self.now in
    let z = rings_of c.args.self.now in
    store_fits s z c.args.frame.now (push_taken s z c.args.frame.now c.push_refusal.ensures (ap refused_by c.in_ok-push_refusal.was))

pub overflow_add-self : goal.overflow_add-self
overflow_add-self c =
    omega (arith, (push_taken (record_of c.args.self.now) (rings_of c.args.self.now) c.args.frame.now c.push_refusal.ensures (ap refused_by c.in_ok-push_refusal.was)).more)

pub returns-in_err-push_refusal-clause-few : goal.returns-in_err-push_refusal-clause-few
returns-in_err-push_refusal-clause-few c =
    let e = err_from_is_err_and c.from_residual.result c.from_residual.ensures.1 in
    rw (e.1, e.2) (push_few (record_of c.args.self.now) (rings_of c.args.self.now) c.args.frame.now c.in_err-push_refusal.ensures)

pub returns-clause-few : goal.returns-clause-few
returns-clause-few c =
    λ h.
    let s = record_of c.args.self.now in
    let z = rings_of c.args.self.now in
    let t = push_taken s z c.args.frame.now c.push_refusal.ensures (ap refused_by c.in_ok-push_refusal.was) in
    (omega (arith, t.more), (few s z t.passed).1)

pub returns-clause-call : goal.returns-clause-call
returns-clause-call c =
    push_is (record_of c.args.self.now) (rings_of c.args.self.now) c.args.frame.now c.push_refusal.ensures (ap refused_by c.in_ok-push_refusal.was)
    c.store_frame.ensures.0 c.store_frame.ensures.1
