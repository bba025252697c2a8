-- A record that meets no refusal 10 has the waiting frames in order, and no more of them than there is room. The new mark is no later than the statistics.
use mathlib.Core.Path.{ap}
use mathlib.Core.List.{[]}
use Rattle.std.proofs.lemmas.Result.{err_from_is_err_and}
use native.Mathlib.Omega.{arith}
use Rattle.definition.specs.Number.{refused_by}
use Rattle.stream.specs.Stream.{record_of, rings_of}
use Rattle.stream.proofs.Records.{plain_passed, few, other_few}
use Rattle.stream.proofs.Taken.{forget_under}
use Rattle.stream.proofs.stream_rooms.Stream.forget.Goals as goal

pub lowest_waiting-first-requires : goal.lowest_waiting-first-requires
lowest_waiting-first-requires c =
    let k = plain_passed (record_of c.args.self.now) (rings_of c.args.self.now) c.plain_refusal.ensures (ap refused_by c.in_ok-plain_refusal.was) in
    record { within = omega (arith, k); order = k.whole_is.in_order }

pub returns-in_err-plain_refusal-clause-few : goal.returns-in_err-plain_refusal-clause-few
returns-in_err-plain_refusal-clause-few c =
    let e = err_from_is_err_and c.from_residual.result c.from_residual.ensures.1 in
    rw (e.1, e.2) (other_few (record_of c.args.self.now) (rings_of c.args.self.now) [] c.in_err-plain_refusal.ensures)

pub returns-clause-few : goal.returns-clause-few
returns-clause-few c =
    λ h.
    let a = c.args in
    let s = record_of a.self.now in
    let z = rings_of a.self.now in
    let k = plain_passed s z c.plain_refusal.ensures (ap refused_by c.in_ok-plain_refusal.was) in (
      (few s z k).0,
      forget_under s z.waiting_frames a.frame c.min-reached.ensures c.lowest_waiting-first.ensures c.saturating_sub-kept.ensures c.max-mark.ensures (few s z k).1 (omega (arith, k.whole_is)),
    )
