-- The counts of an answer, by what the tests of a record say.
use mathlib.Core.Path.{ap}
use Rattle.std.proofs.lemmas.Result.{err_from_is_err_and}
use Rattle.definition.specs.Number.{refused_by}
use Rattle.stream.specs.Stream.{record_of, rings_of}
use Rattle.stream.proofs.Records.{few}
use Rattle.stream.proofs.Refusals.{window_taken, window_few}
use Rattle.stream.proofs.stream_rooms.Stream.set_window.Goals as goal

pub returns-in_err-window_refusal-clause-few : goal.returns-in_err-window_refusal-clause-few
returns-in_err-window_refusal-clause-few c =
    let e = err_from_is_err_and c.from_residual.result c.from_residual.ensures.1 in
    rw (e.1, e.2) (window_few (record_of c.args.self.now) (rings_of c.args.self.now) c.args.window c.in_err-window_refusal.ensures)

pub returns-clause-few : goal.returns-clause-few
returns-clause-few c =
    λ h.
    let s = record_of c.args.self.now in
    let z = rings_of c.args.self.now in
    few s z (window_taken s z c.args.window c.window_refusal.ensures (ap refused_by c.in_ok-window_refusal.was))
