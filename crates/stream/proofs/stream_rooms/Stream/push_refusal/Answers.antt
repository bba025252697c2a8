-- A record that meets no refusal 10 has what `push_tests` requires.
use mathlib.Core.Path.{ap}
use Rattle.definition.specs.Number.{refused_by}
use Rattle.stream.proofs.Records.{plain_passed}
use Rattle.stream.proofs.Refusals.{tests_fit}
use Rattle.stream.specs.Stream.{record_of, rings_of}
use Rattle.stream.proofs.stream_rooms.Stream.push_refusal.Goals as goal

pub push_tests-requires : goal.push_tests-requires
push_tests-requires c =
    let a = c.args in
    tests_fit (record_of a.self.now) (rings_of a.self.now) a.frame.now (plain_passed _ _ c.plain_refusal.ensures (ap refused_by c.in_ok-plain_refusal.was))
