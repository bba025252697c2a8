-- `start` meets what its call of `answered` asks: a fresh stream has accepted nothing, and its mark is 0.
use mathlib.Core.Path.{ap}
use native.Mathlib.Omega.{arith}
use Rattle.program.specs.Calls.{fresh_stream}
use Rattle.program.specs.Session.{Program}
use Rattle.round_replay.proofs.calls.start.Goals as goal

pub answered-requires : goal.answered-requires
unfolding fresh_stream
answered-requires c =
    let fresh = c.in_ok-start.ensures.fresh in
    let accepted = ap (λ (p : Program). p.stream.accepted) fresh in
    let mark = ap (λ (p : Program). p.stream.mark) fresh in
    λ _. (omega (arith, accepted), omega (arith, mark))
