-- `SilenceRooms::status` meets its contract, by its tests.
use mathlib.Core.Path.{◌≡◌, refl}
use mathlib.Core.Bool.{true, false}
use borrow.Author.Tests.{lt-ltb}
use lib.ListN.{get_or}
use Rattle.rounds.specs.Inner.SilenceWeighting.{place_at}
use Rattle.rounds.proofs.silence_weighting.rooms.SilenceRooms.status.Goals as goal

pub returns-then-self-k : goal.returns-then-self-k
unfolding place_at
returns-then-self-k c =
    let named : get_or c.args.self.now.known.now c.args.k.0 false ≡ true = c.if-self-k.true in
    rw (lt-ltb _ _ c.if-k-n.true, named) refl
