-- `SilenceRooms::weight` meets its contract, by its test; no search is asked.
use mathlib.Core.Path.{refl}
use borrow.Author.Tests.{lt-ltb, le-ltb}
use Rattle.rounds.specs.Inner.SilenceWeighting.{place_at}
use Rattle.rounds.proofs.silence_weighting.rooms.SilenceRooms.weight.Goals as goal

pub returns-then-k-n : goal.returns-then-k-n
unfolding place_at
returns-then-k-n c = rw (lt-ltb _ _ c.if-k-n.true) refl

pub returns-else-k-n : goal.returns-else-k-n
unfolding place_at
returns-else-k-n c = rw (le-ltb _ _ c.if-k-n.false) refl
