-- `active` meets its contract, by its tests.
use mathlib.Core.Path.{◌≡◌, refl}
use mathlib.Core.Bool.{false}
use borrow.Author.Tests.{ne_eqb}
use lib.Dec.{eqb}
use Rattle.definition.specs.Silence.{active}
use Rattle.rounds.proofs.silence_weighting.active.Goals as goal

pub returns-then-s-ne0 : goal.returns-then-s-ne0
unfolding active
returns-then-s-ne0 c =
    let some : eqb c.args.s.phones 0 ≡ false = ne_eqb _ _ c.if-s-ne0.true in
    rw some refl
