-- `answered` meets its contract, by what it is given; no search is asked.
use mathlib.Core.Path.{refl}
use Rattle.rounds.proofs.silence_weighting.answered.Goals as goal

pub returns-in-Ok : goal.returns-in-Ok
returns-in-Ok c = rw c.in-Ok.is refl

pub returns-in-Err : goal.returns-in-Err
returns-in-Err c = rw (c.in-Err.is, c.number.ensures) refl
