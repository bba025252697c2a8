-- `try_load::draw` meets its contract: its shifts and its exclusive or are the definition's.
use mathlib.Core.Path.{refl}
use Rattle.lists.specs.Draws.{draw}
use Rattle.lists.proofs.try_load.draw.Goals as goal

pub returns : goal.returns
unfolding draw
returns c = refl
