-- From 1 the first result is 270369, computed.
use mathlib.Core.Path.{◌≡◌, refl}
use Rattle.lists.specs.Draws.{draw}

pub first-of-one : draw 1 ≡ 270369
unfolding draw
first-of-one = refl
