-- `squared` gives `squares 7 h`: the definition computes to the seven products.
use Rattle.std.proofs.Common.{refl}
use Rattle.floats.specs.Exp.{squares}
use Rattle.floats.proofs.squared.Goals as goal

pub returns : goal.returns
unfolding squares
returns c = refl
