-- `try_load::number` meets its contract.
use mathlib.Core.Path.{refl}
use Rattle.lists.specs.Draws.{number_of}
use Rattle.lists.proofs.Steps.{small_in}
use Rattle.lists.proofs.try_load.number.Goals as goal

pub int_to_float-result : goal.int_to_float-result
int_to_float-result c = small_in c.args.r

pub returns : goal.returns
unfolding number_of
returns c = refl
