-- `ivector_stats::prior_vector` meets its contract: a room of zeros with the offset in place 0 (`fresh_vector` in Fresh.antt).
use Rattle.std.proofs.lemmas.Grind.{common_steps}
use mathlib.Core.Path.{◌≡◌, refl}
use native.Mathlib.Omega.{arith}
use lib.ListN.{replicate}
use Rattle.floats.specs.Operators.{zero₆₄}
use Rattle.ivector_stats.proofs.Fresh.{fresh_vector}
use Rattle.ivector_stats.proofs.prior_vector.Goals as goal

pub returns : goal.returns
returns c =
    let zeros : c.fill.new.self ≡ replicate c.args.dim zero₆₄ = grind (arith, common_steps, c.fill.ensures) in
    fresh_vector c.args.dim c.args.prior_offset zeros refl
