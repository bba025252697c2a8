-- The loop of `fill_gconsts`: the constants of the first g Gaussians are in their places.
use Rattle.std.proofs.Common.{◌≡◌, ℕ, ◌<◌}
use Rattle.floats.specs.Operators.{at}
use Rattle.definition.specs.Model.{gconst}
use Rattle.kaldi.specs.Parts.{gmm_in}
use Rattle.model.proofs.ivector_tables.fill_gconsts.Given as goal

abbrev pub invariant-loop-g : goal.invariant-loop-g
invariant-loop-g l = (k : ℕ) → k < l.g → at l.front k ≡ gconst (gmm_in l.gmm) k
