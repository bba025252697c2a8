-- `batch_sums::add_to_slot` meets its contract: the weight is added at k, and the features times the weight from k * d on (`row_updated` in Rows.antt).
use Rattle.std.proofs.Common.{◌*◌, refl, arith}
use lib.Ieee.{Float}
use Rattle.loops.proofs.Parts.{length_lent}
use Rattle.floats.specs.Operators.{◌+₆₄◌, ◌*₆₄◌, at}
use Rattle.gmm.proofs.Rows.{row_updated}
use Rattle.gmm.proofs.batch_sums.add_to_slot.Goals as goal

pub add_features-requires : goal.add_features-requires
add_features-requires c =
    let a = c.args in
    omega (arith, length_lent (a.k * a.d) a.d _ a.sums.now.sum.now refl c.requires.2, c.requires)

pub returns-clause-sum : goal.returns-clause-sum
returns-clause-sum c =
    let args = c.args in
    row_updated args.d (args.k * args.d) args.sums.now.sum.now (λ a (v : Float). v +₆₄ args.w *₆₄ at args.x.now a) c.requires.2 c.add_features.ensures
