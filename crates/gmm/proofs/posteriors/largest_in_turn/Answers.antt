-- `posteriors::largest_in_turn` meets its contract: the largest so far, folded over what is left, is the fold over all (Invariants.antt).
use native.Mathlib.Omega.{arith}
use lib.Ieee.{nan}
use Rattle.loops.proofs.Folds.{fold_turn, fold_end}
use Rattle.gmm.specs.Inner.Posteriors.{above, top}
use Rattle.gmm.proofs.posteriors.largest_in_turn.Goals as goal

pub loop-g-preserved : goal.loop-g-preserved
unfolding top
loop-g-preserved c = fold_turn above nan c.args.loglikes.now c.loop-g.g (omega arith) c.above-max_like.ensures c.loop-g.invariant

pub returns : goal.returns
unfolding top
returns c = fold_end above c.args.loglikes.now c.loop-g.g (omega arith) c.loop-g.invariant
