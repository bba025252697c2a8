-- `posteriors::renormalize` meets its contract: the total, what is left after pruning, and the scaling are the definition's (`renormalised_is` in Selecting.antt).
use native.Mathlib.Omega.{arith}
use Rattle.gmm.proofs.Folds.{front_sum, front_scaled}
use Rattle.gmm.proofs.Selecting.{renormalised_is}
use Rattle.gmm.proofs.posteriors.renormalize.Goals as goal

pub returns : goal.returns
returns c =
    let p = c.prune-left.ensures in
    record { scaled = renormalised_is _ _ _ c.requires (front_sum _ _ _ c.requires c.total-tot.ensures) p.0 p.1 (front_scaled _ _ _ (omega (arith, c.requires, p.1)) c.scale.ensures); most = p.1 }
