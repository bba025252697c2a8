-- `posteriors::select` meets its contract: the best, pruned and scaled, are the definition's selection (`selection_is` in Selecting.antt).
use Prim.Native.Nat.{◌≤◌}
use native.Mathlib.Omega.{arith}
use lib.ListN.{length}
use Rattle.gmm.proofs.Selecting.{selection_is}
use Rattle.gmm.proofs.posteriors.select.Goals as goal

pub returns-clause-selected : goal.returns-clause-selected
returns-clause-selected c =
    let p = c.requires.places in
    let b = c.best-n.ensures in
    let r = c.renormalize.ensures in
    let few : c.best-n.result ≤ length c.best-n.new.chosen.gauss.now = omega (arith, p, b) in
    let z = selection_is _ _ _ _ _ _ c.renormalize.new.posts (omega (arith, p, b, r)) (omega (arith, p, b, r, c.renormalize.auto.posts)) b.best (r.scaled _ few) in
    record { here = z.0; most = omega (arith, b.most, r.most); fair = z.1 }
