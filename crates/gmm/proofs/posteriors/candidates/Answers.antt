-- `posteriors::candidates` meets its contract: what is collected, with the likelihoods in the place of the differences (`likely_collects` in Likely.antt).
use native.Mathlib.Omega.{arith}
use Rattle.gmm.proofs.Likely.{likely_collects}
use Rattle.gmm.proofs.posteriors.candidates.Goals as goal

pub returns-clause-collected : goal.returns-clause-collected
returns-clause-collected c =
    let a = c.args in
    let q = c.requires in
    let e = c.collect-more.ensures in
    let r = c.collect-more.result in
    let n = c.collect-more.new in
    let g = c.collect-more.auto.gauss in
    let k = c.collect-more.auto.likes in
    likely_collects a.cutoff a.max_like a.loglikes.now a.g a.first r.next r.count a.gauss.now n.gauss a.likes.now n.likes c.make_likely.new.likes e.places.0 q.0 (omega (arith, q))
    (omega (arith, e.places, g)) (omega (arith, e.places, q, k)) (omega (arith, e.places, q, k, c.make_likely.auto.likes)) e.collected c.make_likely.ensures
