-- `posteriors::best` meets its contract, by its tests: some above the cutoff (`best_some`), none (`best_none`), or no cutoff (`best_all`, in Choosing.antt).
use native.Mathlib.Omega.{arith}
use Rattle.gmm.proofs.Choosing.{best_some, best_none, best_all}
use Rattle.gmm.proofs.posteriors.best.Goals.{then-min_post+else-n-gt0, else-min_post}
use Rattle.gmm.proofs.posteriors.best.Goals as goal

pub returns-then-n-gt0-clause-best : goal.returns-then-n-gt0-clause-best
returns-then-n-gt0-clause-best c =
    let p = c.requires.places in
    let e = c.gather-n.ensures in
    best_some _ _ _ c.largest-max_like.ensures c.if-min_post.true c.requires.log _ _ _ e.gathered (omega (arith, p, e)) (omega (arith, p, e)) c.if-n-gt0.true

pub returns-clause-best : goal.returns-clause-best
returns-clause-best c =
    let p = c.requires.places in
    let o = c.largest-max_like.ensures in
    let d = c.gather.ensures in
    elim c.if-min_post.branch [
      | then-min_post+else-n-gt0 w ↦ (let e = w.gather-n.ensures in
          best_none _ _ _ o w.if-min_post.true c.requires.log _ _ _ e.gathered (omega (arith, p, e)) (omega (arith, p, e)) w.if-n-gt0.false d.gathered)
      | else-min_post w ↦ best_all _ _ _ o w.if-min_post.false d.gathered
    ]
