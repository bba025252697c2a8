-- `leading::slide` meets its contract: a turn by `slid_next`, the end by `slid_end` (Sliding.antt).
use native.Mathlib.Omega.{arith}
use borrow.Author.Rules.{rules}
use Rattle.gmm.proofs.Sliding.{slid_next, slid_end}
use Rattle.gmm.proofs.leading.slide.Goals as goal

pub loop-j-preserved : goal.loop-j-preserved
loop-j-preserved g c =
    let l = c.loop-j in
    record { long = search rules; rest = slid_next _ _ _ _ _ c.loop-j-test.true (omega arith) c.index-room-j.is l.invariant.rest }

pub returns : goal.returns
returns g c = slid_end _ _ _ _ c.loop-j-test.false c.loop-j.invariant.rest
