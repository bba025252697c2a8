-- `leading::staying` meets its contract: a turn by `count_turn`, from none on (`count_none`, both in Keeping.antt).
use native.Mathlib.Omega.{arith}
use Rattle.gmm.proofs.Keeping.{byte-few, count_none, count_turn}
use Rattle.gmm.proofs.leading.staying.Goals as goal

pub loop-j-init : goal.loop-j-init
loop-j-init c = (omega arith, λ gauss h. count_none _ gauss _)

pub loop-j-preserved : goal.loop-j-preserved
loop-j-preserved c =
    let l = c.loop-j in
    (omega (arith, byte-few c.stays_at.result, l.invariant.0), λ gauss h. count_turn c.args.v l.j gauss c.args.posts.now (omega arith) (omega arith) c.stays_at.ensures (l.invariant.1 gauss h))
