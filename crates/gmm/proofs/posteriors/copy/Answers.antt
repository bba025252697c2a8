-- `posteriors::copy` meets its contract: a turn is `copy_turn` (Likely.antt).
use mathlib.Core.Path.{refl, sym, ◌∙◌}
use native.Mathlib.Omega.{arith}
use Rattle.std.proofs.lemmas.List.{length-set}
use Rattle.gmm.proofs.Rooms.{held_none}
use Rattle.gmm.proofs.Likely.{copy_turn}
use Rattle.gmm.proofs.posteriors.copy.Goals as goal

pub loop-j-init : goal.loop-j-init
loop-j-init c = (omega arith, refl, refl, held_none _ _ ∙ sym (held_none _ _))

pub loop-j-preserved : goal.loop-j-preserved
loop-j-preserved c =
    let l = c.loop-j in
    let v = l.invariant in
    let q = c.requires in
    let a = c.args in (
      omega arith,
      length-set l.gauss l.j _ ∙ v.1,
      length-set l.likes l.j _ ∙ v.2,
      copy_turn l.j a.from_gauss.now l.gauss a.from_likes.now l.likes (omega (arith, q)) (omega (arith, q)) (omega (arith, q, v.1)) (omega (arith, q, v.2)) v.3,
    )
