-- `basics::difference` meets its contract. The loop's invariant: the first i places are filled with the differences.
use mathlib.Core.Path.{refl}
use native.Mathlib.Omega.{arith}
use Rattle.loops.proofs.Fill.{fills, fill_turn}
use Rattle.algebra.proofs.basics.difference.Goals as goal

pub loop-i-preserved : goal.loop-i-preserved
loop-i-preserved c =
    let loop = c.loop-i in
    (search fills, search fills, fill_turn _ _ _ (omega arith) loop.invariant.2 refl)

pub loop-i-init : goal.loop-i-init
loop-i-init c = search fills
