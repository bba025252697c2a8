-- `skip` meets its contract, by the invariant in Invariants.antt.
use native.Mathlib.Omega.{arith}
use Rattle.lists.proofs.Steps.{draws-none, draws-next, draws_end}
use Rattle.lists.proofs.try_load.skip.Goals as goal

pub loop-i-init : goal.loop-i-init
loop-i-init c = (omega arith, draws-none _)

pub loop-i-preserved : goal.loop-i-preserved
loop-i-preserved c = let l = c.loop-i in (omega arith, draws-next _ l.i l.invariant.1 c.draw-t.ensures)

pub returns : goal.returns
returns c = let l = c.loop-i in draws_end _ l.i _ (omega arith) (omega arith) l.invariant.1
