-- `fill` meets its contract, by the invariant in Invariants.antt and the laws of `put` (loops/proofs/Fill.antt).
use borrow.Author.Rules.{rules}
use mathlib.Core.Path.{refl}
use native.Mathlib.Omega.{arith}
use Rattle.loops.proofs.Fill.{puts, put_turn, put_end}
use Rattle.rounds.proofs.silence_weighting.fill.Goals as goal

pub loop-i-preserved : goal.loop-i-preserved
loop-i-preserved g c = record { upto = search rules; long = search rules; filled = put_turn _ _ _ _ (omega arith) c.loop-i.invariant.filled refl }

pub returns : goal.returns
returns g c = put_end _ _ _ _ _ (omega arith) (omega arith) c.loop-i.invariant.filled

pub loop-i-init : goal.loop-i-init
loop-i-init g c = search puts
