-- `distance` meets its contract, by the invariant in Invariants.antt.
use borrow.Author.Rules.{rules}
use mathlib.Core.Path.{refl}
use Prim.Native.Nat.{◌+◌, ◌*◌}
use native.Mathlib.Omega.{arith}
use Rattle.loops.proofs.Loop.{iter_none, iter_step, iter_end}
use Rattle.rounds.specs.Voice.{distance}
use Rattle.rounds.proofs.Patterns.{float_at}
use Rattle.rounds.proofs.nearest_voice.distance.Goals as goal

pub loop-k-init : goal.loop-k-init
loop-k-init c = (search rules, refl, iter_none _ _)

pub float_from_bits-d : goal.float_from_bits-d
float_from_bits-d c = float_at c.args.vector.now c.loop-k.k c.requires.2 (omega arith)

pub float_from_bits-d-in-loop-k : goal.float_from_bits-d-in-loop-k
float_from_bits-d-in-loop-k c = float_at c.args.enrolled.now (c.args.i * c.args.dim + c.loop-k.k) c.requires.3 (omega arith)

pub loop-k-preserved : goal.loop-k-preserved
loop-k-preserved c = (omega arith, search rules, iter_step _ _ _ c.loop-k.invariant.2 refl)

pub returns : goal.returns
unfolding distance
returns c = iter_end _ _ _ _ (omega arith) (omega arith) c.loop-k.invariant.2
