-- `Square::forward` meets its contract: a row is a step of the definition's loop (`iter_step` in loops/proofs/Loop.antt); the sum of a row is over the row's
-- front and that of y (`less_front` in Cells.antt).
use Rattle.std.proofs.lemmas.Grind.{common_steps}
use mathlib.Core.Path.{◌≡◌, ap}
use Prim.Native.Nat.{◌+◌, ◌*◌, ◌≤◌}
use native.Mathlib.Omega.{arith}
use lib.ListN.{length, set, length-set, replicate}
use lib.Ieee.{Float}
use Rattle.floats.specs.Operators.{◌/₆₄◌, zero₆₄, at}
use Rattle.loops.proofs.Loop.{iter_step, iter_then}
use Rattle.loops.proofs.Cells.{row_in_lem}
use Rattle.definition.specs.Solve.{forward}
use Rattle.algebra.proofs.Cells.{less_front}
use Rattle.algebra.proofs.linear.Square.forward.Goals.{In-loop-i}
use Rattle.algebra.proofs.linear.Square.forward.Goals as goal

row_in : (c : In-loop-i) → c.loop-i.i * c.args.self.n + c.args.self.n ≤ length c.args.self.cells.now
row_in c = row_in_lem c.loop-i.i _ _ _ c.args.self.fits c.loop-i-test.true

pub overflow_mul-row : goal.overflow_mul-row
overflow_mul-row c = omega (arith, row_in (goal.at.overflow_mul-row c).In-loop-i)

pub loop-i-preserved : goal.loop-i-preserved
loop-i-preserved c =
    let a = c.args.self in
    let i = c.loop-i.i in
    let h = c.loop-i.invariant in
    let in_row = row_in (goal.at.loop-i-preserved c).In-loop-i in
    let sum = less_front (at c.args.b.now i) (i * a.n) i a.cells.now (omega (arith, in_row)) c.loop-i.y (omega arith) c.less_products-s.ensures in
    record {
      most = omega arith;
      long = simp length-set h.long;
      rows = iter_step _ _ _ h.rows (ap (λ (s : Float). set c.loop-i.y i (s /₆₄ at a.cells.now (i * a.n + i))) sum);
    }

pub returns : goal.returns
unfolding forward
returns c =
    let zeros : c.fill.new.self ≡ replicate c.args.self.n zero₆₄ = grind (arith, common_steps, c.fill.ensures) in
    iter_then _ _ _ _ c.loop-i.invariant.most c.loop-i-test.false c.loop-i.invariant.rows zeros
