-- `Square::backward` meets its contract: a row is a step of the definition's loop (`iter_step` in loops/proofs/Loop.antt), its products are taken off by
-- `less_none`, `less_next` and `less_end` (Cells.antt).
use Rattle.std.proofs.lemmas.Grind.{common_steps}
use mathlib.Core.Path.{◌≡◌, ap}
use Prim.Native.Nat.{◌+◌, ◌-◌, ◌*◌, ◌≤◌}
use native.Mathlib.Omega.{arith}
use lib.ListN.{length, set, length-set, replicate}
use lib.Ieee.{Float}
use Rattle.floats.specs.Operators.{◌/₆₄◌, zero₆₄, at}
use Rattle.loops.proofs.Loop.{iter_step, iter_then}
use Rattle.loops.proofs.Cells.{row_in_lem}
use Rattle.definition.specs.Solve.{backward}
use Rattle.algebra.proofs.Cells.{less_none, less_next, less_end}
use Rattle.algebra.proofs.linear.Square.backward.Goals.{In-loop-k}
use Rattle.algebra.proofs.linear.Square.backward.Goals as goal

-- the row that the loop inside reads from lies in the square
row_in : (c : In-loop-k) → let n = c.args.self.n in (n - 1 - c.loop-t.t + 1 + c.loop-k.k) * n + n ≤ length c.args.self.cells.now
row_in c = row_in_lem (c.args.self.n - 1 - c.loop-t.t + 1 + c.loop-k.k) _ _ _ c.args.self.fits (omega arith)

pub loop-k-init : goal.loop-k-init
loop-k-init c = record { most = omega arith; in_turn = omega arith; row_in = row_in_lem _ _ _ _ c.args.self.fits (omega arith); sum = less_none _ _ _ }

pub overflow_mul-s : goal.overflow_mul-s
overflow_mul-s c = omega (arith, row_in (goal.at.overflow_mul-s c).In-loop-k)

pub overflow_add-s : goal.overflow_add-s
overflow_add-s c = omega (arith, row_in (goal.at.overflow_add-s c).In-loop-k)

pub offset_bounds-self-j : goal.offset_bounds-self-j
offset_bounds-self-j c = omega (arith, row_in (goal.at.offset_bounds-self-j c).In-loop-k)

pub bounds-self-j : goal.bounds-self-j
bounds-self-j c = omega (arith, row_in (goal.at.bounds-self-j c).In-loop-k)

pub loop-k-preserved : goal.loop-k-preserved
loop-k-preserved c =
    let h = c.loop-k.invariant in
    record { most = omega arith; in_turn = h.in_turn; row_in = h.row_in; sum = less_next _ _ _ _ h.sum }

pub loop-t-preserved : goal.loop-t-preserved
loop-t-preserved c =
    let a = c.args.self in
    let g = c.loop-k.invariant in
    let i = a.n - 1 - c.loop-t.t in
    record {
      most = omega arith;
      long = simp length-set c.loop-t.invariant.long;
      rows = iter_step _ _ _ c.loop-t.invariant.rows (ap (λ (s : Float). set c.loop-t.x i (s /₆₄ at a.cells.now (i * a.n + i))) (less_end _ _ _ _ _ g.most c.loop-k-test.false g.sum));
    }

pub returns : goal.returns
unfolding backward
returns c =
    let zeros : c.fill.new.self ≡ replicate c.args.self.n zero₆₄ = grind (arith, common_steps, c.fill.ensures) in
    iter_then _ _ _ _ c.loop-t.invariant.most c.loop-t-test.false c.loop-t.invariant.rows zeros
