-- `pushes_of` meets its contract, by the invariant in Invariants.antt.
use native.Mathlib.Omega.{arith}
use Rattle.loops.proofs.Loop.{at_end}
use Rattle.lists.specs.Draws.{drawing_at}
use Rattle.lists.proofs.Places.{placed_none, placed_next}
use Rattle.lists.proofs.try_load.pushes_of.Goals as goal

pub loop-i-init : goal.loop-i-init
loop-i-init c = (omega arith, placed_none _ _)

pub next_place-p-requires : goal.next_place-p-requires
next_place-p-requires c = omega (arith, c.loop-i.invariant.1.few, c.loop-i-test.true, c.requires)

pub loop-i-preserved : goal.loop-i-preserved
loop-i-preserved c =
    let l = c.loop-i in
    let a = c.args in
    let r = c.next_place-p.ensures in
    (omega arith, placed_next a.dim a.seed l.i l.p c.next_place-p.result l.invariant.1 r.0 r.1)

pub returns : goal.returns
returns c =
    let l = c.loop-i in
    let a = c.args in
    (at_end (λ k. (drawing_at a.dim a.seed k).pushes) l.i a.count (omega arith) (omega arith) l.invariant.1.pushes_are, omega (arith, l.invariant.1.few))
