-- `fill_lists` meets its contract, by the invariant in Invariants.antt. A turn is `filled_next` in Places.antt.
use mathlib.Core.Path.{refl, ◌∙◌}
use native.Mathlib.Omega.{arith}
use native.Mathlib.Nat.{mod-lt}
use lib.ListN.{length, length-set}
use Rattle.lists.proofs.Steps.{fits-mul}
use Rattle.lists.proofs.Places.{placed_none, placed_next, room_drawn, filled_none, filled_next, filled_all}
use Rattle.lists.proofs.try_load.fill_lists.Goals as goal

pub loop-i-init : goal.loop-i-init
loop-i-init c = (omega arith, placed_none _ _, filled_none _ _ _ _ _ _, refl, refl, refl, refl)

pub overflow_mul-p : goal.overflow_mul-p
overflow_mul-p c = fits-mul _ _ (omega (arith, c.loop-i.invariant.1.few, c.loop-i-test.true, c.requires.1)) c.requires.0

pub put_numbers-requires : goal.put_numbers-requires
put_numbers-requires c =
    let l = c.loop-i in
    let a = c.args in
    room_drawn a.dim a.seed l.i l.invariant.1 c.draw-s.ensures a.count (length l.frames) c.loop-i-test.true (rw l.invariant.3 c.requires.2)

pub overflow_cast-kinds : goal.overflow_cast-kinds
overflow_cast-kinds c = omega (arith, mod-lt c.draw-s.result {m = 5} (omega arith))

pub bounds-kinds-i : goal.bounds-kinds-i
bounds-kinds-i c = omega (arith, c.loop-i-test.true, c.loop-i.invariant.4, c.requires.3)

pub frame_of-requires : goal.frame_of-requires
frame_of-requires c = omega (arith, c.loop-i.invariant.1.few, c.loop-i-test.true, c.requires.1)

pub bounds-named-i : goal.bounds-named-i
bounds-named-i c = omega (arith, c.loop-i-test.true, c.loop-i.invariant.5, c.requires.4)

pub bounds-weights-i : goal.bounds-weights-i
bounds-weights-i c = omega (arith, c.loop-i-test.true, c.loop-i.invariant.6, c.requires.5)

pub next_place-p-requires : goal.next_place-p-requires
next_place-p-requires c = omega (arith, c.loop-i.invariant.1.few, c.loop-i-test.true, c.requires.1)

pub overflow_step-i : goal.overflow_step-i
overflow_step-i c = omega (arith, c.loop-i-test.true, c.requires.1)

pub loop-i-smaller : goal.loop-i-smaller
loop-i-smaller c = omega (arith, c.loop-i-test.true)

pub loop-i-preserved : goal.loop-i-preserved
loop-i-preserved c =
    let l = c.loop-i in
    let a = c.args in
    let r = c.next_place-p.ensures in
    let h = l.invariant.1 in (
      omega (arith, c.loop-i-test.true),
      placed_next a.dim a.seed l.i l.p c.next_place-p.result h r.0 r.1,
      filled_next a.dim a.seed l.i h c.draw-s.ensures _ _ _ _ l.frames l.kinds l.named l.weights l.invariant.2
          (omega (arith, c.loop-i-test.true, c.requires.3)) (omega (arith, c.loop-i-test.true, c.requires.4)) (omega (arith, c.loop-i-test.true, c.requires.5))
          c.put_numbers.ensures refl c.frame_of.ensures c.weight_of.ensures,
      c.put_numbers.auto.frames ∙ l.invariant.3,
      simp length-set l.invariant.4,
      simp length-set l.invariant.5,
      simp length-set l.invariant.6,
    )

pub shape_of-frames : goal.shape_of-frames
shape_of-frames c = c.loop-i.invariant.3

pub shape_of-kinds : goal.shape_of-kinds
shape_of-kinds c = c.loop-i.invariant.4

pub shape_of-named : goal.shape_of-named
shape_of-named c = c.loop-i.invariant.5

pub shape_of-weights : goal.shape_of-weights
shape_of-weights c = c.loop-i.invariant.6

pub returns : goal.returns
returns c = let l = c.loop-i in filled_all _ _ _ _ _ _ l.i _ l.invariant.0 c.loop-i-test.false l.invariant.2
