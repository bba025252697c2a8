-- `leading::move_up_by_fours` meets its contract: a turn is four of the walk's, in each room (`back_step` in Sliding.antt).
use mathlib.Core.Path.{refl, sym, ap, ◌∙◌}
use Prim.Native.Nat.{◌+◌, ◌-◌}
use native.Mathlib.Omega.{arith}
use lib.ListN.{length, get_or}
use lib.Ieee.{Float, nan}
use Rattle.floats.specs.Operators.{at}
use Rattle.definition.specs.Posteriors.{ahead}
use Rattle.gmm.proofs.Sliding.{length_slid, back_none, back_in, back_step}
use Rattle.gmm.proofs.leading.move_up_by_fours.Goals as goal

pub loop-j-init : goal.loop-j-init
loop-j-init c =
    let q = c.requires in
    (refl, refl, record { most = omega arith; gauss = back_none 0 _ _ q.0; values = back_none nan _ _ q.1; here = λ h. absurd (omega arith) })

pub loop-j-preserved : goal.loop-j-preserved
loop-j-preserved c =
    let l = c.loop-j in
    let a = c.args in
    let n = a.last + 1 in
    let chosen = a.chosen.now in
    let posts = a.posts.now in
    let t = c.loop-j-test.true in
    let m = l.invariant.2 in
    let low = m.most in
    let q = c.requires in
    let o = q.0 in
    let o2 = q.1 in
    let j = l.j in
    let g1 = back_step 0 j (j - 1) n (get_or chosen j 0) chosen (omega arith) (omega arith) (omega arith) m.gauss (c.move_up.ensures 0) in
    let g2 = back_step 0 (j - 1) (j - 2) n (get_or chosen (j - 1) 0) chosen (omega arith) (omega arith) (omega arith) g1 (c.move_up-then-ahead.ensures 0) in
    let g3 = back_step 0 (j - 2) (j - 3) n (get_or chosen (j - 2) 0) chosen (omega arith) (omega arith) (omega arith) g2 (c.move_up-then-ahead-2.ensures 0) in
    let g4 = back_step 0 (j - 3) (j - 4) n (get_or chosen (j - 3) 0) chosen (omega arith) (omega arith) (omega arith) g3 (c.move_up-then-ahead-3.ensures 0) in
    let p1 = back_step nan j (j - 1) n (at posts j) posts (omega arith) (omega arith) (omega arith) m.values (c.move_up-then-ahead-4.ensures nan) in
    let p2 = back_step nan (j - 1) (j - 2) n (at posts (j - 1)) posts (omega arith) (omega arith) (omega arith) p1 (c.move_up-then-ahead-5.ensures nan) in
    let p3 = back_step nan (j - 2) (j - 3) n (at posts (j - 2)) posts (omega arith) (omega arith) (omega arith) p2 (c.move_up-then-ahead-6.ensures nan) in
    let p4 = back_step nan (j - 3) (j - 4) n (at posts (j - 3)) posts (omega arith) (omega arith) (omega arith) p3 (c.move_up-then-ahead-7.ensures nan) in
    let e = ap (λ (x : Float). ahead (0, a.p) (0, x)) (sym (back_in nan j n (at posts j) posts (j - 4) (omega arith) m.values)) ∙ sym c.ahead.ensures in
    (ap length g4 ∙ length_slid (j - 4) n (get_or chosen (j - 4) 0) chosen, ap length p4 ∙ length_slid (j - 4) n (at posts (j - 4)) posts, record { most = omega arith; gauss = g4; values = p4; here = λ h. e ∙ c.if-ahead.true })

pub returns-else-ahead : goal.returns-else-ahead
returns-else-ahead c = c.loop-j.invariant.2

pub returns : goal.returns
returns c = c.loop-j.invariant.2
