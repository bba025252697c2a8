-- `basics::add_scaled` meets its contract: a turn by `fill_turn`; the place that is written next has its old value (`fill_ahead`, both in loops/proofs/Fill.antt).
use mathlib.Core.Path.{refl, ap, ◌∙◌}
use Prim.Native.Nat.{ℕ}
use native.Mathlib.Omega.{arith}
use lib.ListN.{length-set}
use lib.Ieee.{Float, nan}
use Rattle.loops.specs.Inner.{fill}
use Rattle.loops.proofs.Fill.{fill_none, fill_turn, fill_end, fill_ahead}
use Rattle.floats.specs.Operators.{◌+₆₄◌, ◌*₆₄◌, at}
use Rattle.algebra.proofs.basics.add_scaled.Goals as goal

pub loop-c-init : goal.loop-c-init
loop-c-init c = (omega arith, refl, refl, fill_none _ _)

pub loop-c-preserved : goal.loop-c-preserved
loop-c-preserved c =
    let loop-test = c.loop-c-test in
    let loop = c.loop-c in
    let args = c.args in
    let sum = ap (λ (x : Float). x +₆₄ args.v *₆₄ at args.row.now loop.c) (fill_ahead nan _ _ _ loop.invariant.3) in
    (omega arith, loop.invariant.1, simp length-set loop.invariant.2, fill_turn _ _ _ (omega arith) loop.invariant.3 sum)

pub returns : goal.returns
returns c =
    let loop = c.loop-c in
    let args = c.args in
    fill_end _ _ _ _ loop.invariant.0 c.loop-c-test.false loop.invariant.3
    ∙ ap (λ (n : ℕ). fill n (λ k. at args.out.now k +₆₄ args.v *₆₄ at args.row.now k) args.out.now) loop.invariant.1
