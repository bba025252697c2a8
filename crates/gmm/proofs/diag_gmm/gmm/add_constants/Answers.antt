-- `add_constants` meets its contract, by the invariant in Invariants.antt: each place is made from its old value alone (`iter_fill` in loops/proofs/Fill.antt).
use mathlib.Core.Path.{refl, ◌∙◌}
use native.Mathlib.Omega.{arith}
use lib.Ieee.{Float, nan}
use lib.ListN.{length, length-set}
use Rattle.loops.proofs.Loop.{iter_end, iter_next}
use Rattle.loops.proofs.Fill.{iter_fill}
use Rattle.floats.specs.Operators.{◌+₃₂◌, ◌-₃₂◌, ◌*₃₂◌, at, f32}
use Rattle.gmm.proofs.diag_gmm.gmm.add_constants.Goals as goal

pub returns : goal.returns
returns c =
    let l = c.loop-m in
    let a = c.args in
    iter_end _ _ _ (length a.out.now) (omega arith) (omega arith) l.invariant.3
    ∙ iter_fill nan (λ m (s : Float). at a.gconsts.now m +₃₂ s -₃₂ f32 0x3f00_0000 *₃₂ at a.b.now m) (length a.out.now) a.out.now (omega arith)

pub loop-m-preserved : goal.loop-m-preserved
loop-m-preserved c =
    let i = c.loop-m.invariant in
    (omega (arith, c.loop-m-test.true), refl, length-set _ _ _ ∙ i.2, iter_next _ _ _ i.3)
