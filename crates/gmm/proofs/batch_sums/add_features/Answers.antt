-- `add_features` meets its contract, by the invariant in Invariants.antt.
use Rattle.std.proofs.Common.{set, ap}
use lib.Ieee.{Float, nan}
use Rattle.loops.proofs.Loop.{loops, iter_step}
use Rattle.floats.specs.Operators.{◌+₆₄◌, ◌*₆₄◌, at}
use Rattle.loops.proofs.Fill.{updated}
use Rattle.gmm.proofs.batch_sums.add_features.Goals as goal

pub loop-a-preserved : goal.loop-a-preserved
loop-a-preserved c =
    let loop = c.loop-a in
    let args = c.args in
    let s = loop.row in
    let a = loop.a in
    (search loops, search loops, search loops, iter_step _ _ _ loop.invariant.3 (ap (λ (v : Float). set s a (at s a +₆₄ args.w *₆₄ v)) c.f32_to_f64_with_nan.ensures))

pub returns : goal.returns
returns c =
    let args = c.args in
    let h = c.loop-a.invariant in
    updated nan (λ k (v : Float). v +₆₄ args.w *₆₄ at args.x.now k) _ _ _ h.0 c.loop-a-test.false h.1 h.3
