-- `stream_refusals::put_frame` meets its contract: the numbers put are those of the frame (`build_list`), one more with each turn (`put_turn` in loops/proofs/Fill.antt).
use mathlib.Core.Path.{◌≡◌, refl, ap, ◌∙◌}
use Prim.Native.Nat.{ℕ}
use native.Mathlib.Omega.{arith}
use mathlib.Core.List.{List}
use lib.Ieee.{Float, nan}
use lib.ListN.{length, length-set}
use Rattle.floats.specs.Operators.{at}
use Rattle.loops.specs.Lists.{build}
use Rattle.loops.specs.Ring.{put}
use Rattle.loops.proofs.Build.{build_list}
use Rattle.loops.proofs.Fill.{put_turn}
use Rattle.stream.proofs.stream_refusals.put_frame.Goals as goal

pub loop-d-preserved : goal.loop-d-preserved
loop-d-preserved c = (simp length-set c.loop-d.invariant.0, put_turn _ (at c.args.frame.now) _ _ (omega (arith, c.requires)) c.loop-d.invariant.1 refl)

pub returns : goal.returns
returns c =
    let a = c.args.a in
    let x = c.args.frame.now in
    let z = c.args.frames.now in
    let end : c.loop-d.d ≡ length x = omega arith in
    c.loop-d.invariant.1 ∙ ap (λ (m : ℕ). put a (build m (at x)) z) end ∙ ap (λ (y : List Float). put a y z) (build_list nan x)
