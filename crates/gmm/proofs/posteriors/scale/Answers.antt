-- `posteriors::scale` meets its contract: each place is made from its old value alone (`iter_fill` in loops/proofs/Fill.antt).
use mathlib.Core.Path.{◌∙◌}
use native.Mathlib.Omega.{arith}
use lib.Ieee.{Float, nan}
use lib.ListN.{length}
use Rattle.loops.proofs.Loop.{iter_end, iter_none, iter_next}
use Rattle.loops.proofs.Fill.{iter_fill}
use Rattle.floats.specs.Operators.{◌*₃₂◌}
use Rattle.gmm.proofs.posteriors.scale.Goals as goal

pub loop-p-init : goal.loop-p-init
loop-p-init c = iter_none _ _

pub loop-p-preserved : goal.loop-p-preserved
loop-p-preserved c = iter_next _ _ _ c.loop-p.invariant

pub returns : goal.returns
returns c =
    let a = c.args in
    iter_end _ _ _ (length a.posts.now) (omega arith) (omega arith) c.loop-p.invariant ∙ iter_fill nan (λ k (x : Float). x *₃₂ a.v) (length a.posts.now) a.posts.now (omega arith)
