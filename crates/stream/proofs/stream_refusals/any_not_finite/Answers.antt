-- `any_not_finite` meets its contract, by the invariant in Invariants.antt.
use Prim.Native.Nat.{◌+◌}
use mathlib.Core.Path.{ap, ◌∙◌}
use mathlib.Core.Bool.{Bool, not, ◌||◌}
use lib.ListN.{drop}
use native.Mathlib.Omega.{arith}
use lib.Ieee.Scale.{finite}
use Rattle.loops.specs.Lists.{any_of}
use Rattle.loops.proofs.Tests.{any_more, any_kept}
use Rattle.stream.proofs.stream_refusals.any_not_finite.Goals as goal

pub loop-i-preserved : goal.loop-i-preserved
loop-i-preserved c =
    ap (λ (z : Bool). z || any_of (λ v. not (finite v)) (drop (c.loop-i.i + 1) c.args.x.now)) c.or_not_finite-bad.ensures
    ∙ any_more (λ v. not (finite v)) _ c.loop-i.bad c.args.x.now c.loop-i.i (omega arith) c.loop-i.invariant

pub returns : goal.returns
returns c = any_kept (λ v. not (finite v)) _ c.args.x.now c.loop-i.i (omega arith) c.loop-i.invariant
