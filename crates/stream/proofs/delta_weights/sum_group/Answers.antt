-- `sum_group` meets its contract, by the invariant in Invariants.antt (`Sums`, `sums_more`, `sums_end` in Groups.antt).
use mathlib.Core.Path.{◌≡◌}
use native.Mathlib.Omega.{arith}
use Rattle.stream.proofs.Groups.{sums_first, sums_more, sums_other, sums_end}
use Rattle.stream.proofs.delta_weights.sum_group.Goals as goal

pub loop-end-init : goal.loop-end-init
loop-end-init c = sums_first _ _ _ _ c.requires.within

pub returns-then-waiting-end-clause-sum : goal.returns-then-waiting-end-clause-sum
returns-then-waiting-end-clause-sum c =
    sums_other c.args.n _ _ c.args.j c.loop-end.end c.loop-end.weight c.loop-end-test.true c.if-waiting-end.true c.loop-end.invariant

pub loop-end-preserved : goal.loop-end-preserved
loop-end-preserved c = sums_more c.args.n _ _ c.args.j c.loop-end.end c.loop-end.weight c.loop-end-test.true (omega arith) c.loop-end.invariant

pub returns-clause-sum : goal.returns-clause-sum
returns-clause-sum c =
    let loop = c.loop-end in
    let e : loop.end ≡ c.args.n = omega (arith, loop.auto) in
    rw e at (sums_end c.args.n _ _ c.args.j loop.end loop.weight c.loop-end-test.false loop.invariant)
