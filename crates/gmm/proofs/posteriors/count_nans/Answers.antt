-- `posteriors::count_nans` meets its contract: a turn by `count_turn`, the end by `count_end` (Counting.antt); at most g are counted, so that the sum is in range.
use mathlib.Core.Path.{refl}
use native.Mathlib.Omega.{arith}
use lib.Ieee.{ne}
use Rattle.floats.specs.Operators.{at}
use Rattle.gmm.proofs.Counting.{byte-few, count_turn, count_end}
use Rattle.gmm.proofs.posteriors.count_nans.Goals as goal

pub loop-g-init : goal.loop-g-init
loop-g-init c = (omega arith, omega arith)

pub overflow_add-nans : goal.overflow_add-nans
overflow_add-nans c =
    let l = c.loop-g in
    let x = at c.args.loglikes.now l.g in
    omega (arith, byte-few (ne x x), l.invariant.0)

pub loop-g-preserved : goal.loop-g-preserved
loop-g-preserved c =
    let l = c.loop-g in
    let ls = c.args.loglikes.now in
    let x = at ls l.g in
    (omega (arith, byte-few (ne x x), l.invariant.0), count_turn ls l.g l.nans (omega arith) refl l.invariant.1)

pub returns : goal.returns
returns c = count_end c.args.loglikes.now c.loop-g.g c.loop-g.nans (omega arith) c.loop-g.invariant.1
