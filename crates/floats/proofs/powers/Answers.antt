-- `powers` gives the series of 16 terms, `series 16 1 y`: the steps of the loop, by Series.antt.
use Rattle.floats.proofs.Series.{series-first, series-next}
use Rattle.floats.proofs.powers.Goals as goal

pub loop-k-init : goal.loop-k-init
loop-k-init c = series-first c.args.y

pub loop-k-preserved : goal.loop-k-preserved
loop-k-preserved c = let l = c.loop-k in series-next c.args.y l.h c.from.result l.k c.loop-k-test.true l.auto.k l.invariant c.from.ensures
