-- `chain` gives the chain of 17 terms from 1 on, `chained 17 1 q`: the steps of the loop, by Series.antt.
use Rattle.floats.proofs.Series.{chain_first, chain_next}
use Rattle.floats.proofs.chain.Goals as goal

pub loop-n-init : goal.loop-n-init
loop-n-init c = chain_first c.args.q

pub loop-n-preserved : goal.loop-n-preserved
loop-n-preserved c = let l = c.loop-n in chain_next c.args.q l.h c.from.result l.n c.loop-n-test.true l.auto.n l.invariant c.from.ensures
