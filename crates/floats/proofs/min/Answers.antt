-- `min` gives `smaller`, by its two tests (`past_nan`, `the_other`, `the_first` in Extremes.antt); no search is asked.
use Rattle.floats.specs.Extremes.{smaller}
use Rattle.floats.proofs.Extremes.{past_nan, the_other, the_first}
use Rattle.floats.proofs.min.Goals as goal

pub returns-then-ne : goal.returns-then-ne
unfolding smaller
returns-then-ne g c = past_nan _ _ _ (g.met.W.Arithmetic.eq_is c.args.a c.args.a) c.ne.ensures c.if-ne.true

pub returns-then-lt : goal.returns-then-lt
unfolding smaller
returns-then-lt g c = the_other _ _ _ (g.met.W.Arithmetic.eq_is c.args.a c.args.a) c.ne.ensures c.if-ne.false (g.met.W.Arithmetic.lt_is c.args.b c.args.a) c.lt.ensures c.if-lt.true

pub returns-else-lt : goal.returns-else-lt
unfolding smaller
returns-else-lt g c = the_first _ _ _ (g.met.W.Arithmetic.eq_is c.args.a c.args.a) c.ne.ensures c.if-ne.false (g.met.W.Arithmetic.lt_is c.args.b c.args.a) c.lt.ensures c.if-lt.false
