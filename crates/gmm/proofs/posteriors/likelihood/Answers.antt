-- `posteriors::likelihood` meets its contract: the exponential of both zeros is 1 (`exp_zero` in floats/proofs/Extremes.antt), and below -104 it is 0 (`exp_low`, Series.antt).
use denote.Floats.{passes}
use Rattle.floats.proofs.Extremes.{exp_zero}
use Rattle.floats.proofs.Series.{exp_low}
use Rattle.gmm.proofs.posteriors.likelihood.Goals as goal

pub returns-then-d : goal.returns-then-d
returns-then-d c = exp_zero c.args.d (passes _ c.well_formed.0.1) c.if-d.true

pub returns-then-d-2 : goal.returns-then-d-2
returns-then-d-2 c = exp_low c.args.d c.if-d-2.true

pub returns : goal.returns
returns c = c.exp.ensures
