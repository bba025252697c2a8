-- `is_finite` meets its contract: finite is what less itself is no NaN (`less_itself` in Finite.antt); no search is asked.
use lib.Ieee.{binary64}
use Rattle.floats.proofs.Finite.{less_itself}
use Rattle.floats.proofs.real.F64Real.is_finite.Goals as goal

pub returns : goal.returns
returns c = less_itself binary64 c.args.self
