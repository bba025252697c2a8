-- `is_finite` meets its contract: finite is what less itself is no NaN (`less_itself` in Finite.antt); no search is asked.
use lib.Ieee.{binary32}
use Rattle.floats.proofs.Finite.{less_itself}
use Rattle.floats.proofs.real.F32Real.is_finite.Goals as goal

pub returns : goal.returns
returns c = less_itself binary32 c.args.self
