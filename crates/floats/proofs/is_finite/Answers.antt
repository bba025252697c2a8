-- `is_finite` meets its contract, which is that of the width's own; no search is asked.
use Rattle.floats.proofs.is_finite.Goals as goal

pub returns : goal.returns
returns g c = c.is_finite.ensures
