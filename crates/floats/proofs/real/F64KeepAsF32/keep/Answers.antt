-- `keep` narrows, as `narrow` does; no search is asked.
use Rattle.floats.proofs.real.F64KeepAsF32.keep.Goals as goal

pub returns : goal.returns
returns c = c.narrow.ensures
