-- Its bits are printed; no search is asked.
use Rattle.script.proofs.pattern.F64Pattern.pattern.Goals as goal

pub returns : goal.returns
returns c = c.double_bits.ensures
