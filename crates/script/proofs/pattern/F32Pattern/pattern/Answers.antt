-- Its bits are printed; no search is asked.
use Rattle.script.proofs.pattern.F32Pattern.pattern.Goals as goal

pub returns : goal.returns
returns c = c.float_bits.ensures
