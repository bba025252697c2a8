-- Its bits are printed; no search is asked.
use Rattle.script.proofs.pattern.U32Pattern.pattern.Goals as goal

pub returns : goal.returns
returns c = c.from.ensures
