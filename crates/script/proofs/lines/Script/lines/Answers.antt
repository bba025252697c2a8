-- They begin at the text's first byte; no search is asked.
use Rattle.std.proofs.Common.{refl}
use Rattle.script.proofs.lines.Script.lines.Goals as goal

pub returns : goal.returns
returns c = refl
