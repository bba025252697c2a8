-- A room with places left holds the whole text; of a full one the last whole line counts (`lines_end`). Laws: Scanning.antt.
use borrow.Author.Rules.{rules}
use Rattle.script.proofs.Scanning.{whole_all, whole_full}
use Rattle.script.proofs.whole_lines.Goals as goal

pub returns-then-n-text : goal.returns-then-n-text
returns-then-n-text c = (whole_all _ _ c.if-n-text.true, search rules)

pub returns : goal.returns
returns c = (whole_full _ _ c.if-n-text.false c.lines_end.ensures.end, c.lines_end.ensures.bound)
