-- The number in front is decimal, and is passed; no search is asked.
use Rattle.script.proofs.words.UsizeItem.read.Goals as goal

pub returns-clause-item : goal.returns-clause-item
returns-clause-item c = c.number.ensures.value

pub returns-clause-behind : goal.returns-clause-behind
returns-clause-behind c = c.number.ensures.behind
