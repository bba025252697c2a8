-- The first byte, and what stands behind the second; no search is asked.
use Rattle.script.proofs.words.Words.letter.Goals as goal

pub returns-clause-letter : goal.returns-clause-letter
returns-clause-letter c = c.byte_at-letter.ensures

pub returns-clause-behind : goal.returns-clause-behind
returns-clause-behind c = c.after-self.ensures
