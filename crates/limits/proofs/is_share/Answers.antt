-- `is_share` meets its contract: where the first test holds the second decides; no search is asked.
use mathlib.Core.Path.{sym}
use Rattle.limits.proofs.Listed.{and_skip}
use Rattle.limits.proofs.is_share.Goals as goal

pub returns-then-p : goal.returns-then-p
returns-then-p c = sym (and_skip _ _ c.if-p.true)
