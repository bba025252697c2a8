-- `windows_broken` meets its contract: where the first two tests fail the last decides; no search is asked.
use mathlib.Core.Path.{sym}
use borrow.Author.Tests.{ne_eqb, le-ltb}
use Rattle.loops.proofs.Choose.{or_none}
use Rattle.limits.proofs.Listed.{or_skip}
use Rattle.limits.proofs.windows_broken.Goals as goal

pub returns-else-longest-window : goal.returns-else-longest-window
returns-else-longest-window c =
    let a = c.args in
    let h = c.if-longest-window.false in
    sym (or_skip _ _ (or_none _ _ (ne_eqb a.window 0 h.0) (le-ltb a.longest a.window h.1)))
