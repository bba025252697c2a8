-- `basics::row_after` meets its contract: by the two cases of its test.
use borrow.Author.Tests.{le-leb, lt-leb}
use Rattle.loops.proofs.Choose.{choose_true, choose_false}
use mathlib.Core.Path.{refl}
use Rattle.algebra.proofs.basics.row_after.Goals as goal

pub returns-then-dim-numbers : goal.returns-then-dim-numbers
returns-then-dim-numbers c = choose_true 0 (le-leb _ _ c.if-dim-numbers.true) refl

pub returns-else-dim-numbers : goal.returns-else-dim-numbers
returns-else-dim-numbers c = choose_false _ (lt-leb _ _ c.if-dim-numbers.false) refl
