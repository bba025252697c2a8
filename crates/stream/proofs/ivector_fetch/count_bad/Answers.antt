-- `count_bad` meets its contract: one more exactly where the test of `is_finite` fails.
use mathlib.Core.Path.{refl, sym, ◌∙◌}
use native.Mathlib.Omega.{arith}
use Rattle.loops.proofs.Choose.{choose_true, choose_false}
use Rattle.stream.proofs.ivector_fetch.count_bad.Goals as goal

pub returns-then-is_finite : goal.returns-then-is_finite
returns-then-is_finite c = (choose_true _ (sym c.is_finite.ensures ∙ c.if-is_finite.true) refl, omega arith)

pub returns : goal.returns
returns c = (choose_false _ (sym c.is_finite.ensures ∙ c.if-is_finite.false) refl, omega arith)
