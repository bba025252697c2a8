-- `linear::cgd_begin` meets its contract: what the four steps leave is the definition's start (`begin_is` in Turns.antt).
use mathlib.Core.Path.{ap, ◌∙◌}
use Prim.Native.Nat.{ℕ}
use lib.Ieee.{neg}
use Rattle.loops.specs.Lists.{build}
use Rattle.loops.proofs.Fill.{fill_whole}
use Rattle.floats.specs.Operators.{at}
use Rattle.algebra.proofs.Turns.{begin_is, dot_whole}
use Rattle.algebra.proofs.linear.cgd_begin.Goals as goal

pub returns-clause-begun : goal.returns-clause-begun
returns-clause-begun c =
    let p = c.difference.new.out in
    let negatives = c.negated.ensures ∙ ap (λ (m : ℕ). build m (λ i. neg (at p i))) (c.difference.auto.out ∙ c.requires.p_long) in
    let long = c.negated.auto.r ∙ c.requires.r_long in
    λ a h. begin_is a _ _ _ (c.times.ensures a h) (c.difference.ensures ∙ fill_whole _ _ _ c.requires.p_long) negatives (dot_whole _ _ _ long long c.dot.ensures) c.new.ensures
