-- `posteriors::prune` meets its contract: a turn by `prune_turn`; it ends at one that is not below the cutoff (`prune_keep`), or at the last (`prune_end`, all in
-- Pruning.antt).
use mathlib.Core.Path.{refl, ◌∙◌}
use native.Mathlib.Omega.{arith}
use borrow.Author.Rules.{rules}
use Rattle.gmm.proofs.Pruning.{prune_turn, prune_keep, prune_end}
use Rattle.gmm.proofs.posteriors.prune.Goals as goal

pub loop-count-init : goal.loop-count-init
loop-count-init c = (search rules, λ chosen h. refl)

pub loop-count-preserved : goal.loop-count-preserved
loop-count-preserved c =
    let l = c.loop-count in
    let p = c.requires in
    (omega arith, λ chosen h. prune_turn _ _ _ _ _ _ p l.invariant.0 c.loop-count-test.true h c.if-last-cutoff.true ∙ l.invariant.1 chosen h)

pub returns-else-last-cutoff : goal.returns-else-last-cutoff
returns-else-last-cutoff c =
    let l = c.loop-count in
    let p = c.requires in
    (λ chosen h. prune_keep _ _ _ _ _ _ p l.invariant.0 c.loop-count-test.true h c.if-last-cutoff.false ∙ l.invariant.1 chosen h, omega arith)

pub returns : goal.returns
returns c = (λ chosen h. prune_end _ _ _ _ c.loop-count-test.false ∙ c.loop-count.invariant.1 chosen h, omega arith)
