-- `leading::finish` meets its contract: what is left out does not count (`sieved_all` in Sieving.antt).
use mathlib.Core.Path.{ap, ◌∙◌}
use mathlib.Core.List.{List}
use native.Mathlib.Omega.{arith}
use lib.ListN.{take}
use Rattle.definition.specs.Posteriors.{Post}
use Rattle.gmm.specs.Inner.Leading.{posts_in, into}
use Rattle.gmm.proofs.Sieving.{sieved_all}
use Rattle.gmm.proofs.Ordering.{falls_ordered}
use Rattle.gmm.proofs.leading.finish.Goals as goal

pub returns-clause-finished : goal.returns-clause-finished
returns-clause-finished c =
    let a = c.args in
    let q = c.requires in
    let l : List Post = posts_in a.holding.ordered a.chosen.now.gauss.now a.chosen.now.posts.now in
    let o = falls_ordered a.holding.ordered a.chosen.now.gauss.now a.chosen.now.posts.now (omega (arith, q.holds.few, q.places)) (omega (arith, q.holds.few, q.places)) q.holds.in_order in
    let e = c.choose-last.ensures in
    c.order.ensures.ordered ∙ ap (λ (r : List Post). take a.num_gselect (into l r)) e.chosen ∙ sieved_all a.num_gselect _ l _ o e.enough
