-- `leading::choose` meets its contract: those that stay are kept, from the first on.
use mathlib.Core.Path.{◌∙◌, ap}
use mathlib.Core.List.{List, ◌++◌}
use Rattle.definition.specs.Posteriors.{Post}
use Rattle.loops.specs.Lists.{those}
use Rattle.gmm.specs.Inner.Leading.{stays, posts_in}
use Rattle.gmm.proofs.Rooms.{held_none}
use Rattle.gmm.proofs.leading.choose.Goals as goal

pub returns-clause-chosen : goal.returns-clause-chosen
returns-clause-chosen c =
    let a = c.args in
    c.keep-count.ensures.kept ∙ ap (λ (r : List Post). r ++ those (stays c.find_bound-bound.result) (posts_in a.n a.gauss.now a.posts.now)) (held_none a.gauss.now a.posts.now)
