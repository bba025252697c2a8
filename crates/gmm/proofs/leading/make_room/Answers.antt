-- `leading::make_room` meets its contract: what is left out does not count (`sieved_all`, `enough_chosen` in Sieving.antt), and what is put in order stays the same
-- (`order_done` in Ordering.antt).
use mathlib.Core.Path.{ap, ◌∙◌}
use mathlib.Core.List.{List}
use native.Mathlib.Omega.{arith}
use lib.ListN.{take}
use Rattle.definition.specs.Posteriors.{Post}
use Rattle.gmm.specs.Inner.Leading.{posts_in, into}
use Rattle.gmm.proofs.Sieving.{sieved_all, enough_chosen}
use Rattle.gmm.proofs.Ordering.{falls_ordered, order_done}
use Rattle.gmm.proofs.leading.make_room.Goals as goal

pub returns-then-choice-le48-clause-leading : goal.returns-then-choice-le48-clause-leading
returns-then-choice-le48-clause-leading c =
    let a = c.args in
    let q = c.requires in
    let l : List Post = posts_in a.holding.ordered a.chosen.now.gauss.now a.chosen.now.posts.now in
    let o = falls_ordered a.holding.ordered a.chosen.now.gauss.now a.chosen.now.posts.now (omega (arith, q.holds.few, q.places)) (omega (arith, q.holds.few, q.places)) q.holds.in_order in
    let e = c.choose-choice.ensures in
    ap (λ (r : List Post). take a.num_gselect (into l r)) e.chosen ∙ sieved_all a.num_gselect c.choose-choice.result.bound l (posts_in a.holding.candidates a.gauss.now a.posts.now) o e.enough

pub returns-then-choice-le48-clause-holds : goal.returns-then-choice-le48-clause-holds
returns-then-choice-le48-clause-holds c =
    let a = c.args in
    let q = c.requires in
    let e = c.choose-choice.ensures in
    record {
      candidates = (omega (arith, q.holds.candidates, e.fewer, c.choose-choice.auto.gauss), omega (arith, q.holds.candidates, e.fewer, c.choose-choice.auto.posts));
      few = q.holds.few;
      in_order = q.holds.in_order;
      enough = rw e.chosen (enough_chosen a.num_gselect c.choose-choice.result.bound (posts_in a.holding.candidates a.gauss.now a.posts.now) e.enough);
    }

pub returns-clause-holds : goal.returns-clause-holds
returns-clause-holds c =
    let e = c.order-ordered.ensures in
    record { candidates = (omega arith, omega arith); few = e.most; in_order = e.in_order; enough = tt }

pub returns-clause-leading : goal.returns-clause-leading
returns-clause-leading c =
    let a = c.args in
    let q = c.requires in
    let l : List Post = posts_in a.holding.ordered a.chosen.now.gauss.now a.chosen.now.posts.now in
    let o = falls_ordered a.holding.ordered a.chosen.now.gauss.now a.chosen.now.posts.now (omega (arith, q.holds.few, q.places)) (omega (arith, q.holds.few, q.places)) q.holds.in_order in
    let e = c.choose-choice.ensures in
    order_done a.num_gselect _ c.choose-choice.new.gauss c.choose-choice.new.posts c.order-ordered.ensures.ordered
    ∙ ap (λ (r : List Post). take a.num_gselect (into l r)) e.chosen ∙ sieved_all a.num_gselect c.choose-choice.result.bound l (posts_in a.holding.candidates a.gauss.now a.posts.now) o e.enough
