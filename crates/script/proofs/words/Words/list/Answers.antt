-- As many items as the number in front says are read into the room, and so many places of it are given; no search is asked.
use Rattle.std.proofs.Common.{ℕ, List, take, ap, ◌∙◌}
use Rattle.script.specs.Words.{value_at_front, items_read, behind_items}
use Rattle.script.proofs.words.Words.list.Goals as goal

pub returns-clause-items : goal.returns-clause-items
returns-clause-items g c =
    let item = g.T.Item.item in
    let behind = g.T.Item.behind in
    let room = c.args.room.now in
    let count = value_at_front 10 c.args.self.now.rest.now in
    c.front.ensures
    ∙ ap (take c.number-n.result) c.fill.ensures.items
    ∙ ap (λ (n : ℕ). take n (items_read item behind c.number-n.new.self.rest.now n room)) c.number-n.ensures.value
    ∙ ap (λ (l : List ℕ). take count (items_read item behind l count room)) c.number-n.ensures.behind

pub returns-clause-behind : goal.returns-clause-behind
returns-clause-behind g c =
    let behind = g.T.Item.behind in
    c.fill.ensures.behind
    ∙ ap (behind_items behind c.number-n.new.self.rest.now) c.number-n.ensures.value
    ∙ ap (λ (l : List ℕ). behind_items behind l (value_at_front 10 c.args.self.now.rest.now)) c.number-n.ensures.behind
