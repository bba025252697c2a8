-- `Words::fill` meets its contract: one item more is a turn of both (Lists.antt).
use Rattle.std.proofs.Common.{ap, ◌∙◌}
use Rattle.loops.proofs.Loop.{iter_step}
use Rattle.script.specs.Words.{items_read, behind_items}
use Rattle.script.proofs.Lists.{room-none, room-turn, rest_none}
use Rattle.script.proofs.words.Words.fill.Goals as goal

pub loop-i-init : goal.loop-i-init
unfolding items_read behind_items
loop-i-init g c = record { rest = rest_none _ _; room = room-none _ _ }

pub loop-i-preserved : goal.loop-i-preserved
unfolding items_read behind_items
loop-i-preserved g c =
    let before = c.loop-i.invariant in
    let read = c.read-x.ensures in
    record {
      rest = iter_step _ _ _ before.rest read.behind;
      room = room-turn _ _ _ before.room c.put.ensures (read.item ∙ ap g.T.Item.item before.rest);
    }
