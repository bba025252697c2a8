-- The loop's invariant of `Words::fill`: after i items the text left is `behind_items` of i, and the room `items_read` of i.
use Rattle.std.proofs.Common.{◌≡◌}
use Rattle.script.specs.Words.{items_read, behind_items}
use Rattle.script.proofs.words.Words.fill.Given as goal

abbrev pub invariant-loop-i : goal.invariant-loop-i
invariant-loop-i g l = record {
  rest : l.self.rest.now ≡ behind_items g.T.Item.behind l.initial.self.rest.now l.i;
  room : l.room ≡ items_read g.T.Item.item g.T.Item.behind l.initial.self.rest.now l.i l.initial.room;
}
