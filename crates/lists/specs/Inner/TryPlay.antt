-- try_play: words of inner contracts, the tally as totals.
use Rattle.std.specs.Prelude.{max, Result, Ok, Err}
use mathlib.Core.List.{List, map, foldl}
use Rattle.definition.specs.Machine.{Call, Answer}
use Rattle.lists.specs.Inner.TryNotes.{counted, Tally, tally}
use Rattle.definition.specs.declared.refusal.Refusal.{Refusal}
use Rattle.definition.specs.Number.{number_of}
use Rattle.lists.specs.Totals.{kind_of, refusal_of, held_of, Totals, totals_from, no_totals}
use Rattle.lists.specs.declared.try_play.Totals.{Totals as PlayedTotals}

-- after calls and their answers
unfoldable pub tallied : Tally → List Call → List Answer → Tally
tallied s cs rs = tally (foldl counted s.calls (map kind_of cs)) (foldl counted s.refusals (map refusal_of rs)) (foldl max s.most (map held_of rs))

-- what the code says of a play
abbrev pub totals_of : Result PlayedTotals Refusal → Totals
totals_of (Ok s) = totals_from 0 s.calls s.refusals s.greatest
totals_of (Err e) = no_totals (number_of e)
