-- The ranges that the tables' test requires are two of the record's three tests; where the record is sound the tables decide.
use mathlib.Core.Path.{sym, ◌∙◌}
use Rattle.loops.specs.Lists.{all_of}
use Rattle.loops.proofs.Choose.{and_holds}
use Rattle.definition.specs.Stream.{record_sound, info_sound}
use Rattle.limits.proofs.Listed.{and_skip}
use Rattle.limits.proofs.info_sound.Goals as goal

pub tables_fit-requires : goal.tables_fit-requires
unfolding record_sound all_of
tables_fit-requires c =
    let h = and_holds _ _ (sym c.record_sound.ensures ∙ c.if-record_sound.true) in
    (h.0, (and_holds _ _ h.1).0)

pub returns-then-record_sound : goal.returns-then-record_sound
unfolding info_sound
returns-then-record_sound c = c.tables_fit.ensures ∙ sym (and_skip _ _ (sym c.record_sound.ensures ∙ c.if-record_sound.true))
