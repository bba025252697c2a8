-- What `tables_fit` and `rooms_fit` require is what `record_sound` tested.
use mathlib.Core.Path.{sym, ◌∙◌}
use Rattle.definition.proofs.Ranges.{record_sound_lem}
use Rattle.stream.proofs.Records.{needed}
use Rattle.stream.proofs.stream_refusals.new_refusal.Goals as goal

pub tables_fit-requires : goal.tables_fit-requires
tables_fit-requires c = let k = record_sound_lem _ (sym c.record_sound.ensures ∙ needed _ _ c.need-2.ensures c.in_ok-need-2.was) in (k.options_are, k.dims_are)

pub rooms_fit-fits-requires : goal.rooms_fit-fits-requires
rooms_fit-fits-requires c = (record_sound_lem _ (sym c.record_sound.ensures ∙ needed _ _ c.need-2.ensures c.in_ok-need-2.was)).dims_are
