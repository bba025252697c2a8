-- A record whose model's part is sound has dimensions in their ranges, which the tests of the rooms and of the counts require.
use mathlib.Core.Path.{ap}
use mathlib.Core.Bool.{not}
use Rattle.definition.proofs.Ranges.{info_sound_lem}
use Rattle.limits.proofs.Listed.{holds}
use Rattle.limits.proofs.is_foreign.Goals as goal

pub rooms_fit-requires : goal.rooms_fit-requires
rooms_fit-requires c = (info_sound_lem _ (holds c.info_sound.ensures (ap not c.if-not-info_sound.false))).0.dims_are

pub counts_broken-requires : goal.counts_broken-requires
counts_broken-requires c = (info_sound_lem _ (holds c.info_sound.ensures (ap not c.if-not-info_sound.false))).0.dims_are
