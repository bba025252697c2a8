-- The statistics in their slices.
use Rattle.std.specs.Prelude.{◌≡◌, ℕ, length}
use Rattle.definition.specs.Kaldi.{triangle}
use Rattle.definition.specs.Statistics.{Stats}
use Rattle.ivector_stats.specs.declared.Statistics.{Statistics}
use Rattle.ivector_stats.specs.declared.LentStatistics.{LentStatistics}
use Rattle.ivector_stats.specs.Inner.{stats_in}

-- what they say
abbrev pub stats_of : Statistics → Stats
stats_of z = stats_in z.num_frames z.linear.now z.quadratic.now

abbrev pub stats_lent : LentStatistics → Stats
stats_lent z = stats_in z.num_frames z.linear.now z.quadratic.now

-- the rooms are those of vectors of s numbers
abbrev pub StatsFit : ℕ → Statistics → Type 0
StatsFit s z = (length z.linear.now ≡ s) × (length z.quadratic.now ≡ triangle s)

-- they are still those that were lent, and as long
abbrev pub SameStats : Statistics → Statistics → Type 0
SameStats old new =
    (new.linear.ghost_name ≡ old.linear.ghost_name) × (new.quadratic.ghost_name ≡ old.quadratic.ghost_name)
    × (length new.linear.now ≡ length old.linear.now) × (length new.quadratic.now ≡ length old.quadratic.now)
