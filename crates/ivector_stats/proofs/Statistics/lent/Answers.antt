-- `Statistics::lent` meets its contract: each part is the statistics' own; no search is asked.
use mathlib.Core.Path.{refl}
use Rattle.ivector_stats.proofs.Statistics.lent.Goals as goal

pub returns : goal.returns
returns c = record { num_frames = refl; linear = refl; quadratic = refl }
