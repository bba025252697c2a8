-- `LentSums::of` meets its contract: each part is the sums' own; no search is asked.
use mathlib.Core.Path.{refl}
use Rattle.ivector_stats.proofs.LentSums.of.Goals as goal

pub returns : goal.returns
returns c = record { count = refl; seen = refl; tot = refl; sum = refl }
