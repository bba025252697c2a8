-- `new` meets its contract: settings that are not refused go into the record; no search is asked.
use mathlib.Core.Path.{refl}
use Rattle.definition.specs.Silence.{new_table}
use Rattle.rounds.proofs.silence_weighting.new.Goals as goal

pub returns : goal.returns
unfolding new_table
returns c = rw (← c.in_ok-check_settings.ensures) refl
