-- `input_frame` meets its contract: the number is the definition's; no search is asked.
use mathlib.Core.Path.{refl}
use Rattle.definition.specs.Silence.{input_frame}
use Rattle.rounds.proofs.silence_weighting.Clock.input_frame.Goals as goal

pub returns : goal.returns
unfolding input_frame
returns c = refl
