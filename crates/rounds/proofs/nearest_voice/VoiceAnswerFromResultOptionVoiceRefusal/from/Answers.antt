-- `from` meets its contract: the answer is that of the voice with its refusal as a number; no search is asked.
use mathlib.Core.Path.{ap, ◌∙◌}
use Rattle.rounds.specs.Voice.{voice_answer}
use Rattle.rounds.proofs.nearest_voice.VoiceAnswerFromResultOptionVoiceRefusal.from.Goals as goal

pub returns : goal.returns
returns c = c.voice_answer.ensures ∙ ap voice_answer c.numbered.ensures
