-- The records of the settings and of calls on a silence table, which the exported calls make themselves; the others are in `answers`.
use Rattle.definition.specs.declared.IvectorOptions.{IvectorOptions}
use Rattle.definition.specs.declared.SilenceAnswer.{SilenceAnswer}
use Rattle.definition.specs.declared.SilenceWeighting.{SilenceWeighting}
use Rattle.definition.specs.Reader.{Got, read, refused}
use Rattle.answers.specs.Answers.{no_options}
use Rattle.exports.specs.declared.model_calls.SettingsAnswer.{SettingsAnswer}
use Rattle.exports.specs.declared.silence_calls.SilenceCounts.{SilenceCounts}

-- the refusal's number, 0 where the options were read
unfoldable pub settings_answer : Got IvectorOptions → SettingsAnswer
settings_answer (read o i) = record { refusal = 0; opts = o }
settings_answer (refused n) = record { refusal = n; opts = no_options }

-- what a call on a silence table answers: the two numbers, and the record behind the reference
abbrev pub counted : SilenceCounts → SilenceWeighting → SilenceAnswer
counted c s = record { refusal = c.refusal; changes = c.changes; silence = s }
