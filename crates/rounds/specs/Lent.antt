-- What a round is given, as its definition speaks of it.
use Rattle.rounds.specs.Round.{Utterance, Voices}
use Rattle.rounds.specs.declared.trigger.LentUtterance.{LentUtterance}
use Rattle.rounds.specs.declared.trigger.LentVoices.{LentVoices}

abbrev pub utterance_of : LentUtterance → Utterance
utterance_of u = record { start = u.start; numbers = u.numbers.now; phones = u.path.phones.now; starts = u.path.starts.now; ends = u.path.ends.now }

abbrev pub voices_of : LentVoices → Voices
voices_of v = record { count = v.count; enrolled = v.enrolled.now; limit = v.limit }
