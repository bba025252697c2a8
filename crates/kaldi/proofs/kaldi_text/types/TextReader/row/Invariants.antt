-- The loop's invariant of `row`, `Outlined`: the outline of the whole row is that of the rest from here on, with the numbers counted so far and the last of
-- them.
use mathlib.Core.Path.{◌≡◌}
use Rattle.kaldi.proofs.Rows.{Outlined}
use Rattle.kaldi.proofs.kaldi_text.types.TextReader.row.Given as goal

abbrev pub invariant-loop-len : goal.invariant-loop-len
invariant-loop-len l = record { same_bytes : l.self.src.now ≡ l.fn.self.src.now; outlined : Outlined l.fn.self.src.now l.fn.self.at l.len l.last l.self.at }
