-- The loop's invariant of `fill_row`: the rest of the row stands where the reader is, and the first i places hold its first i numbers.
use mathlib.Core.Path.{◌≡◌}
use Prim.Native.Nat.{◌-◌}
use lib.ListN.{length, drop}
use Rattle.loops.specs.Inner.{fill}
use Rattle.floats.specs.Operators.{at}
use Rattle.definition.specs.Reader.{read}
use Rattle.definition.specs.Text.{row, line}
use Rattle.kaldi.specs.Inner.KaldiIoAnswers.{place_of}
use Rattle.kaldi.specs.Inner.KaldiTextAnswers.{cells}
use Rattle.kaldi.proofs.kaldi_text.fill_row.Given as goal

abbrev pub invariant-loop-i : goal.invariant-loop-i
invariant-loop-i l = record {
  same_length : length l.out ≡ length l.initial.out;
  same_bytes : l.r.src.now ≡ l.s;
  rest : row (66 - l.i) l.s l.r.at ≡ read (drop l.i (cells (line l.s l.from))) (place_of (line l.s l.from));
  filled : l.out ≡ fill l.i (at (cells (line l.s l.from))) l.initial.out;
}
