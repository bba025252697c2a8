-- What an answer of a reader says, with the place where the reader then stands, as the definition's parsers have it.
use Rattle.std.specs.Prelude.{ℕ, List, Result, Ok, Err, Float}
use Rattle.std.specs.Borrow.{Bor}
use Rattle.std.specs.Float.{Format, binary64}
use Rattle.definition.specs.Reader.{Got, read, refused, numbers}
use Rattle.definition.specs.Kaldi as K
use Rattle.definition.specs.Number.{number_of}
use Rattle.definition.specs.declared.refusal.Refusal.{Refusal}
use Rattle.kaldi.specs.declared.kaldi_io.blocks.Numbers.{Numbers}
use Rattle.kaldi.specs.declared.kaldi_io.blocks.Matrix.{Matrix}
use Rattle.kaldi.specs.declared.kaldi_io.blocks.Packed.{Packed}
use Rattle.kaldi.specs.Widths.{format_of}

-- what f makes of the value, or the refusal's number
abbrev pub parsed : {A B : Type 0} → (A → B) → Result A Refusal → ℕ → Got B
parsed f (Ok a) at = read (f a) at
parsed f (Err e) at = refused (number_of e)

-- the same of an item that is given with the place behind it
abbrev pub parsed_at : {A B : Type 0} → (A → B) → Result (A × ℕ) Refusal → Got B
parsed_at f (Ok r) = read (f r.0) r.1
parsed_at f (Err e) = refused (number_of e)

-- of one that is passed over: the place behind it
abbrev pub passed : Result ℕ Refusal → Got (Unit {0})
passed (Ok next) = read tt next
passed (Err e) = refused (number_of e)

abbrev pub as_read : {A : Type 0} → A → A
as_read a = a

-- the bytes behind a reference
abbrev pub list_of : Bor (List ℕ) → List ℕ
list_of b = b.now

-- as a table of a format keeps them
abbrev pub numbers_in : Format → Numbers → List Float
numbers_in f s = numbers f (format_of s.width) s.count s.bytes.now

abbrev pub matrix_in : Format → Matrix → K.Matrix
matrix_in f m = record { rows = m.rows; cols = m.cols; nums = numbers_in f m.numbers }

abbrev pub packed_in : Packed → K.Packed
packed_in m = record { rows = m.dim; nums = numbers_in binary64 m.numbers }
