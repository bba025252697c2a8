-- What the check of the CMVN text says: a refusal's number, or the first row and the next position, as the definition's parsers have them.
-- The numbers stay in the bytes s, and an answer says where.
use Rattle.std.specs.Prelude.{◌≡◌, Result, Ok, Err, List, [], ℕ, ◌≤◌, length, Float}
use Rattle.definition.specs.declared.refusal.Refusal.{Refusal}
use Rattle.definition.specs.Number.{number_of}
use Rattle.definition.specs.Reader.{Got, read, refused}
use Rattle.definition.specs.Text.{line}
use Rattle.kaldi.specs.declared.kaldi_text.Cmvn.{Cmvn}

-- the numbers of a row that was read
unfoldable pub cells : Got (List Float) → List Float
cells (read xs next) = xs
cells (refused r) = []

abbrev pub cmvn_of : List ℕ → Result Cmvn Refusal → Got (List Float)
cmvn_of s (Ok c) = read (cells (line s c.from)) c.next
cmvn_of s (Err e) = refused (number_of e)

-- what a fill has to know: the row is there, and it has 2 .. 65 numbers
pub record RowIn (s : List ℕ) (len from : ℕ) : Type 0 where
  pub end : ℕ
  pub stands : line s from ≡ read (cells (line s from)) end
  pub many : length (cells (line s from)) ≡ len
  pub inside : from ≤ length s
  pub short : length s ≤ 65536
  pub low : 2 ≤ len
  pub high : len ≤ 65

abbrev pub cmvn_in : List ℕ → Result Cmvn Refusal → Type 0
cmvn_in s (Ok c) = RowIn s c.len c.from
cmvn_in s (Err e) = Unit {0}
