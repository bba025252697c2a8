-- The program's input: three runs of decimal digits parted by blanks, at most 100 bytes in all.
use Rattle.std.specs.Prelude.{ℕ, ◌+◌, List, length, drop, eqb, leb, ltb, if◌then◌else◌}
use Rattle.definition.specs.Reader.{Got, read, refused, Parser, ◌>>=◌, ◌>>◌, give, need, run}
use Rattle.definition.specs.Text.{digits, digits_value, space, skip}
use Rattle.lists.specs.Draws.{size_refusal}

-- blanks, and digits after them, one at least; so that two runs have a blank between them
unfoldable pub a_number : Parser ℕ
a_number = do
  skip space
  d ← digits
  need (ltb 0 (length d)) 33
  give (digits_value 0 d)

-- nothing more but blanks
unfoldable pub closing : Parser (Unit {0})
closing s i = need (leb (length s) (i + run space (drop i s))) 33 s i

-- what is asked for: nothing where it is refused
pub record Asked : Type 0 where
  pub refusal : ℕ
  pub seed : ℕ
  pub dim : ℕ
  pub count : ℕ

abbrev pub asked_for : ℕ → ℕ → ℕ → ℕ → Asked
asked_for r seed dim count = record { refusal = r; seed = seed; dim = dim; count = count }

-- seed, base dimension and count of calls, within their limits
unfoldable pub three_numbers : Parser Asked
three_numbers = do
  seed ← a_number
  dim ← a_number
  count ← a_number
  closing
  need (eqb (size_refusal seed dim count) 0) 33
  give (asked_for 0 seed dim count)

abbrev pub asked : Got Asked → Asked
asked (refused n) = asked_for n 0 0 0
asked (read a i) = a

unfoldable pub asked_of : List ℕ → Asked
asked_of s = if leb (length s) 100 then asked (three_numbers s 0) else asked_for 33 0 0 0
