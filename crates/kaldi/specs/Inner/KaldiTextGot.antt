-- What an answer of a reader says, with the place where the reader then stands: a refusal's number, or a value and the next position, as the definition's
-- parsers have them.
use Rattle.std.specs.Prelude.{ℕ, Result, Ok, Err, Option, Some, None, List, length, ltb, get_or, if◌then◌else◌}
use Rattle.definition.specs.declared.refusal.Refusal.{Refusal}
use Rattle.definition.specs.Number.{number_of}
use Rattle.definition.specs.Reader.{Got, read, refused}

-- what f makes of the value, or the refusal's number
abbrev pub parsed : {A B : Type 0} → (A → B) → Result A Refusal → ℕ → Got B
parsed f (Ok a) at = read (f a) at
parsed f (Err e) at = refused (number_of e)

-- the value itself
abbrev pub given : {A : Type 0} → Result A Refusal → ℕ → Got A
given (Ok a) at = read a at
given (Err e) at = refused (number_of e)

-- the byte at a place
abbrev pub peeked : List ℕ → ℕ → Option ℕ
peeked s i = if ltb i (length s) then Some (get_or s i 0) else None
