-- The place in an answer of the definition's parsers.
use Rattle.std.specs.Prelude.{ℕ}
use Rattle.definition.specs.Reader.{Got, read, refused}

-- the position that an answer gives, or its refusal's number
abbrev pub place_of : {A : Type 0} → Got A → ℕ
place_of (refused n) = n
place_of (read a next) = next
