-- What the two widths of a float share, and how a table of one width keeps a number of another.
use Rattle.std.specs.Prelude.{ℕ, Float}
use Rattle.std.specs.Float.{Format, binary32, binary64}
use Rattle.floats.specs.Narrow.{narrowed}

-- one thing for an f32, another for an f64
abbrev pub by_width : {A : Type 0} → A → A → Format → A
by_width a b binary32 = a
by_width a b binary64 = b

-- bytes of a float
abbrev pub byte_width : Format → ℕ
byte_width = by_width 4 8

-- a number that is written at width w, as a table of width f keeps it: an f64 is narrowed for one of f32; an f32 is an f64 as it stands (request 5)
abbrev pub kept_as : Format → Format → Float → Float
kept_as binary32 binary32 x = x
kept_as binary32 binary64 x = narrowed x
kept_as binary64 w x = x
