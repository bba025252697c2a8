-- A table's row, and a matrix laid out square.
use Rattle.std.specs.Prelude.{List, ℕ, ◌*◌, take, drop, Float}
use Rattle.loops.specs.Lists.{build, flat}
use Rattle.floats.specs.Operators.{at}
use Rattle.definition.specs.Model.{packed}

-- the first w numbers of row k of a table whose rows stand s apart
unfoldable pub table_row : ℕ → ℕ → List Float → ℕ → List Float
table_row s w table k = take w (drop (k * s) table)

-- the packed matrix a, n wide, column after column; the columns of a symmetric matrix are its rows
unfoldable pub square_of : ℕ → List Float → List Float
square_of n a = flat n (λ i. build n (λ j. at a (packed j i)))
