-- What a row of a table is times: what a closure gives of a number; and the row.
use Rattle.std.specs.Prelude.{◌≡◌, List, ℕ, ◌*◌, take, drop, Float}

-- every answer of a closure is f of its number
abbrev pub Gives : (Float → Float → Type 0) → (Float → Float) → Type 0
Gives post f = (v r : Float) → post v r → r ≡ f v

-- row k of a table, n wide
unfoldable pub row : ℕ → List Float → ℕ → List Float
row n table k = take n (drop (k * n) table)
