-- Rows of numbers in a lent room, and rings of rows: a new row takes the place of one that is gone.
use Rattle.std.specs.Prelude.{List, ◌++◌, ℕ, ◌+◌, ◌*◌, ◌/◌, ◌%◌, length, take, drop}

-- how many whole rows, each `width` wide, a room of n numbers has
abbrev pub rows_in : ℕ → ℕ → ℕ
rows_in n width = n / width

-- where row t of a ring of n numbers begins
unfoldable pub place : ℕ → ℕ → ℕ → ℕ
place n width t = t % rows_in n width * width

-- a room with xs from place a on
unfoldable pub put : {A : Type 0} → ℕ → List A → List A → List A
put a xs room = take a room ++ (xs ++ drop (a + length xs) room)
