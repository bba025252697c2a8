-- Places of a table, row after row, each row w wide: element j of row i stands at i * w + j.
use mathlib.Core.Path.{◌≡◌}
use Prim.Native.Nat.{ℕ, ◌+◌, ◌*◌, ◌≤◌, ◌<◌, ◌^◌}
use mir.Syntax.{w64}
use mir.Val.{Fits}
use native.Mathlib.Nat.{suc-mul, add-mul, mul_assoc, mul-le-mul_right}
use native.Mathlib.Omega.{arith}

-- row i lies within n: with this in a loop's invariant, `omega` does each index and each sum of a turn
pub row_in_lem : (i h w n : ℕ) → h * w ≤ n → i < h → i * w + w ≤ n
row_in_lem i h w n l p = omega (arith, mul-le-mul_right w p, suc-mul i w)

pub cell_in : (i j h w n : ℕ) → h * w ≤ n → i < h → j < w → i * w + j < n
cell_in i j h w n l p q = omega (arith, row_in_lem i h w n l p)

pub cell_below : (i j h w : ℕ) → i < h → j < w → i * w + j < h * w
cell_below i j h w p q = cell_in i j h w (h * w) (omega arith) p q

pub cell-fits : (i j h w n : ℕ) → h * w ≤ n → n < 2 ^ 64 → i < h → j < w → Fits w64 (i * w + j)
cell-fits i j h w n l f p q = omega (arith, cell_in i j h w n l p q)

pub row_fits : (i h w n : ℕ) → h * w ≤ n → n < 2 ^ 64 → i < h → Fits w64 (i * w)
row_fits i h w n l f p = omega (arith, row_in_lem i h w n l p)

pub end_fits : (i h w n : ℕ) → h * w ≤ n → n < 2 ^ 64 → i < h → Fits w64 (i * w + w)
end_fits i h w n l f p = omega (arith, row_in_lem i h w n l p)

-- element c of row a of table g, by one place and by three
pub cell_nest : (g h a w c : ℕ) → (g * h + a) * w + c ≡ g * (h * w) + (a * w + c)
cell_nest g h a w c = omega (arith, add-mul (g * h) a w, mul_assoc g h w)

-- for `search (loops, cells)`
pub ruleset cells = (cell_in, cell-fits, row_fits, end_fits, row_in_lem)
