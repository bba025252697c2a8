-- The tables of a GMM.
use Rattle.std.specs.Prelude.{ℕ, ◌*◌, ◌≤◌}

-- g constants, and two tables of m and v numbers, are enough for n Gaussians of d dimensions
abbrev pub GmmFits : ℕ → ℕ → ℕ → ℕ → ℕ → Type 0
GmmFits n d g m v = (n ≤ g) × (n * d ≤ m) × (n * d ≤ v)
