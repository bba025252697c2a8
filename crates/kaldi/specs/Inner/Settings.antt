-- What the contracts of inner functions name.
use Rattle.std.specs.Prelude.{ℕ, ◌^◌, List, [], length, drop, leb, ltb, Option, Some, None, if◌then◌else◌}
use Rattle.kaldi.specs.Settings.{lines}

-- the lines from a place on: none past the end
unfoldable pub lines_from : List ℕ → ℕ → List (List ℕ)
lines_from s at = if leb at (length s) then lines (drop at s) else []

-- a number below 2 ^ 64
abbrev pub below64 : ℕ → Option ℕ
below64 n = if ltb n (2 ^ 64) then Some n else None
