-- Each step of the rule that makes a frame's number is exact in f32.
use Rattle.std.specs.Prelude.{◌≡◌, ℕ, ◌+◌, ◌-◌, ◌%◌, ltb, Float}
use Rattle.std.specs.Float.Ieee.Exact.{HasValue}
use Rattle.floats.specs.Operators.{◌-₃₂◌, ◌/₃₂◌, as_f32}
use Rattle.lists.specs.Draws.{number_of}

-- x is finite, and is the rational (a - b) / c: its sign that of a - b, its size |a - b| / c; `-` on numbers stops at 0
abbrev pub IsRational : Float → ℕ → ℕ → ℕ → Type 0
IsRational x a b c = HasValue x (ltb a b) (a - b + (b - a)) c

-- whatever was drawn: n, which is result % 2,001; n - 1,000; (n - 1,000) / 8
pub record Exact (r : ℕ) : Type 0 where
  pub whole : IsRational (as_f32 (r % 2001)) (r % 2001) 0 1
  pub less : IsRational (as_f32 (r % 2001) -₃₂ as_f32 1000) (r % 2001) 1000 1
  pub by_eight : IsRational ((as_f32 (r % 2001) -₃₂ as_f32 1000) /₃₂ as_f32 8) (r % 2001) 1000 8
  -- and that is the number
  pub number_is : number_of r ≡ (as_f32 (r % 2001) -₃₂ as_f32 1000) /₃₂ as_f32 8

abbrev pub NumbersExact : Type 0
NumbersExact = (r : ℕ) → Exact r
