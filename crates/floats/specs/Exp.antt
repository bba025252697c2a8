-- Exponential of an f32 ("Kept from the Rust, and written anew").
use Rattle.std.specs.Prelude.{ℕ, zero, suc, ◌+◌, negsuc, Float, if◌then◌else◌}
use Rattle.std.specs.Float.{binary64}
use Rattle.std.specs.Float.Ieee.{lt, of_int}
use Rattle.floats.specs.Operators.{◌+₆₄◌, ◌*₆₄◌, ◌/₆₄◌, zero₃₂, as_f64}
use Rattle.floats.specs.Narrow.{narrowed}

-- 1 + y/k * (1 + y/(k + 1) * (.. (1 + y/(k + d - 1))))
unfoldable pub series : ℕ → ℕ → Float → Float
series zero k y = as_f64 1
series (suc d) k y = as_f64 1 +₆₄ y /₆₄ as_f64 k *₆₄ series d (k + 1) y

-- squared n times
unfoldable pub squares : ℕ → Float → Float
squares zero h = h
squares (suc n) h = squares n (h *₆₄ h)

-- what the exponential is narrowed from: the series of y, squared seven times
abbrev pub wide_exp : Float → Float
wide_exp y = squares 7 (series 16 1 y)

-- 0 below -104
unfoldable pub exp_of : Float → Float
unfolding series squares
exp_of x = if lt x (of_int binary64 (negsuc 103)) then zero₃₂ else narrowed (squares 7 (series 16 1 (x /₆₄ as_f64 128)))
