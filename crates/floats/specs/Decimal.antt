-- The float of a text number ("Model bytes", and the settings of request 1): the one nearest to ±m * 10 ^ (up - down), a tie to the even one.
use Rattle.std.specs.Prelude.{ℕ, ◌-◌, ◌*◌, ◌^◌, Bool, nat_le, Float, if◌then◌else◌}
use Rattle.std.specs.Float.{Format, binary32, binary64}
use Rattle.std.specs.Float.Ieee.{round}

unfoldable pub scaled : Format → Bool → ℕ → ℕ → ℕ → Float
scaled f minus m up down = if nat_le down up then round f minus (m * 10 ^ (up - down)) 1 else round f minus m (10 ^ (down - up))

-- a text number's power of ten is at most this, either way: the format holds each of 10 ^ 0 .. 10 ^ tens f
abbrev pub tens : Format → ℕ
tens binary32 = 10
tens binary64 = 22
