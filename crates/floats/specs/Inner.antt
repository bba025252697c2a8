-- What inner functions answer: the contracts of the public functions do not name it.
use Rattle.std.specs.Prelude.{◌≡◌, ℕ, ◌+◌, ◌-◌, ◌*◌, ◌/◌, ◌%◌, ◌^◌, ◌<◌, ◌≤◌, min, nat_eq, if◌then◌else◌}
use Rattle.std.specs.Float.{Format, binary64}
use Rattle.std.specs.Float.Ieee.{hid}
use Rattle.std.specs.Float.Ieee.Nearest.{closest}

-- the digits of the pattern a, which has no sign: with the leading one where the exponent's field is not 0
abbrev pub digits : Format → ℕ → ℕ
digits f a = (if nat_eq (a / hid f) 0 then 0 else hid f) + a % hid f

-- its value, in units of the format's smallest one
abbrev pub units_of : Format → ℕ → ℕ
units_of f a = digits f a * 2 ^ (a / hid f - 1)

-- the pattern of the f32, by the pattern a of the f64, both without sign: a's digits stand k places above the smallest f64's, and the f32 drops k - 896 digits of its whole part
unfoldable pub mag_bits : ℕ → ℕ
mag_bits a = let k = a / 2 ^ 52 - 1 in min ((k - 896) * 2 ^ 23 + closest (digits binary64 a) (2 ^ (29 + (896 - k)))) (255 * 2 ^ 23)

-- q has all its digits, and q * 2 ^ e is the value of the pattern a, in units of 2 ^ -1200
pub record IsSplit (a q e : ℕ) : Type 0 where
  pub value : q * 2 ^ e ≡ units_of binary64 a * 2 ^ 126
  pub full : 2 ^ 52 ≤ q
  pub top : q < 2 ^ 53
  pub low : 74 ≤ e
  pub high : e < 2172
