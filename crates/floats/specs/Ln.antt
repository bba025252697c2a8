-- Logarithm ("Kept from the Rust, and written anew"): of v = m * 2 ^ e with 1 ≤ m < 2, by the series in (m - 1) / (m + 1).
use Rattle.std.specs.Prelude.{ℕ, zero, suc, ◌+◌, ◌-◌, ◌^◌, true, false, ℤ, pos, negsuc, ◌==◌, Float, if◌then◌else◌}
use Rattle.std.specs.Float.{nan, inf, fin, binary64}
use Rattle.std.specs.Float.Ieee.{minus, size, round, of_int}
use Rattle.floats.specs.Operators.{◌+₆₄◌, ◌-₆₄◌, ◌*₆₄◌, ◌/₆₄◌, f64, as_f64}
use Rattle.floats.specs.Narrow.{narrowed}

-- 1/k + q * (1/(k + 2) + q * (.. 1/(k + 2 d)))
unfoldable pub chained : ℕ → ℕ → Float → Float
chained zero k q = as_f64 1 /₆₄ as_f64 k
chained (suc d) k q = as_f64 1 /₆₄ as_f64 k +₆₄ q *₆₄ chained d (k + 2) q

-- of m and e: 3fe6.. is LN2, and the chain ends at k = 35
unfoldable pub ln_sum : Float → Float → Float
unfolding chained
ln_sum m e =
    let s = (m -₆₄ as_f64 1) /₆₄ (m +₆₄ as_f64 1) in
    e *₆₄ f64 0x3fe6_2e42_fefa_39ef +₆₄ as_f64 2 *₆₄ s *₆₄ chained 17 1 (s *₆₄ s)

-- e + z
abbrev pub plus : ℤ → ℕ → ℤ
plus (pos k) z = pos (k + z)
plus (negsuc k) z = minus z (suc k)

-- m * 2 ^ e is m / 2 ^ z * 2 ^ (e + z), and 1 ≤ m / 2 ^ z < 2 for the z that is one less than the number of m's digits
unfoldable pub ln_of : Float → Float
unfolding ln_sum
ln_of nan = nan
ln_of (inf s) = if s then nan else inf s
ln_of (fin s m e) =
    let z = size m - 1 in
    if m == 0 then inf true else if s then nan else ln_sum (round binary64 false m (2 ^ z)) (of_int binary64 (plus e z))

-- the f32 logarithm widens, then narrows
abbrev pub ln_narrow : Float → Float
ln_narrow x = narrowed (ln_of x)
