-- `sqrt` ("Kept from the Rust, and written anew"): correctly rounded, which proofs/Correct.antt shows of this definition.
use Rattle.std.specs.Prelude.{ℕ, zero, suc, ◌+◌, ◌*◌, ◌/◌, ◌^◌, false, ◌==◌, nat_eq, nat_le, Float, if◌then◌else◌}
use Rattle.std.specs.Float.{nan, inf, fin, binary64}
use Rattle.std.specs.Float.Ieee.{up, down, size, round}

-- the whole part of the root of n, for an n below 4 ^ d, digit by digit
unfoldable pub root_by : ℕ → ℕ → ℕ
root_by zero n = 0
root_by (suc d) n = let r = 2 * root_by d (n / 4) in if nat_le (suc r * suc r) n then suc r else r

abbrev pub whole_root : ℕ → ℕ
whole_root n = root_by (size n) n

-- Twice the root of n where that is a whole number, and one more than twice its whole part where it is not: so it lies as 2√n does among the even numbers.
unfoldable pub twice_root : ℕ → ℕ
unfolding root_by
twice_root n = let r = whole_root n in 2 * r + (if nat_eq (r * r) n then 0 else 1)

-- A value times 4 ^ 600 is a whole number n, and √n / 2 ^ 600 is its root. That root of n has 64 digits at least, 11 more than an f64 keeps.
unfoldable pub square_root : Float → Float
unfolding twice_root
square_root nan = nan
square_root (inf s) = if s then nan else inf s
square_root (fin s m e) =
    if m == 0 then fin s m e else if s then nan else round binary64 false (twice_root (m * up e * 2 ^ 1200 / down e)) (2 ^ 601)
