-- How many rows a room has, without a division.
use mathlib.Core.Path.{◌≡◌}
use Prim.Native.Nat.{ℕ, ◌+◌, ◌*◌, ◌/◌, ◌≤◌, ◌<◌}
use native.Mathlib.Nat.{div-lt_iff_lt-mul, le-div_iff_mul-le}
use native.Mathlib.Omega.{arith}
use Rattle.definition.specs.Machine.{frames_held, rows_held}

-- fewer than n rows of d, or n at least
module _ (a d n : ℕ) (some : 0 < d) where
  pub rows_under : a < n * d → a / d < n
  rows_under h = (div-lt_iff_lt-mul some).1 h

  pub rows_reach : n * d ≤ a → n ≤ a / d
  rows_reach h = (le-div_iff_mul-le some).1 h

-- a room that holds n rows and has no place for one more
module _ (a d : ℕ) (some : 0 < d) {n held : ℕ} (e : n ≡ held) where
  pub full_rows : held ≤ a / d → a < (n + 1) * d → held ≡ a / d
  full_rows l h = omega (arith, rows_under a d (n + 1) some h)

-- no more frames are held than were accepted, nor rows than one more
pub frames-few : (a m : ℕ) {n : ℕ} → n ≡ frames_held a m → n ≤ a
unfolding frames_held
frames-few a m e = omega arith

pub rows_few : (w a m : ℕ) {n : ℕ} → n ≡ rows_held w a m → n ≤ a + 1
unfolding rows_held
rows_few w a m e = omega arith
