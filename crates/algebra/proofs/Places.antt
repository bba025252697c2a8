-- Where a ring's row begins, as code comes to it with no division.
use Rattle.std.specs.Prelude.{if◌then◌else◌}
use mathlib.Core.Path.{◌≡◌, sym, ap, ◌∙◌}
use Prim.Native.Nat.{ℕ, ◌+◌, ◌-◌, ◌*◌, ◌≤◌, ◌<◌}
use native.Mathlib.Nat.{suc-mul, le-div_iff_mul-le, mod-eq_of_lt}
use native.Mathlib.Omega.{arith}
use lib.Dec.{leb}
use Rattle.loops.specs.Ring.{rows_in, place}
use Rattle.loops.proofs.Ring.{place_next}

-- no row was written over yet
pub place-first : (n w t : ℕ) → 0 < w → t * w + w ≤ n → t * w ≡ place n w t
unfolding place
place-first n w t p h =
    let under : t < rows_in n w = (le-div_iff_mul-le p).1 (omega (arith, suc-mul t w)) in
    ap (λ (k : ℕ). k * w) (sym (mod-eq_of_lt under))

-- the row after row t
pub place-turned : (n w t : ℕ) {a b : ℕ} → 0 < w → 0 < rows_in n w → a ≡ place n w t → b ≡ (if leb (w + w) (n - a) then a + w else 0) → b ≡ place n w (t + 1)
place-turned n w t p q e f = f ∙ ap (λ (z : ℕ). if leb (w + w) (n - z) then z + w else 0) e ∙ place_next n w t p q
