-- Rows of a ring, as code takes them: the part of a room that is lent from where a row begins is that row. And the places that the code steps through:
-- where a row begins, from where the one before it does.
use Rattle.std.proofs.Common.{◌≡◌, ℕ, ◌+◌, ◌-◌, ◌<◌, ◌≤◌, leb, List, length, take, drop, sym, refl, ap, ◌∙◌, arith, if◌then◌else◌}
use lib.Ieee.{Float, nan}
use Rattle.loops.specs.Lists.{build}
use Rattle.loops.specs.Ring.{rows_in, place}
use Rattle.loops.proofs.Build.{build_part, length_build}
use Rattle.loops.proofs.Parts.{lent_is}
use Rattle.loops.proofs.Ring.{place_in}
use Rattle.algebra.proofs.Places.{place-turned}
use Rattle.program.specs.Rooms.{ring_at}

module _ (w t : ℕ) (room : List Float) {a : ℕ} (e : a ≡ place (length room) w t) (p : 0 < rows_in (length room) w) where
  -- the row ends in the room
  pub row_ends : a + w ≤ length room
  row_ends = rw e (place_in (length room) w t p)

  -- the part that is lent is row t
  pub row_lent : let r = take (a + w - a) (drop a room) in (r ≡ build w (ring_at w room t)) × (length r ≡ w)
  unfolding ring_at
  row_lent =
      let h : take (a + w - a) (drop a room) ≡ build w (ring_at w room t) = lent_is _ w _ room refl ∙ rw e (sym (build_part nan _ w room (place_in (length room) w t p))) in
      (h, ap length h ∙ length_build w _)

-- row v is row t or the one after it
module _ (n w t v : ℕ) {a : ℕ} (some : 0 < w) (p : 0 < rows_in n w) (low : t ≤ v) (high : v ≤ t + 1) (e : a ≡ place n w t) where
  pub stays : v ≤ t → a ≡ place n w v
  stays h = let i : v ≡ t = omega arith in rw i e

  pub steps : {b : ℕ} → t < v → b ≡ (if leb (w + w) (n - a) then a + w else 0) → b ≡ place n w v
  steps h f = let i : v ≡ t + 1 = omega arith in rw i (place-turned n w t some p e f)
