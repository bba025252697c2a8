-- What a push writes: a frame and a prefix row in their rings.
use mathlib.Core.Path.{◌≡◌, ap, ◌∙◌}
use mathlib.Core.Bool.{false, not, true≢false}
use mathlib.Core.List.{List}
use mathlib.Core.Logic.{◌⊎◌, ⊎_elim}
use Prim.Native.Nat.{ℕ, ◌+◌, ◌≤◌, ◌<◌}
use native.Mathlib.Omega.{arith}
use lib.Dec.{T}
use lib.ListN.{length, set}
use lib.Ieee.{Float, nan, inf, fin, is_nan}
use lib.Ieee.Scale.{finite}
use Rattle.loops.specs.Lists.{build}
use Rattle.loops.specs.Ring.{rows_in, put, place}
use Rattle.loops.proofs.Build.{length_build}
use Rattle.loops.proofs.Fill.{put_turn, put_before, put_past}
use Rattle.loops.proofs.Ring.{rows_apart}
use Rattle.floats.specs.Operators.{◌+₆₄◌, at}
use Rattle.program.specs.Rooms.{ring_at}

-- the sums of a row and a frame: the row lies apart from where they go
module _ (last next : ℕ) (frame rows : List Float) (fits : next + length frame ≤ length rows) (apart : (last + length frame ≤ next) ⊎ (next + length frame ≤ last)) where
  abbrev pub sums : ℕ → Float
  sums d = at rows (last + d) +₆₄ at frame d

  row_stays : (i : ℕ) {s : List Float} → i < length frame → s ≡ put next (build i sums) rows → at s (last + i) ≡ at rows (last + i)
  row_stays i l e =
      ap (λ (r : List Float). at r (last + i)) e
      ∙ ⊎_elim
      (λ (h : last + length frame ≤ next). put_before nan next (build i sums) rows (omega arith) (last + i) (omega arith))
      (λ (h : next + length frame ≤ last). put_past nan next (build i sums) rows (omega arith) (last + i) (omega (arith, length_build i sums))) apart

  pub sums_turn : (i : ℕ) {s : List Float} → i < length frame → s ≡ put next (build i sums) rows
      → set s (next + i) (at s (last + i) +₆₄ at frame i) ≡ put next (build (i + 1) sums) rows
  sums_turn i l e = put_turn next sums i rows (omega arith) e (ap (λ (x : Float). x +₆₄ at frame i) (row_stays i l e))

-- what is finite is no NaN: its cast to an f64 is defined
pub no_nan : (x : Float) → not (finite x) ≡ false → T (not (is_nan x))
unfolding is_nan
no_nan nan e = absurd (true≢false e)
no_nan (inf s) e = tt
no_nan (fin s m k) e = tt

-- ---- a push: row t of a ring, and the row after it

pub place_after_lem : (n w t : ℕ) {a b k : ℕ} → 2 ≤ rows_in n w → k ≡ w → a ≡ place n w t → b ≡ place n w (t + 1) → (a + k ≤ b) ⊎ (b + k ≤ a)
place_after_lem n w t r d e f = rw (d, e, f) (rows_apart n w t (t + 1) (omega arith) (omega arith))

-- the two stores, by places as code comes to them
pub frame-stored : (frames x : List Float) (t : ℕ) {a : ℕ} {out : List Float} → a ≡ place (length frames) (length x) t → out ≡ put a x frames → out ≡ put (place (length frames) (length x) t) x frames
frame-stored frames x t e h = h ∙ ap (λ (k : ℕ). put k x frames) e

abbrev pub row_of : (rows x : List Float) → ℕ → List Float
row_of rows x t = build (length x) (λ d. ring_at (length x) rows t d +₆₄ at x d)

pub row-stored : (rows x : List Float) (t : ℕ) {a b : ℕ} {out : List Float} → a ≡ place (length rows) (length x) t → b ≡ place (length rows) (length x) (t + 1)
    → out ≡ put b (build (length x) (λ d. at rows (a + d) +₆₄ at x d)) rows → out ≡ put (place (length rows) (length x) (t + 1)) (row_of rows x t) rows
unfolding ring_at
row-stored rows x t {b = b} e f h =
    h ∙ ap (λ (k : ℕ). put b (build (length x) (λ d. at rows (k + d) +₆₄ at x d)) rows) e ∙ ap (λ (k : ℕ). put k (row_of rows x t) rows) f
