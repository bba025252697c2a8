-- "Frame views": `cmvn_frame` and `lda_frame`, over accessors of the frames, so that they serve a ring and a whole history alike.
use Rattle.std.specs.Prelude.{ℕ, ◌+◌, ◌-◌, ◌*◌, min, List, [], ◌∷◌, ◌++◌, length, Float, if◌then◌else◌}
use Rattle.std.specs.Float.Ieee.{lt}
use Rattle.loops.specs.Loop.{iter}
use Rattle.loops.specs.Lists.{build, flat}
use Rattle.floats.specs.Operators.{◌-₃₂◌, ◌*₃₂◌, ◌+₆₄◌, ◌-₆₄◌, ◌*₆₄◌, ◌/₆₄◌, as_f64, at, sum₃₂}
use Rattle.floats.specs.Narrow.{narrowed}
use Rattle.floats.specs.Extremes.{smaller}
use Rattle.definition.specs.declared.IvectorOptions.{IvectorOptions}
use Rattle.definition.specs.Options.{width}

-- the accepted frames: element d of frame t, and element d of prefix sum t, which is that of the frames before t
pub record Frames : Type 0 where
  pub accepted : ℕ
  pub frame : ℕ → ℕ → Float
  pub prefix : ℕ → ℕ → Float

-- a CMVN state (dim sums, then the count) with the global row added, where its count is below the window
unfoldable pub smoothed : IvectorOptions → ℕ → List Float → List Float → List Float
smoothed o dim global state =
    let window = as_f64 o.cmn_window in
    let scale = smaller (window -₆₄ at state dim) (as_f64 o.global_frames) /₆₄ at global dim in
    if lt (at state dim) window then build (dim + 1) (λ d. at state d +₆₄ scale *₆₄ at global d) else state

-- the sums of the window up to frame t, and their count
unfoldable pub windowed : IvectorOptions → ℕ → Frames → ℕ → List Float
windowed o dim F t =
    let lo = t + 1 - o.cmn_window in
    build dim (λ d. F.prefix (t + 1) d -₆₄ F.prefix lo d) ++ (as_f64 (t + 1 - lo) ∷ [])

-- the CMVN state that a fetch of frame t leaves: that of the window where t is loud (raw c0 above `min_energy`), else the old one; then smoothed
unfoldable pub cmvn_state : IvectorOptions → ℕ → List Float → Frames → ℕ → List Float → List Float
cmvn_state o dim global F t state = smoothed o dim global (if lt o.min_energy (F.frame t 0) then windowed o dim F t else state)

-- the view by that state: raw minus mean
unfoldable pub cmvn_frame : ℕ → Frames → ℕ → List Float → List Float
cmvn_frame dim F t state = build dim (λ d. F.frame t d -₃₂ narrowed (at state d /₆₄ at state dim))

-- the frame at place n of the row spliced around t, the ends clamped to frames 0 and last
unfoldable pub splice_at : IvectorOptions → ℕ → ℕ → ℕ → ℕ
splice_at o accepted t n = min (t + n - o.left_context) (accepted - 1)

-- the raw row
unfoldable pub raw_row : IvectorOptions → ℕ → Frames → ℕ → List Float
raw_row o dim F t = flat (width o) (λ n. build dim (F.frame (splice_at o F.accepted t n)))

-- the normalised row, behind the CMVN state that its fetches leave: a repeated frame is fetched again
unfoldable pub normalised_row : IvectorOptions → ℕ → List Float → Frames → ℕ → List Float → List Float × List Float
normalised_row o dim global F t state =
    iter (width o) (λ n s.
    let u = splice_at o F.accepted t n in
    let state' = cmvn_state o dim global F u s.0 in
    (state', s.1 ++ cmvn_frame dim F u state')) (state, [])

-- the LDA of a spliced row, d rows: from the offset
unfoldable pub lda_frame : ℕ → List Float → List Float → List Float → List Float
lda_frame d lda_t lda_offset row = build d (λ r. sum₃₂ (at lda_offset r) (length row) (λ c. at lda_t (c * d + r) *₃₂ at row c))
