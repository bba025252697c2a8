-- Laws of a normalised frame: from what the parts of the code leave to the definitions.
use Rattle.std.proofs.Common.{◌≡◌, ℕ, ◌+◌, ◌-◌, ◌<◌, Bool, true, false, List, length, set, refl, ap, ◌∙◌, if◌then◌else◌}
use lib.Ieee.{Float, nan, lt}
use Rattle.loops.specs.Lists.{build}
use Rattle.loops.specs.Inner.{fill}
use Rattle.loops.proofs.Choose.{choose_true, choose_false}
use Rattle.loops.proofs.Build.{at_build, build_ext}
use Rattle.loops.proofs.Fill.{fill_ext, fill_whole, fill_last}
use Rattle.floats.specs.Operators.{◌-₃₂◌, ◌+₆₄◌, ◌-₆₄◌, ◌*₆₄◌, ◌/₆₄◌, as_f64, at}
use Rattle.floats.specs.Narrow.{narrowed}
use Rattle.floats.specs.Extremes.{smaller}
use Rattle.algebra.proofs.Rows.{whole}
use Rattle.definition.specs.declared.IvectorOptions.{IvectorOptions}
use Rattle.definition.specs.Views.{smoothed, windowed, cmvn_state, cmvn_frame}
use Rattle.program.specs.Rooms.{ring_at, ring_frames}

-- element d of a row that code took
module _ (dim : ℕ) (room : List Float) (t : ℕ) {row : List Float} (e : row ≡ build dim (ring_at dim room t)) where
  row_at : (d : ℕ) → d < dim → at row d ≡ ring_at dim room t d
  row_at d l = ap (λ (s : List Float). at s d) e ∙ at_build nan dim (ring_at dim room t) d l

-- ---- the window

module _ (o : IvectorOptions) (dim accepted t : ℕ) (fs rs x : List Float) {raw : List Float} (some : 0 < dim) (e : raw ≡ build dim (ring_at dim fs t)) where
  loud_at : {b : Bool} → lt o.min_energy (at raw 0) ≡ b → lt o.min_energy (ring_at dim fs t 0) ≡ b
  loud_at h = rw (row_at dim fs t e 0 some) at h

  pub window_true : {lo : ℕ} {high low y : List Float} {v : Float} → length x ≡ dim + 1 → lt o.min_energy (at raw 0) ≡ true → lo ≡ t + 1 - o.cmn_window
      → high ≡ build dim (ring_at dim rs (t + 1)) → low ≡ build dim (ring_at dim rs lo) → y ≡ fill dim (λ d. at high d -₆₄ at low d) x → v ≡ as_f64 (t + 1 - lo)
      → set y dim v ≡ (if lt o.min_energy (ring_at dim fs t 0) then windowed o dim (ring_frames dim accepted fs rs) t else x)
  unfolding windowed
  window_true {lo} {high} {low} {y} {v} l h el eh ew ey ev =
      let g : y ≡ fill dim (λ d. ring_at dim rs (t + 1) d -₆₄ ring_at dim rs (t + 1 - o.cmn_window) d) x =
      ey ∙ fill_ext dim _ _ x (λ d p. rw (row_at dim rs (t + 1) eh d p, row_at dim rs lo ew d p, el)) in
      choose_true x (loud_at h) (fill_last _ dim x v l g ∙ rw (ev, el))

  pub window_false : lt o.min_energy (at raw 0) ≡ false → x ≡ (if lt o.min_energy (ring_at dim fs t 0) then windowed o dim (ring_frames dim accepted fs rs) t else x)
  window_false h = choose_false _ (loud_at h) refl

-- ---- smoothing

module _ (o : IvectorOptions) (dim : ℕ) (global x : List Float) {w : Float} (e : w ≡ as_f64 o.cmn_window) where
  pub smooth_true : {k m : Float} {y : List Float} → length x ≡ dim + 1 → lt (at x dim) w ≡ true → k ≡ as_f64 o.global_frames → m ≡ smaller (w -₆₄ at x dim) k
      → y ≡ fill (length x) (λ d. at x d +₆₄ m /₆₄ at global dim *₆₄ at global d) x → y ≡ smoothed o dim global x
  unfolding smoothed
  smooth_true {k} {m} l t f g h =
      let u : lt (at x dim) (as_f64 o.cmn_window) ≡ true = rw e at t in
      let v : m ≡ smaller (as_f64 o.cmn_window -₆₄ at x dim) (as_f64 o.global_frames) = rw (e, f) at g in
      whole _ (dim + 1) x l h ∙ rw (u, v)

  pub smooth_false : lt (at x dim) w ≡ false → x ≡ smoothed o dim global x
  unfolding smoothed
  smooth_false t = let u : lt (at x dim) (as_f64 o.cmn_window) ≡ false = rw e at t in rw u

-- ---- the frame

module _ (o : IvectorOptions) (dim accepted t : ℕ) (global fs rs x : List Float) where
  pub state_on : {y z : List Float} → y ≡ (if lt o.min_energy (ring_at dim fs t 0) then windowed o dim (ring_frames dim accepted fs rs) t else x) → z ≡ smoothed o dim global y
      → z ≡ cmvn_state o dim global (ring_frames dim accepted fs rs) t x
  unfolding cmvn_state
  state_on e f = f ∙ ap (smoothed o dim global) e

pub frame_on : (dim accepted t : ℕ) (fs rs z out : List Float) {raw r : List Float} → raw ≡ build dim (ring_at dim fs t) → length out ≡ dim
    → r ≡ fill dim (λ d. at raw d -₃₂ narrowed (at z d /₆₄ at z dim)) out → r ≡ cmvn_frame dim (ring_frames dim accepted fs rs) t z
unfolding cmvn_frame
frame_on dim accepted t fs rs z out e l h = h ∙ fill_whole _ dim out l ∙ build_ext dim _ _ (λ d p. rw (row_at dim fs t e d p))
