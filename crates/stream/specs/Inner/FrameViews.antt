-- What inner functions ask and leave. Not for readers.
use Rattle.std.specs.Prelude.{◌≡◌, ℕ, ◌+◌, ◌-◌, Bool, true, List, [], ◌++◌, length, Float, if◌then◌else◌}
use Rattle.loops.specs.Loop.{iter}
use Rattle.loops.specs.Ring.{place}
use Rattle.loops.specs.Lists.{build}
use Rattle.definition.specs.declared.IvectorOptions.{IvectorOptions}
use Rattle.stream.specs.declared.frame_views.view.StreamView.{StreamView}
use Rattle.stream.specs.declared.frame_views.view.Places.{Places}
use Rattle.definition.specs.Views.{Frames, cmvn_state, cmvn_frame, splice_at}

-- where frame t begins in a ring of so many numbers, and where the prefix rows at the ends of its window do in another, if it is to be normalised
pub record Begins (window dim : ℕ) (normalized : Bool) (t here high low frames rows : ℕ) : Type 0 where
  pub frame : here ≡ place frames dim t
  pub last : normalized ≡ true → high ≡ place rows dim (t + 1)
  pub first : normalized ≡ true → low ≡ place rows dim (t + 1 - window)

abbrev pub Placed : StreamView → Bool → Places → Type 0
Placed v normalized p = Begins v.options.cmn_window v.dim normalized p.frame p.here p.high p.low (length v.frames.now) (length v.rows.now)

-- a fetch of frame t for a spliced row: the CMVN state that it leaves, and what it adds to the row
unfoldable pub fetched : IvectorOptions → ℕ → List Float → Frames → Bool → ℕ → List Float → List Float
fetched o dim global F normalized t state = if normalized then cmvn_state o dim global F t state else state

unfoldable pub viewed : ℕ → Frames → Bool → ℕ → List Float → List Float
viewed dim F normalized t state = if normalized then cmvn_frame dim F t state else build dim (F.frame t)

-- the row spliced around t, after n of its fetches, behind the CMVN state
unfoldable pub spliced_to : IvectorOptions → ℕ → List Float → Frames → Bool → ℕ → ℕ → List Float → List Float × List Float
spliced_to o dim global F normalized t n state =
    iter n (λ n s.
    let u = splice_at o F.accepted t n in
    let state' = fetched o dim global F normalized u s.0 in
    (state', s.1 ++ viewed dim F normalized u state')) (state, [])
