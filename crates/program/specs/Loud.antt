-- Request 10, "loud speech has no memory": where a frame is held and its c0 is above `min_energy`, its normalised view in the stream is one function
-- of the model, the options, the window in force (request 12) and the frames up to it, whichever calls came first. The view is raw minus mean of one frame, before splice and LDA.
use Rattle.std.specs.Prelude.{◌≡◌, Bool, true, ℕ, ◌+◌, ◌-◌, ◌≤◌, ◌<◌, List, [], length, take, get_or, Float}
use Rattle.std.specs.Float.Ieee.{lt}
use Rattle.floats.specs.Operators.{at}
use Rattle.definition.specs.declared.IvectorInfo.{IvectorInfo}
use Rattle.definition.specs.declared.IvectorOptions.{IvectorOptions}
use Rattle.definition.specs.Model.{Tables, Model, in_force, model_in}
use Rattle.definition.specs.Views.{Frames, smoothed, windowed, cmvn_state, cmvn_frame}
use Rattle.definition.specs.Machine.{all_frames}
use Rattle.program.specs.Rooms.{frames_in, estimate_in}
use Rattle.program.specs.Session.{Program}
use Rattle.program.specs.Played.{Played, ended, took}

-- its c0 is above `min_energy`
abbrev pub is_loud : IvectorOptions → List Float → Bool
is_loud o x = lt o.min_energy (at x 0)

-- the function: the view of a loud frame, which is the last of the frames xs, xs beginning with frame 0. The sums of its window, the global row added
-- where the window is not full, and raw minus mean. No CMVN state goes in.
unfoldable pub loud_view : Model → ℕ → List (List Float) → List Float
loud_view M window xs =
    let o = (in_force M.info window).opts in
    let dim = M.info.dims.base_dim in
    let F = all_frames xs in
    let last = length xs - 1 in
    cmvn_frame dim F last (smoothed o dim M.tables.global_mean_stats (windowed o dim F last))

-- the view of frame u that `cmvn_frame` gives by a CMVN state, in the words of its contract (`frame_views`): that by the state which it leaves
unfoldable pub view_by : IvectorOptions → ℕ → List Float → Frames → ℕ → List Float → List Float
view_by o dim global F u state = cmvn_frame dim F u (cmvn_state o dim global F u state)

module _ (t : Tables) where
  -- in a program's rooms: of frame u as the rings have it, by the window in force and a state
  abbrev pub view_on : Program → ℕ → List Float → List Float
  view_on p u state =
      let s = p.stream in
      view_by (in_force s.info s.window).opts s.info.dims.base_dim (model_in s.info t).tables.global_mean_stats (frames_in s p.rooms.rings) u state

  -- by the state that lies there, which the calls before left
  abbrev pub view_in : Program → ℕ → List Float
  view_in p u = view_on p u (estimate_in p.stream p.rooms.estimate).cmvn

-- frame u of a stream is held, and loud
pub record LoudHeld (i : IvectorInfo) (t : Tables) (s : Played i t) (u : ℕ) : Type 0 where
  pub not_dropped : (ended i t s).stream.mark ≤ u
  pub accepted : u < (ended i t s).stream.accepted
  pub loud : is_loud i.opts (get_or (took i t s) u []) ≡ true

-- after any list of calls on a fresh stream: the view is the function's at frames 0 to u, by the state that the calls left; and by any other, so that
-- it is so in the middle of a fetch, too
abbrev pub LoudAfter : Type 0
LoudAfter =
    (i : IvectorInfo) (t : Tables) (s : Played i t) (u : ℕ)
    → LoudHeld i t s u
    → let v = loud_view (model_in i t) (ended i t s).stream.window (take (u + 1) (took i t s)) in
    (view_in t (ended i t s) u ≡ v) × ((state : List Float) → view_on t (ended i t s) u state ≡ v)

-- so two streams over one model, in any rooms, after any calls, whose first u + 1 frames and whose windows in force are the same have the same view of
-- frame u
abbrev pub LoudAlike : Type 0
LoudAlike =
    (i : IvectorInfo) (t : Tables) (s s' : Played i t) (u : ℕ)
    → LoudHeld i t s u
    → LoudHeld i t s' u
    → (ended i t s).stream.window ≡ (ended i t s').stream.window
    → take (u + 1) (took i t s) ≡ take (u + 1) (took i t s')
    → view_in t (ended i t s) u ≡ view_in t (ended i t s') u
