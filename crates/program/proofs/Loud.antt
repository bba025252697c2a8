-- Request 10: `loud-after`, `loud-alike`. What lies in the rings agrees with the frames taken (`agrees` of `Inv`), on frame u and on the two prefix rows of
-- its window also with frames 0 to u alone (`to_last`); and a loud frame's state is its window's, so that no other state goes in (`view_is`).
use mathlib.Core.Path.{◌≡◌, refl, sym, ap, ap₂, ◌∙◌}
use mathlib.Core.Bool.{true}
use Prim.Native.Nat.{ℕ, ◌+◌, ◌-◌, ◌≤◌, ◌<◌}
use native.Mathlib.Omega.{arith}
use mathlib.Core.List.{List, []}
use lib.ListN.{length, take, get_or}
use lib.Seq.{length-take-le, get_or-take}
use lib.Ieee.{Float, lt}
use Rattle.loops.proofs.Loop.{iter_ext}
use Rattle.floats.specs.Operators.{◌+₆₄◌, zero₆₄, at}
use Rattle.definition.specs.declared.IvectorInfo.{IvectorInfo}
use Rattle.definition.specs.declared.IvectorOptions.{IvectorOptions}
use Rattle.definition.specs.Model.{Tables, Model, model_in_force, model_in}
use Rattle.definition.specs.Views.{Frames, smoothed, windowed, cmvn_state, cmvn_frame}
use Rattle.definition.specs.Machine.{Machine, all_frames, fresh, machine_after}
use Rattle.definition.proofs.Agree.{Agree, agree_shorter, windowed_ext, view_ext}
use Rattle.program.specs.Rooms.{frames_in, ring_lengths_of, room_lengths_of}
use Rattle.program.specs.Session.{Program}
use Rattle.program.specs.Played.{Played, ended, took}
use Rattle.program.specs.Loud.{is_loud, loud_view, view_by, view_on, LoudHeld, LoudAfter, LoudAlike}
use Rattle.program.proofs.Facts.{ranges}
use Rattle.program.proofs.Sound.{stream_of}
use Rattle.program.proofs.Keeps as keeps

-- frames F that agree with a history h on what is held, and a loud frame of it
module _ (M : Model) (F : Frames) (h : List (List Float)) (mark u : ℕ) (some : 0 < M.info.dims.base_dim)
    (a : Agree F (all_frames h) M.info.dims.base_dim mark M.info.opts.cmn_window) (p : mark ≤ u) (q : u < length h)
    (same : F.accepted ≡ length h) (loud : is_loud M.info.opts (get_or h u []) ≡ true) where
  abbrev dim : ℕ
  dim = M.info.dims.base_dim

  abbrev o : IvectorOptions
  o = M.info.opts

  -- frames 0 to u, and F as far as u
  abbrev h' : List (List Float)
  h' = take (u + 1) h

  abbrev F' : Frames
  F' = record { accepted = u + 1; frame = F.frame; prefix = F.prefix }

  long : length h' ≡ u + 1
  long = length-take-le (u + 1) h (omega arith)

  frame_of_is : (v d : ℕ) → v < u + 1 → at (get_or h v []) d ≡ at (get_or h' v []) d
  frame_of_is v d l = ap (λ (x : List Float). at x d) (sym (get_or-take (u + 1) h v [] l))

  to_last : Agree F' (all_frames h') dim mark o.cmn_window
  unfolding all_frames
  to_last =
      record {
        accepted_is = sym long;
        frame_is = λ v d r l m. a.frame_is v d r (omega arith) m ∙ frame_of_is v d l;
        prefix_is = λ v d r l m. a.prefix_is v d r (omega arith) m ∙ iter_ext v _ _ zero₆₄ (λ k b y. ap (λ (e : Float). y +₆₄ e) (frame_of_is k d (omega arith)));
      }

  -- its window, by the rings and by frames 0 to u
  window_is : windowed o dim F u ≡ windowed o dim (all_frames h') u
  unfolding windowed
  window_is = windowed_ext o dim F' (all_frames h') mark some to_last u p (omega arith)

  frame_view : (state : List Float) → cmvn_frame dim F u state ≡ cmvn_frame dim (all_frames h') u state
  unfolding cmvn_frame
  frame_view state = view_ext o dim F' (all_frames h') mark some to_last u state p (omega arith)

  -- the frame is loud in the rings, too, and so its state is its window's, whatever was there before
  loud_there : lt o.min_energy (F.frame u 0) ≡ true
  unfolding all_frames
  loud_there = ap (lt o.min_energy) (a.frame_is u 0 p (omega arith) some) ∙ loud

  state_is : (state : List Float) → cmvn_state o dim M.tables.global_mean_stats F u state ≡ smoothed o dim M.tables.global_mean_stats (windowed o dim (all_frames h') u)
  unfolding cmvn_state
  state_is state = rw (loud_there, window_is)

  last_is : length h' - 1 ≡ u
  last_is = omega (arith, long)

  pub view_is : (state : List Float) → view_by o dim M.tables.global_mean_stats F u state ≡ loud_view M o.cmn_window h'
  unfolding view_by loud_view
  view_is state =
      ap (cmvn_frame dim F u) (state_is state) ∙ frame_view (smoothed o dim M.tables.global_mean_stats (windowed o dim (all_frames h') u))
      ∙ ap (λ (j : ℕ). cmvn_frame dim (all_frames h') j (smoothed o dim M.tables.global_mean_stats (windowed o dim (all_frames h') j))) (sym last_is)

-- a model that has the window already
same_view : (M : Model) (w : ℕ) (xs : List (List Float)) → loud_view (model_in_force M w) w xs ≡ loud_view M w xs
unfolding loud_view
same_view M w xs = refl

-- ---- of a stream

module _ (i : IvectorInfo) (t : Tables) (s : Played i t) (u : ℕ) (l : LoudHeld i t s u) where
  abbrev k : Machine
  k = machine_after (model_in i t) (ring_lengths_of s.lent.rings) (fresh (model_in i t)) s.calls

  abbrev first : List (List Float)
  first = take (u + 1) (took i t s)

  by_any : (state : List Float) → view_on t (ended i t s) u state ≡ loud_view (model_in i t) (ended i t s).stream.window first
  by_any state =
      let e = keeps.ended_is i t s.lent s.scratch s.made s.made_is s.calls in
      let h = keeps.took_is i t s.lent s.scratch s.made s.made_is s.calls in
      let some = (ranges i (keeps.begun i t s.lent s.scratch s.made s.made_is).made_is.info_is).some_base in
      let low = rw e.1 at l.not_dropped in
      let high = rw e.1 at l.accepted in
      ap (λ (p : Program). view_on t p u state) e.1
      ∙ view_is (model_in_force (model_in i t) k.window) (frames_in (stream_of i (room_lengths_of s.lent s.scratch) k) e.0.rings) k.history k.mark u some (agree_shorter (omega arith) (omega (arith, e.2.window_is)) e.2.agrees) low high refl (rw h l.loud) state
      ∙ same_view (model_in i t) k.window (take (u + 1) k.history)
      ∙ ap (λ (x : List (List Float)). loud_view (model_in i t) k.window (take (u + 1) x)) h
      ∙ ap (λ (p : Program). loud_view (model_in i t) p.stream.window first) (sym e.1)

pub loud-after : LoudAfter
loud-after i t s u l = (by_any i t s u l _, by_any i t s u l)

pub loud-alike : LoudAlike
loud-alike i t s s' u l l' w e = (loud-after i t s u l).0 ∙ ap₂ (loud_view (model_in i t)) w e ∙ sym (loud-after i t s' u l').0
