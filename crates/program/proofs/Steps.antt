-- A call that is taken keeps `Inv` and gives what the machine gives: one law a call, and `taken_next` for any.
use Rattle.std.specs.Prelude.{if◌then◌else◌}
use mathlib.Core.Path.{◌≡◌, refl, sym, ap, ap₂, subst, ◌∙◌}
use Prim.Native.Nat.{ℕ, zero, suc, ◌+◌, ◌-◌, ◌≤◌, ◌<◌, min, max}
use native.Mathlib.Decide.{dec_lt}
use native.Mathlib.Omega.{arith}
use mathlib.Core.Bool.{Bool, true, false, ◌&&◌}
use mathlib.Core.List.{List, [], ◌∷◌, ◌++◌, map, foldl}
use lib.ListN.{length, get_or, length-append, length-map, get_or-map}
use lib.Dec.{leb, ltb}
use borrow.Author.Tests.{eqb-true, eqb-false, leb-true, leb-false, ltb-true, ltb-false, lt-ltb, le-ltb, not-false}
use lib.Ieee.{Float, nan}
use Rattle.loops.specs.Lists.{build, those, any_of, over}
use Rattle.loops.specs.Ring.{rows_in, put, place}
use Rattle.loops.proofs.Choose.{by-test, and_holds}
use Rattle.loops.proofs.Build.{length_build, build_list, map-build}
use Rattle.loops.proofs.Fill.{length_over, take_over, length_put}
use Rattle.loops.proofs.Refusal.{none_first}
use Rattle.loops.proofs.Ring.{place_in}
use Rattle.loops.proofs.Tests.{none_at, at_none, length_those}
use Rattle.floats.specs.Operators.{◌+₆₄◌, at}
use Rattle.definition.specs.declared.IvectorInfo.{IvectorInfo}
use Rattle.definition.specs.declared.IvectorOptions.{IvectorOptions}
use Rattle.definition.specs.declared.IvectorStream.{IvectorStream}
use Rattle.definition.specs.declared.RingLengths.{RingLengths}
use Rattle.definition.specs.declared.EstimateLengths.{EstimateLengths}
use Rattle.definition.specs.declared.RoomLengths.{RoomLengths}
use Rattle.definition.specs.declared.FrameWeight.{FrameWeight}
use Rattle.definition.specs.Kaldi.{triangle}
use Rattle.definition.specs.Model.{Tables, Model, model_in_force, model_in}
use Rattle.definition.specs.Posteriors.{weighed, unweighted}
use Rattle.definition.specs.Changes.{Change, Changes, insert_change, changed, reached, merged, batch}
use Rattle.definition.specs.Estimate.{Estimate, updated, nans_over}
use Rattle.definition.specs.Machine.{Call, push, finish, change, forget, set_window, fetch, Machine, machine, Move, accepted, all_frames, frames_held, rows_held, frames_ready, waiting_room, forgotten, longest_from, push_tests, change_tests, window_tests, fetch_tests, fetched, caught_up, nans_met, does}
use Rattle.definition.specs.Stream.{rising}
use Rattle.definition.proofs.Agree.{Agree, agree_shorter, Inside, updated_ext, nans_ext}
use Rattle.definition.proofs.Floor.{lowest_under, low_raised}
use Rattle.definition.proofs.Lengths.{Long, updated_long}
use Rattle.definition.proofs.Ranges.{fitting}
use Rattle.program.specs.Rooms.{Rings, rings_from, Rooms, rooms_from, ring_lengths_of, room_lengths_of, ring_at, ring_frames, frames_in, frames_of, weights_of, changes_in}
use Rattle.program.specs.Calls.{Step, with_accepted, with_mark, with_changes, pushed_frames, pushed_rows, push_frame, set_input_finished, over_waiting, update_frame_weights, forget_mark, forget_before, set_cmn_window, over_estimate, fetch_estimate, fetch_changes, fetch_stream, fetch_rooms, fetch_vector, fetch_nans, get_frame}
use Rattle.program.specs.Session.{Program, program, step_of}
use Rattle.program.proofs.Pushed.{pushed_agrees}
use Rattle.program.proofs.WaitingRooms.{waiting_over}
use Rattle.program.proofs.InOrder.{length_inserts, inserts_rising}
use Rattle.program.proofs.Facts.{ranges}
use Rattle.program.proofs.Waiting.{inserts_none, those-rising, those_none, lowest_at, Each, merged_each, those_each}
use Rattle.program.proofs.Sound.{stream_of, Made, Inv, held_are, rings_long}

-- where fewer are needed, fewer are held
rows_fewer : (a first first' r : ℕ) → first ≤ first' → a + 1 - first ≤ r → a + 1 - first' ≤ r
rows_fewer a first first' r h l = omega arith

-- ---- the longest window after a forget that brings the mark from m to m'

module _ (w g m m' : ℕ) where
  abbrev after : ℕ
  after = longest_from w g m m'

  longest_above : w ≤ g → w ≤ after
  unfolding longest_from
  longest_above h = by-test (ltb m m') (λ e. rw e (omega arith)) (λ e. rw e h)

  longest_under : w ≤ g → after ≤ g
  unfolding longest_from
  longest_under h = by-test (ltb m m') (λ e. rw e h) (λ e. rw e (omega arith))

  -- no row is needed that was not held
  rows_later : m ≤ m' → w ≤ g → m + 1 - g ≤ m' + 1 - after
  unfolding longest_from
  rows_later l h = by-test (ltb m m') (λ e. rw e (omega (arith, ltb-true m m' e))) (λ e. rw e (omega arith))

-- a window above the longest needs no other rows: all are held from 0 on
same_rows : (g w m : ℕ) → (g < w → m + 1 ≤ g) → m + 1 - max g w ≡ m + 1 - g
same_rows g w m h = go (dec_lt g w)
  where
    go : Dec (g < w) → m + 1 - max g w ≡ m + 1 - g
    go (yes l) = omega (arith, h l)
    go (no l) = omega arith

and_rest : (a b : Bool) → a ≡ true → (a && b) ≡ false → b ≡ false
and_rest a b t e = rw t at e

less_than : (a b : ℕ) → a ≤ b → (a ≡ b → ⊥) → a < b
less_than a b h e = omega arith

-- equal parts make equal wholes
pub same_by_four : {A B : Type 0} (f : A → A → A → A → B) {a a' b b' c c' d d' : A} → a ≡ a' → b ≡ b' → c ≡ c' → d ≡ d' → f a b c d ≡ f a' b' c' d'
same_by_four f p q r s = rw (p, q, r, s)

-- ---- the frames of a batch have their context held

module _ (o : IvectorOptions) (mark accepted : ℕ) where
  abbrev Good : ℕ → Type 0
  Good u = (mark ≤ u - o.left_context) × (u < accepted)

  inside_build : (m : ℕ) (h : ℕ → ℕ × FrameWeight) → ((j : ℕ) → j < m → Good (h j).0) → Inside o mark accepted (build m h)
  unfolding build
  inside_build zero h p = tt
  inside_build (suc m) h p = ((p 0 (omega arith)).0, (p 0 (omega arith)).1, inside_build m (λ j. h (suc j)) (λ j l. p (suc j) (omega arith)))

  inside_map : (g : Change → FrameWeight) (cs : List Change) → Each Good cs → Inside o mark accepted (map (λ d. (d.0, g d)) cs)
  inside_map g [] h = tt
  inside_map g (c ∷ cs) h = (h.0.0, h.0.1, inside_map g cs h.1)

  waiting_each : (f : ℕ) (cs : List Change) → f < accepted → any_of (λ g. ltb (g - o.left_context) mark) (frames_of cs) ≡ false → Each Good (those (λ d. leb d.0 f) cs)
  waiting_each f cs l e =
      those_each Good (λ d. leb d.0 f) cs
      (λ j p q.
      let h : get_or (frames_of cs) j 0 ≡ (get_or cs j (0, nan)).0 = get_or-map (λ (c : Change). c.0) cs j (0, nan) in
      let b : mark ≤ get_or (frames_of cs) j 0 - o.left_context = ltb-false (get_or (frames_of cs) j 0 - o.left_context) mark (none_at (λ g. ltb (g - o.left_context) mark) 0 (frames_of cs) j e (rw (length-map cs (λ (c : Change). c.0)) p)) in
      (omega (arith, h, b), omega (arith, leb-true (get_or cs j (0, nan)).0 f q)))

  inside_batch : (c : Changes) (next f : ℕ) → mark ≤ next - o.left_context → f < accepted
      → any_of (λ g. ltb (g - o.left_context) mark) (frames_of c.waiting) ≡ false → Inside o mark accepted (batch o c next f)
  unfolding batch
  inside_batch c next f p l e =
      by-test c.called
      (λ q. rw q (inside_map (λ d. weighed o d.1) (merged (those (λ d. leb d.0 f) c.waiting)) (merged_each Good _ (waiting_each f c.waiting l e))))
      (λ q. rw q (inside_build (f + 1 - next) (λ j. (next + j, unweighted o)) (λ j r. (omega arith, omega arith))))

module _ (i : IvectorInfo) (z : RoomLengths) (n : ℕ) (t : Tables) (made : Made i t z) where
  abbrev M : Model
  M = model_in i t

  abbrev dim : ℕ
  dim = i.dims.base_dim

  abbrev left : ℕ
  left = i.opts.left_context

  -- a step of the program and a move of the machine that are taken: the record and the rooms are those of the machine afterwards, and both give
  -- the same
  abbrev pub Next : Step → Move → Type 0
  Next x y = (w' : Rooms) × (program x.stream x.rooms ≡ program (stream_of i z y.left) w') × Inv i z n y.left w' × (x.vector ≡ y.gives) × (x.nans ≡ y.nans)

  abbrev p : Machine → Rooms → Program
  p k w = program (stream_of i z k) w

  -- rooms with other rings of the same lengths
  rings_same : (w : Rooms) (r : Rings) → ring_lengths_of r ≡ ring_lengths_of w.rings → room_lengths_of w n ≡ z → room_lengths_of (rooms_from r w.estimate) n ≡ z
  rings_same w r e h = ap (λ (y : RingLengths). record { rings = y; estimate = (room_lengths_of w n).estimate }) e ∙ h

  module _ (k : Machine) (w : Rooms) (v : Inv i z n k w) where
    -- ---- finish and forget

    finish_next : Next (step_of t n (p k w) finish) (does M z.rings k finish)
    unfolding step_of set_input_finished does
    finish_next = (
      w,
      refl,
      record {
        lengths_are = v.lengths_are;
        few = v.few;
        next_is = v.next_is;
        mark_is = v.mark_is;
        floor_is = v.floor_is;
        some_window = v.some_window;
        window_is = v.window_is;
        longest_is = v.longest_is;
        frames_fit = v.frames_fit;
        rows_fit = v.rows_fit;
        waiting_fit = v.waiting_fit;
        waiting_is = v.waiting_is;
        in_order = v.in_order;
        held_back = v.held_back;
        estimate_is = v.estimate_is;
        long = v.long;
        agrees = v.agrees;
      },
      refl,
      refl,
    )

    forget_next : (f : ℕ) → Next (step_of t n (p k w) (forget f)) (does M z.rings k (forget f))
    unfolding step_of forget_before does forget_mark forgotten
    forget_next f =
        let fs : List ℕ = frames_of k.changes.waiting in
        let low : ℕ = foldl min (min f k.next) fs in
        let mark' : ℕ = max k.mark (low - left) in
        let below : low ≤ min f k.next = lowest_under (min f k.next) fs in
        let m : mark' ≤ k.next - left = omega (arith, v.mark_is, below) in
        let back : any_of (λ g. ltb (g - left) mark') fs ≡ false =
        at_none (λ g. ltb (g - left) mark') 0 fs (λ j l. le-ltb (get_or fs j 0 - left) mark' (omega (arith, lowest_at (min f k.next) fs j l, ltb-false (get_or fs j 0 - left) k.mark (none_at (λ g. ltb (g - left) k.mark) 0 fs j v.held_back l)))) in (
          w,
          ap (λ (gs : List ℕ).
              let m = max k.mark (foldl min (min f k.next) gs - left) in
              program (with_mark (stream_of i z k) m (max k.floor f) (longest_from k.window k.longest k.mark m)) w) (held_are i z n t made k w v),
          record {
            lengths_are = v.lengths_are;
            few = v.few;
            next_is = v.next_is;
            mark_is = m;
            floor_is = low_raised k.mark k.floor left low f v.floor_is (omega (arith, below));
            some_window = v.some_window;
            window_is = longest_above k.window k.longest k.mark mark' v.window_is;
            longest_is = omega (arith, longest_under k.window k.longest k.mark mark' v.window_is, v.longest_is);
            frames_fit = omega (arith, v.frames_fit);
            rows_fit = rows_fewer (accepted k) _ _ _ (rows_later k.window k.longest k.mark mark' (omega arith) v.window_is) v.rows_fit;
            waiting_fit = v.waiting_fit;
            waiting_is = v.waiting_is;
            in_order = v.in_order;
            held_back = back;
            estimate_is = v.estimate_is;
            long = v.long;
            agrees = agree_shorter (omega arith) (rows_later k.window k.longest k.mark mark' (omega arith) v.window_is) v.agrees;
          },
          refl,
          refl,
        )

    -- ---- the window call

    window_next : (w' : ℕ) → 0 < w' → w' ≤ 1000 → (k.longest < w' → k.mark + 1 ≤ k.longest) → Next (step_of t n (p k w) (set_window w')) (does M z.rings k (set_window w'))
    unfolding step_of set_cmn_window does
    window_next w' some most all = (
      w,
      refl,
      record {
        lengths_are = v.lengths_are;
        few = v.few;
        next_is = v.next_is;
        mark_is = v.mark_is;
        floor_is = v.floor_is;
        some_window = some;
        window_is = omega arith;
        longest_is = omega (arith, v.longest_is, most);
        frames_fit = v.frames_fit;
        rows_fit = rw (same_rows k.longest w' k.mark all) v.rows_fit;
        waiting_fit = v.waiting_fit;
        waiting_is = v.waiting_is;
        in_order = v.in_order;
        held_back = v.held_back;
        estimate_is = v.estimate_is;
        long = v.long;
        agrees = agree_shorter (omega arith) (omega (arith, same_rows k.longest w' k.mark all)) v.agrees;
      },
      refl,
      refl,
    )

    -- ---- change

    change_next : (fs : List ℕ) (ws : List Float) → any_of (λ f. ltb (f - left) k.mark) fs ≡ false → length k.changes.waiting + length fs ≤ waiting_room z.rings
        → Next (step_of t n (p k w) (change fs ws)) (does M z.rings k (change fs ws))
    unfolding step_of update_frame_weights does changed
    change_next fs ws back room =
        let c₀ : Changes = changes_in (stream_of i z k) w.rings in
        let fits : waiting_room (ring_lengths_of w.rings) ≡ waiting_room z.rings = ap waiting_room (rings_long i z n t made k w v) in
        let given : List Change = build (length fs) (λ j. (get_or fs j 0, at ws j)) in
        let new : List Change = foldl insert_change k.changes.waiting given in
        let frames_are : frames_of given ≡ fs = map-build (λ (c : Change). c.0) (length fs) (λ j. (get_or fs j 0, at ws j)) ∙ build_list 0 fs in
        let many : length new ≡ length k.changes.waiting + length fs = length_inserts k.changes.waiting given ∙ ap (λ (j : ℕ). length k.changes.waiting + j) (length_build (length fs) _) in
        let same : changed c₀ fs ws ≡ changed k.changes fs ws =
        ap (λ (l : List Change). record { waiting = foldl insert_change l given; past_highest = foldl (λ (n f : ℕ). max n (f + 1)) k.changes.past_highest fs; called = true }) v.waiting_is in
        let fs' : List ℕ = over (frames_of new) w.rings.waiting_frames in
        let ws' : List Float = over (weights_of new) w.rings.waiting_weights in
        let r' : Rings = rings_from w.rings.frames w.rings.rows fs' ws' in
        let a : length fs' ≡ length w.rings.waiting_frames = length_over (frames_of new) w.rings.waiting_frames (omega (arith, length-map new (λ (c : Change). c.0), many, room, fits)) in
        let b : length ws' ≡ length w.rings.waiting_weights = length_over (weights_of new) w.rings.waiting_weights (omega (arith, length-map new (λ (c : Change). c.1), many, room, fits)) in (
          rooms_from r' w.estimate,
          ap (λ (c : Changes). program (with_changes (stream_of i z k) c k.next k.estimate.stats.num_frames) (rooms_from (over_waiting c w.rings) w.estimate)) same,
          record {
            lengths_are = rings_same w r' (ap₂ (λ (x y : ℕ). record { frames = length w.rings.frames; rows = length w.rings.rows; waiting_frames = x; waiting_weights = y }) a b) v.lengths_are;
            few = v.few;
            next_is = v.next_is;
            mark_is = v.mark_is;
            floor_is = v.floor_is;
            some_window = v.some_window;
            window_is = v.window_is;
            longest_is = v.longest_is;
            frames_fit = v.frames_fit;
            rows_fit = v.rows_fit;
            waiting_fit = omega (arith, many, room);
            waiting_is = waiting_over new w.rings.waiting_frames w.rings.waiting_weights;
            in_order = inserts_rising k.changes.waiting given v.in_order;
            held_back = inserts_none (λ f. ltb (f - left) k.mark) k.changes.waiting given (ap (any_of (λ f. ltb (f - left) k.mark)) frames_are ∙ back) v.held_back;
            estimate_is = v.estimate_is;
            long = v.long;
            agrees = v.agrees;
          },
          refl,
          refl,
        )

    -- ---- push

    push_next : (x : List Float) → length x ≡ dim → accepted k < 1000000000 → accepted k - k.mark < rows_in z.rings.frames dim
        → accepted k + 1 - (k.mark + 1 - k.longest) < rows_in z.rings.rows dim
        → Next (step_of t n (p k w) (push x)) (does M z.rings k (push x))
    unfolding step_of push_frame does pushed_frames pushed_rows
    push_next x wide few room more =
        let fs : List Float = w.rings.frames in
        let rs : List Float = w.rings.rows in
        let long : ring_lengths_of w.rings ≡ z.rings = rings_long i z n t made k w v in
        let f : length fs ≡ z.rings.frames = ap (λ (y : RingLengths). y.frames) long in
        let r : length rs ≡ z.rings.rows = ap (λ (y : RingLengths). y.rows) long in
        let y : List Float = build dim (λ d. ring_at dim rs (accepted k) d +₆₄ at x d) in
        let frames' : List Float = put (place (length fs) dim (accepted k)) x fs in
        let rows' : List Float = put (place (length rs) dim (accepted k + 1)) y rs in
        let some-frames : 0 < rows_in (length fs) dim = rw f (omega arith) in
        let some_rows : 0 < rows_in (length rs) dim = rw r (omega arith) in
        let a : length frames' ≡ length fs = length_put (place (length fs) dim (accepted k)) x fs (omega (arith, place_in (length fs) dim (accepted k) some-frames)) in
        let b : length rows' ≡ length rs = length_put (place (length rs) dim (accepted k + 1)) y rs (omega (arith, length_build dim (λ d. ring_at dim rs (accepted k) d +₆₄ at x d), place_in (length rs) dim (accepted k + 1) some_rows)) in
        let r' : Rings = rings_from frames' rows' w.rings.waiting_frames w.rings.waiting_weights in
        let len : length (k.history ++ (x ∷ [])) ≡ accepted k + 1 = length-append k.history (x ∷ []) in (
          rooms_from r' w.estimate,
          ap (λ (j : ℕ). program (with_accepted (stream_of i z k) j) (rooms_from r' w.estimate)) (sym len),
          record {
            lengths_are = rings_same w r' (ap₂ (λ (x y : ℕ). record { frames = x; rows = y; waiting_frames = length w.rings.waiting_frames; waiting_weights = length w.rings.waiting_weights }) a b) v.lengths_are;
            few = omega (arith, len);
            next_is = omega (arith, len, v.next_is);
            mark_is = v.mark_is;
            floor_is = v.floor_is;
            some_window = v.some_window;
            window_is = v.window_is;
            longest_is = v.longest_is;
            frames_fit = omega (arith, len, room);
            rows_fit = omega (arith, len, more);
            waiting_fit = v.waiting_fit;
            waiting_is = v.waiting_is;
            in_order = v.in_order;
            held_back = v.held_back;
            estimate_is = v.estimate_is;
            long = v.long;
            agrees = subst (λ (m : ℕ). Agree (ring_frames dim m frames' rows') (all_frames (k.history ++ (x ∷ []))) dim k.mark k.longest) (sym len) (pushed_agrees k.history x dim k.mark k.longest fs rs wide (omega (arith, v.some_window, v.window_is, v.mark_is, v.next_is)) (rw f room) (rw r more) v.agrees);
          },
          refl,
          refl,
        )

    -- ---- fetch

    -- the rooms with an estimate and changes at their fronts
    abbrev filled : Estimate → Changes → Rooms
    filled e c = rooms_from (over_waiting c w.rings) (over_estimate e w.estimate)

    abbrev moved : ℕ → Changes → Estimate → Machine
    moved next c e = machine k.history next c k.finished e k.mark k.floor k.window k.longest

    filled_inv : (next : ℕ) (c : Changes) (e : Estimate) → k.next ≤ next → next ≤ accepted k → length c.waiting ≤ waiting_room z.rings → rising 0 (frames_of c.waiting) ≡ true
        → any_of (λ f. ltb (f - left) k.mark) (frames_of c.waiting) ≡ false → Long dim i.dims.ivector_dim e → Inv i z n (moved next c e) (filled e c)
    filled_inv next c e up low room order back long =
        let fit = fitting i.dims z made.rooms_fit_is in
        let rooms : waiting_room (ring_lengths_of w.rings) ≡ waiting_room z.rings = ap waiting_room (rings_long i z n t made k w v) in
        let le : (g : EstimateLengths → ℕ) (m : ℕ) → m ≤ g z.estimate → m ≤ g (room_lengths_of w n).estimate = λ g m h. subst (λ (x : RoomLengths). m ≤ g x.estimate) (sym v.lengths_are) h in
        record {
          lengths_are = ap₂ (λ (a : RingLengths) (b : EstimateLengths). record { rings = a; estimate = b })
              (ap₂ (λ (x y : ℕ). record { frames = length w.rings.frames; rows = length w.rings.rows; waiting_frames = x; waiting_weights = y })
              (length_over (frames_of c.waiting) w.rings.waiting_frames (omega (arith, length-map c.waiting (λ (d : Change). d.0), room, rooms)))
              (length_over (weights_of c.waiting) w.rings.waiting_weights (omega (arith, length-map c.waiting (λ (d : Change). d.1), room, rooms))))
              (same_by_four (λ (a b c d : ℕ). record { cmvn_stats = a; linear = b; quadratic = c; current = d; scratch = n })
              (length_over e.cmvn w.estimate.cmvn (rw long.cmvn_is (le (λ x. x.cmvn_stats) _ fit.cmvn_fits)))
              (length_over e.stats.linear w.estimate.linear (rw long.linear_is (le (λ x. x.linear) _ fit.linear_fits)))
              (length_over e.stats.quadratic w.estimate.quadratic (rw long.quadratic_is (le (λ x. x.quadratic) _ fit.quadratic_fits)))
              (length_over e.current w.estimate.current (rw long.current_is (le (λ x. x.current) _ fit.current_fits))))
              ∙ v.lengths_are;
          few = v.few;
          next_is = low;
          mark_is = omega (arith, v.mark_is, up);
          floor_is = v.floor_is;
          some_window = v.some_window;
          window_is = v.window_is;
          longest_is = v.longest_is;
          frames_fit = v.frames_fit;
          rows_fit = v.rows_fit;
          waiting_fit = room;
          waiting_is = waiting_over c.waiting w.rings.waiting_frames w.rings.waiting_weights;
          in_order = order;
          held_back = back;
          estimate_is = same_by_four (λ (a b c d : List Float). record { cmvn = a; stats = record { num_frames = e.stats.num_frames; linear = b; quadratic = c }; current = d })
              (take_over e.cmvn w.estimate.cmvn (dim + 1) long.cmvn_is)
              (take_over e.stats.linear w.estimate.linear i.dims.ivector_dim long.linear_is)
              (take_over e.stats.quadratic w.estimate.quadratic (triangle i.dims.ivector_dim) long.quadratic_is)
              (take_over e.current w.estimate.current i.dims.ivector_dim long.current_is);
          long = long;
          agrees = v.agrees;
        }

    abbrev s : IvectorStream
    s = stream_of i z k

    changes_are : changes_in s w.rings ≡ k.changes
    changes_are = ap (λ (l : List Change). record { waiting = l; past_highest = k.changes.past_highest; called = k.changes.called }) v.waiting_is

    -- the model with the window in force; what is held is enough for it
    abbrev M' : Model
    M' = model_in_force M k.window

    agrees_in_force : Agree (frames_in s w.rings) (all_frames k.history) dim k.mark k.window
    agrees_in_force = agree_shorter (omega arith) (omega (arith, v.window_is)) v.agrees

    -- what the machine makes of its numbers
    abbrev up_to : ℕ → Estimate
    up_to f = updated M' (all_frames k.history) (batch M'.info.opts k.changes k.next f) k.estimate

    fetch_on : (f : ℕ) → f < accepted k → leb k.next f ≡ true → (fetch_estimate s t w f ≡ up_to f) × (fetch_changes s w.rings f ≡ reached k.changes f)
    unfolding fetch_estimate fetch_changes
    fetch_on f l e = (
      rw e
          (ap₂ (λ (c : Changes) (x : Estimate). updated M' (frames_in s w.rings) (batch M'.info.opts c k.next f) x) changes_are v.estimate_is
          ∙ updated_ext M' (frames_in s w.rings) (all_frames k.history) k.mark (ranges i made.info_is).some_base agrees_in_force (batch M'.info.opts k.changes k.next f) k.estimate
          (inside_batch M'.info.opts k.mark (accepted k) k.changes k.next f v.mark_is l v.held_back)),
      rw e (ap (λ (c : Changes). reached c f) changes_are),
    )

    fetch_off : (f : ℕ) → leb k.next f ≡ false → (fetch_estimate s t w f ≡ k.estimate) × (fetch_changes s w.rings f ≡ k.changes)
    unfolding fetch_estimate fetch_changes
    fetch_off f e = (rw e v.estimate_is, rw e changes_are)

    -- the state that a fetch leaves, by what it makes of next, the changes and the numbers
    fetch_leaves : (f next : ℕ) (c : Changes) (e : Estimate) → (if leb k.next f then f + 1 else k.next) ≡ next → fetch_changes s w.rings f ≡ c → fetch_estimate s t w f ≡ e
        → program (fetch_stream s t w f) (fetch_rooms s t w f) ≡ program (stream_of i z (moved next c e)) (filled e c)
    unfolding fetch_stream fetch_rooms
    fetch_leaves f next c e p q r = rw (p, q, r)

    rest_fits : (f : ℕ) → length (reached k.changes f).waiting ≤ waiting_room z.rings
    unfolding reached
    rest_fits f = omega (arith, length_those (λ (d : Change). ltb f d.0) k.changes.waiting, v.waiting_fit)

    rest_rising : (f : ℕ) → rising 0 (frames_of (reached k.changes f).waiting) ≡ true
    unfolding reached
    rest_rising f = those-rising (λ d. ltb f d.0) 0 k.changes.waiting v.in_order

    rest_back : (f : ℕ) → any_of (λ g. ltb (g - left) k.mark) (frames_of (reached k.changes f).waiting) ≡ false
    unfolding reached
    rest_back f = those_none (λ g. ltb (g - left) k.mark) (λ d. ltb f d.0) k.changes.waiting v.held_back

    -- the numbers after a fetch are the machine's
    fetch_same : (f : ℕ) → f < accepted k → fetch_estimate s t w f ≡ (caught_up M k f).estimate
    unfolding caught_up
    fetch_same f l = by-test (leb k.next f) (λ e. rw e (fetch_on f l e).0) (λ e. rw e (fetch_off f e).0)

    -- and so is the vector
    vector_same : (f : ℕ) → f < accepted k → fetch_vector s t w f ≡ fetched M (caught_up M k f).estimate.current
    unfolding fetch_vector
    vector_same f l = rw (fetch_same f l)

    -- and the count
    nans_same : (f : ℕ) → f < accepted k → fetch_nans s t w f ≡ nans_met M k f
    unfolding fetch_nans nans_met
    nans_same f l =
        let now = batch M'.info.opts k.changes k.next f in
        by-test (leb k.next f)
        (λ e. rw e
        (ap₂ (λ (c : Changes) (x : Estimate). nans_over M' (frames_in s w.rings) (batch M'.info.opts c k.next f) x.cmvn) changes_are v.estimate_is
        ∙ nans_ext M' (frames_in s w.rings) (all_frames k.history) k.mark (ranges i made.info_is).some_base agrees_in_force now k.estimate.cmvn
        (inside_batch M'.info.opts k.mark (accepted k) k.changes k.next f v.mark_is l v.held_back)))
        (λ e. rw e)

    -- the state
    state_same : (f : ℕ) → f < accepted k → (w' : Rooms) × (program (fetch_stream s t w f) (fetch_rooms s t w f) ≡ program (stream_of i z (caught_up M k f)) w') × Inv i z n (caught_up M k f) w'
    unfolding caught_up
    state_same f l =
        by-test (leb k.next f)
        (λ e. let h = fetch_on f l e in
        let e' : Estimate = up_to f in
        let c' : Changes = reached k.changes f in
        rw e (
          filled e' c',
          fetch_leaves f (f + 1) c' e' (rw e) h.1 h.0,
          filled_inv (f + 1) c' e' (omega (arith, leb-true k.next f e)) (omega arith) (rest_fits f) (rest_rising f) (rest_back f)
              (updated_long M' (all_frames k.history) (batch M'.info.opts k.changes k.next f) k.estimate v.long),
        ))
        (λ e. let h = fetch_off f e in
        rw e (filled k.estimate k.changes, fetch_leaves f k.next k.changes k.estimate (rw e) h.1 h.0, filled_inv k.next k.changes k.estimate (omega arith) v.next_is v.waiting_fit v.in_order v.held_back v.long))

    fetch_next : (f m : ℕ) → f < accepted k → Next (step_of t n (p k w) (fetch f m)) (does M z.rings k (fetch f m))
    unfolding step_of get_frame does
    fetch_next f m l = let h = state_same f l in (h.0, h.1, h.2, vector_same f l, nans_same f l)

    -- ---- any call that is taken

    ready_below : (f : ℕ) → leb (frames_ready i.opts k.finished (accepted k)) f ≡ false → f < accepted k
    unfolding frames_ready
    ready_below f e =
        by-test k.finished
        (λ b. leb-false (accepted k) f (rw b at e))
        (λ b. omega (arith, leb-false (accepted k - i.opts.right_context) f (rw b at e)))

    fetch_ready : (f m : ℕ) → (does M z.rings k (fetch f m)).refusal ≡ 0 → f < accepted k
    unfolding does fetch_tests
    fetch_ready f m e = let h = none_first _ tt e in ready_below f h.1.0

    pub taken_next : (c : Call) → (does M z.rings k c).refusal ≡ 0 → Next (step_of t n (p k w) c) (does M z.rings k c)
    unfolding does push_tests change_tests window_tests frames_held rows_held
    taken_next (push x) e =
        let h = none_first _ tt e in
        let a : accepted k ≡ 1000000000 → ⊥ = eqb-false _ _ h.1.1.0 in
        let b : accepted k - k.mark ≡ rows_in z.rings.frames dim → ⊥ = eqb-false _ _ h.1.1.1.0 in
        let c : accepted k + 1 - (k.mark + 1 - k.longest) ≡ rows_in z.rings.rows dim → ⊥ = eqb-false _ _ h.1.1.1.1.0 in
        push_next x (eqb-true _ _ (not-false _ h.0)) (omega (arith, v.few)) (less_than _ _ v.frames_fit b) (less_than _ _ v.rows_fit c)
    taken_next finish e = finish_next
    taken_next (change fs ws) e = let h = none_first _ tt e in change_next fs ws h.1.1.1.0 (ltb-false _ _ h.1.1.1.1.0)
    taken_next (forget f) e = forget_next f
    taken_next (set_window w') e =
        let h = none_first _ tt e in
        let r = and_holds (leb 1 w') (leb w' 1000) (not-false _ h.0) in
        window_next w' (leb-true 1 w' r.0) (leb-true w' 1000 r.1) (λ l. ltb-false _ _ (and_rest (ltb k.longest w') _ (lt-ltb _ _ l) h.1.0))
    taken_next (fetch f m) e = fetch_next f m (fetch_ready f m e)
