-- The program's state beside the keeping machine's: `Inv` says what holds between them. By it no record is broken, so that 10 never arises and
-- both refuse alike (`refusal_same`).
use mathlib.Core.Path.{◌≡◌, sym, ap, ◌∙◌}
use Prim.Native.Nat.{ℕ, ◌+◌, ◌-◌, ◌≤◌, ◌<◌}
use native.Mathlib.Omega.{arith}
use mathlib.Core.Bool.{true, false, not, ◌||◌}
use lib.ListN.{length, take}
use lib.Dec.{eqb, ltb}
use borrow.Author.Tests.{ne_eqb, le-ltb}
use Rattle.loops.specs.Lists.{any_of}
use Rattle.loops.specs.Ring.{rows_in}
use Rattle.loops.proofs.Choose.{and_both, or_none}
use Rattle.loops.proofs.Tests.{of_none, same-pair}
use Rattle.loops.proofs.Refusal.{first_past}
use Rattle.definition.specs.declared.IvectorInfo.{IvectorInfo}
use Rattle.definition.specs.declared.IvectorStream.{IvectorStream}
use Rattle.definition.specs.declared.RoomLengths.{RoomLengths}
use Rattle.definition.specs.Model.{Tables, table_lengths_of, model_in}
use Rattle.definition.specs.Machine.{Call, push, finish, change, forget, set_window, fetch, Machine, accepted, all_frames, frames_held, rows_held, waiting_room, does}
use Rattle.definition.specs.Stream.{info_sound, rooms_fit, rising, breaks, is_foreign, same_tables, same_rings, same_rooms, ring_lengths, estimate_lengths}
use Rattle.definition.proofs.Agree.{Agree}
use Rattle.definition.proofs.Lengths.{Long}
use Rattle.program.specs.Rooms.{Rooms, ring_lengths_of, room_lengths_of, frames_in, waiting_in, frames_of, estimate_in}
use Rattle.program.specs.Calls.{push_frame, set_input_finished, update_frame_weights, forget_before, set_cmn_window, get_frame, fetch_refusal}
use Rattle.program.specs.Session.{program, step_of}
use Rattle.program.proofs.WaitingRooms.{frames_waiting}

-- the program's record, of the machine's state
abbrev pub stream_of : IvectorInfo → RoomLengths → Machine → IvectorStream
stream_of i z k =
    record {
      info = i;
      lengths = z;
      accepted = accepted k;
      num_frames_stats = k.next;
      mark = k.mark;
      waiting = length k.changes.waiting;
      past_highest = k.changes.past_highest;
      delta_weights_provided = k.changes.called;
      input_finished = k.finished;
      num_frames = k.estimate.stats.num_frames;
      floor = k.floor;
      window = k.window;
      longest = k.longest;
    }

-- what never changes: the model's record, the tables and the lengths of the rooms
pub record Made (i : IvectorInfo) (t : Tables) (z : RoomLengths) : Type 0 where
  pub tables_are : same_tables (table_lengths_of t) i.tables ≡ true
  pub info_is : info_sound i ≡ true
  pub rooms_fit_is : rooms_fit i.dims z ≡ true

module _ (i : IvectorInfo) (z : RoomLengths) (n : ℕ) where
  -- what holds between the machine and the rooms
  pub record Inv (k : Machine) (w : Rooms) : Type 0 where
    pub lengths_are : room_lengths_of w n ≡ z
    pub few : accepted k ≤ 1000000000
    pub next_is : k.next ≤ accepted k
    pub mark_is : k.mark ≤ k.next - i.opts.left_context
    pub floor_is : k.mark ≤ k.floor - i.opts.left_context
    pub some_window : 0 < k.window
    pub window_is : k.window ≤ k.longest
    pub longest_is : k.longest ≤ 1000
    pub frames_fit : accepted k - k.mark ≤ rows_in z.rings.frames i.dims.base_dim
    pub rows_fit : accepted k + 1 - (k.mark + 1 - k.longest) ≤ rows_in z.rings.rows i.dims.base_dim
    pub waiting_fit : length k.changes.waiting ≤ waiting_room z.rings
    pub waiting_is : waiting_in (length k.changes.waiting) w.rings.waiting_frames w.rings.waiting_weights ≡ k.changes.waiting
    pub in_order : rising 0 (frames_of k.changes.waiting) ≡ true
    pub held_back : any_of (λ f. ltb (f - i.opts.left_context) k.mark) (frames_of k.changes.waiting) ≡ false
    pub estimate_is : estimate_in (stream_of i z k) w.estimate ≡ k.estimate
    pub long : Long i.dims.base_dim i.dims.ivector_dim k.estimate
    pub agrees : Agree (frames_in (stream_of i z k) w.rings) (all_frames k.history) i.dims.base_dim k.mark k.longest

  module _ (t : Tables) (made : Made i t z) (k : Machine) (w : Rooms) (v : Inv k w) where
    abbrev s : IvectorStream
    s = stream_of i z k

    pub rings_long : ring_lengths_of w.rings ≡ z.rings
    rings_long = ap (λ (y : RoomLengths). y.rings) v.lengths_are

    room_of : waiting_room (ring_lengths_of w.rings) ≡ waiting_room z.rings
    room_of = ap waiting_room rings_long

    -- the frames that wait, as the room holds them
    pub held_are : take (length k.changes.waiting) w.rings.waiting_frames ≡ frames_of k.changes.waiting
    held_are = sym (frames_waiting (length k.changes.waiting) w.rings.waiting_frames w.rings.waiting_weights (omega (arith, v.waiting_fit, room_of))) ∙ ap frames_of v.waiting_is

    windows_sound : (eqb k.window 0 || ltb k.longest k.window || ltb 1000 k.longest) ≡ false
    windows_sound =
        or_none _ _ (or_none (eqb k.window 0) _ (ne_eqb k.window 0 (omega (arith, v.some_window))) (le-ltb k.longest k.window v.window_is))
        (le-ltb 1000 k.longest v.longest_is)

    -- the record is never broken
    pub sound : is_foreign s w.rings.waiting_frames ≡ false
    unfolding is_foreign breaks frames_held rows_held
    sound =
        of_none (λ t. t) (breaks s w.rings.waiting_frames) (
          ap not made.info_is,
          (
            ap not made.rooms_fit_is,
            (
              le-ltb 1000000000 (accepted k) v.few,
              (
                le-ltb (accepted k) k.next v.next_is,
                (
                  le-ltb (k.next - i.opts.left_context) k.mark v.mark_is,
                  (
                    le-ltb (k.floor - i.opts.left_context) k.mark v.floor_is,
                    (
                      windows_sound,
                      (
                        le-ltb _ _ v.frames_fit,
                        (
                          le-ltb _ _ v.rows_fit,
                          (
                            le-ltb _ _ v.waiting_fit,
                            (
                              ap (λ fs. not (rising 0 fs)) held_are ∙ ap not v.in_order,
                              (ap (any_of (λ f. ltb (f - i.opts.left_context) k.mark)) held_are ∙ v.held_back, tt),
                            ),
                          ),
                        ),
                      ),
                    ),
                  ),
                ),
              ),
            ),
          ),
        )

    rings_are : not (same_rings (ring_lengths_of w.rings) z.rings) ≡ false
    unfolding same_rings
    rings_are = ap not (same-pair (ring_lengths (ring_lengths_of w.rings)) (ring_lengths z.rings) (ap ring_lengths rings_long))

    rooms_are : not (same_rooms (room_lengths_of w n) z) ≡ false
    unfolding same_rooms same_rings
    rooms_are =
        ap not
        (and_both _ _ (same-pair (ring_lengths (ring_lengths_of w.rings)) (ring_lengths z.rings) (ap ring_lengths rings_long))
        (same-pair (estimate_lengths (room_lengths_of w n).estimate) (estimate_lengths z.estimate) (ap (λ (y : RoomLengths). estimate_lengths y.estimate) v.lengths_are)))

    -- 10 never arises, and the other numbers are the machine's
    pub refusal_same : (c : Call) → (step_of t n (program s w) c).refusal ≡ (does (model_in i t) z.rings k c).refusal
    unfolding step_of push_frame set_input_finished update_frame_weights forget_before set_cmn_window get_frame fetch_refusal does
    refusal_same (push x) = first_past _ _ rings_are ∙ first_past _ _ sound
    refusal_same finish = first_past _ _ rings_are ∙ first_past _ _ sound
    refusal_same (change fs ws) = first_past _ _ rings_are ∙ first_past _ _ sound
    refusal_same (forget f) = first_past _ _ rings_are ∙ first_past _ _ sound
    refusal_same (set_window w') = first_past _ _ rings_are ∙ first_past _ _ sound
    refusal_same (fetch f m) = first_past _ _ (ap not made.tables_are) ∙ first_past _ _ rooms_are ∙ first_past _ _ sound
