-- The claim over every list of calls: the program's answers are the keeping machine's, and what the program holds after any list.
use Rattle.std.specs.Prelude.{◌≡◌, ◌≢◌, ℕ, ◌+◌, ◌-◌, ◌≤◌, ◌<◌, false, List, [], ◌∷◌, length, get_or, eqb, Float, Ok}
use Rattle.loops.specs.Lists.{any_of}
use Rattle.loops.specs.Refusal.{taken}
use Rattle.floats.specs.Operators.{zero₆₄, at, sum₆₄}
use Rattle.definition.specs.declared.IvectorInfo.{IvectorInfo}
use Rattle.definition.specs.declared.IvectorStream.{IvectorStream}
use Rattle.definition.specs.declared.StreamCall.{StreamCall}
use Rattle.definition.specs.Model.{Tables, table_lengths_of, model_in}
use Rattle.definition.specs.Machine.{Call, push, finish, change, forget, set_window, fetch, Answer, Machine, frames_held, fresh, told_by, machine_after, answers}
use Rattle.program.specs.Rooms.{Rings, Rooms, ring_lengths_of, room_lengths_of, ring_at}
use Rattle.program.specs.Calls.{new_answer, fresh_rooms, update_frame_weights}
use Rattle.program.specs.Session.{Program, program, program_after, program_answers}

-- whatever model's record and tables, lent rooms with whatever contents, a stream made without refusal, and whatever is called: the answer of
-- the fresh stream, and those to the calls
abbrev pub Keeps : Type 0
Keeps =
    (i : IvectorInfo) (t : Tables) (z : Rooms) (n : ℕ) (c : StreamCall)
    → new_answer i (table_lengths_of t) (room_lengths_of z n) ≡ Ok c
    → (cs : List Call)
    → let M = model_in i t in
    (c.answer ≡ told_by M 0 (fresh M) 0 0)
    × (program_answers t n (program c.stream (fresh_rooms i z)) cs ≡ answers M (ring_lengths_of z.rings) cs)

-- request 8: whatever is called, no answer is 18
abbrev pub Never18 : Type 0
Never18 =
    (i : IvectorInfo) (t : Tables) (z : Rooms) (n : ℕ) (c : StreamCall)
    → new_answer i (table_lengths_of t) (room_lengths_of z n) ≡ Ok c
    → (cs : List Call)
    → any_of (λ a. eqb a.told.refusal 18) (program_answers t n (program c.stream (fresh_rooms i z)) cs) ≡ false

-- a change is refused 18 by no record at all, whatever the rings hold and the lists name: where the mark is above the floor less left context, so that a
-- frame at the floor could reach below it, the record is 10 first
abbrev pub ChangeNever18 : Type 0
ChangeNever18 = (s : IvectorStream) (z : Rings) (fs : List ℕ) (ws : List Float) → (update_frame_weights s z fs ws).refusal ≢ 18

-- and no answer of any list of calls is 18, whatever record and rooms it begins with
abbrev pub AnyNever18 : Type 0
AnyNever18 =
    (t : Tables) (n : ℕ) (p : Program) (cs : List Call)
    → any_of (λ a. eqb a.told.refusal 18) (program_answers t n p cs) ≡ false

-- the frames of the pushes that were taken, by the calls and their answers
unfoldable pub frames_taken : List Call → List Answer → List (List Float)
frames_taken [] rs = []
frames_taken (c ∷ cs) [] = []
frames_taken (push x ∷ cs) (a ∷ rs) = taken a.told.refusal (x ∷ frames_taken cs rs) (frames_taken cs rs)
frames_taken (finish ∷ cs) (a ∷ rs) = frames_taken cs rs
frames_taken (change fs ws ∷ cs) (a ∷ rs) = frames_taken cs rs
frames_taken (forget f ∷ cs) (a ∷ rs) = frames_taken cs rs
frames_taken (set_window w ∷ cs) (a ∷ rs) = frames_taken cs rs
frames_taken (fetch f m ∷ cs) (a ∷ rs) = frames_taken cs rs

-- a program p at its end, the keeping machine k at its end, and the frames that were taken: the record counts them, its mark is the machine's and
-- no higher than that count, and so the frames held are the pushes taken less that mark; its longest window is the machine's
pub record Held (p : Program) (k : Machine) (took : List (List Float)) : Type 0 where
  pub accepted_is : p.stream.accepted ≡ length took
  pub mark_is : p.stream.mark ≡ k.mark
  pub mark_below : k.mark ≤ length took
  pub held_is : frames_held p.stream.accepted p.stream.mark ≡ length took - k.mark
  pub longest_is : p.stream.longest ≡ k.longest

-- the frame ring holds the frames taken, from the mark on, and the row ring their prefix sums, from mark + 1 - the longest window on (0 where that is
-- below 0): so all that a fetch can still read is what was pushed
pub record RingsHold (dim : ℕ) (p : Program) (took : List (List Float)) : Type 0 where
  pub frame_is : (u d : ℕ) → p.stream.mark ≤ u → u < length took → d < dim → ring_at dim p.rooms.rings.frames u d ≡ at (get_or took u []) d
  pub row_is : (u d : ℕ) → p.stream.mark + 1 - p.stream.longest ≤ u → u ≤ length took → d < dim
      → ring_at dim p.rooms.rings.rows u d ≡ sum₆₄ zero₆₄ u (λ v. at (get_or took v []) d)

-- after any list of calls on a fresh stream, the empty one too
abbrev pub HeldAfter : Type 0
HeldAfter =
    (i : IvectorInfo) (t : Tables) (z : Rooms) (n : ℕ) (c : StreamCall)
    → new_answer i (table_lengths_of t) (room_lengths_of z n) ≡ Ok c
    → (cs : List Call)
    → let M = model_in i t in
    let p = program c.stream (fresh_rooms i z) in
    let took = frames_taken cs (program_answers t n p cs) in
    Held (program_after t n p cs) (machine_after M (ring_lengths_of z.rings) (fresh M) cs) took
    × RingsHold i.dims.base_dim (program_after t n p cs) took
