-- `keeps`: the program's answers to any list of calls on a fresh stream are the keeping machine's; `held_after`: what the program holds after it;
-- `never-18`: none of them is 18.
use Rattle.std.specs.Prelude.{Ok}
use mathlib.Core.Path.{◌≡◌, sym, ap, ap₂, ◌∙◌}
use Prim.Native.Nat.{ℕ, ◌-◌}
use native.Mathlib.Omega.{arith}
use mathlib.Core.List.{List}
use lib.ListN.{length}
use lib.Dec.{eqb}
use lib.Ieee.{Float}
use Rattle.loops.specs.Lists.{any_of}
use Rattle.definition.specs.declared.IvectorInfo.{IvectorInfo}
use Rattle.definition.specs.declared.StreamCall.{StreamCall}
use Rattle.definition.specs.Model.{Tables, Model, table_lengths_of, model_in}
use Rattle.definition.specs.Statistics.{new_stats}
use Rattle.definition.specs.Stream.{new_refusal}
use Rattle.definition.specs.Machine.{Call, Answer, Machine, all_frames, frames_held, fresh, told_by, machine_after, answers}
use Rattle.definition.proofs.Floor.{never-18 as machine-never-18}
use Rattle.program.specs.Rooms.{Rooms, ring_lengths_of, room_lengths_of}
use Rattle.program.specs.Calls.{answer_of, call_of, fresh_stream, new_answer, fresh_rooms}
use Rattle.program.specs.Session.{Program, program, program_after, program_answers}
use Rattle.program.specs.Keeping.{Keeps, Never18, frames_taken, Held, RingsHold, HeldAfter}
use Rattle.program.proofs.Sound.{stream_of, Made, Inv}
use Rattle.program.proofs.Moves.{keeps_from, inv_after, history_is}
use Rattle.program.proofs.Fresh.{made-stream, fresh_made, fresh_inv}

module _ (i : IvectorInfo) (t : Tables) (z : Rooms) (n : ℕ) (c : StreamCall) (e : new_answer i (table_lengths_of t) (room_lengths_of z n) ≡ Ok c) where
  abbrev M : Model
  M = model_in i t

  abbrev start : Program
  start = program c.stream (fresh_rooms i z)

  -- the record that was made is that of a fresh machine
  pub record Begun : Type 0 where
    pub made_is : Made i t (room_lengths_of z n)
    pub answer_is : c.answer ≡ told_by M 0 (fresh M) 0 0
    pub start_is : start ≡ program (stream_of i (room_lengths_of z n) (fresh M)) (fresh_rooms i z)

  pub begun : Begun
  unfolding new_answer fresh fresh_stream new_stats answer_of told_by
  begun =
      let m = made-stream (new_refusal i (table_lengths_of t) (room_lengths_of z n)) (call_of 0 (fresh_stream i (room_lengths_of z n)) 0 0) c e in
      record {
        made_is = fresh_made i t z n m.0;
        answer_is = ap (λ (q : StreamCall). q.answer) (sym m.1);
        start_is = ap (λ (q : StreamCall). program q.stream (fresh_rooms i z)) (sym m.1);
      }

  answers_are : (cs : List Call) → program_answers t n start cs ≡ answers M (ring_lengths_of z.rings) cs
  unfolding answers
  answers_are cs =
      ap (λ (q : Program). program_answers t n q cs) begun.start_is
      ∙ keeps_from i (room_lengths_of z n) n t begun.made_is (fresh M) (fresh_rooms i z) (fresh_inv i t z n begun.made_is) cs

  module _ (cs : List Call) where
    abbrev k : Machine
    k = machine_after M (ring_lengths_of z.rings) (fresh M) cs

    abbrev took : List (List Float)
    took = frames_taken cs (program_answers t n start cs)

    pub took_is : k.history ≡ took
    unfolding fresh answers
    took_is = history_is M (ring_lengths_of z.rings) (fresh M) cs ∙ ap (frames_taken cs) (sym (answers_are cs))

    pub ended_is : (w : Rooms) × (program_after t n start cs ≡ program (stream_of i (room_lengths_of z n) k) w) × Inv i (room_lengths_of z n) n k w
    ended_is =
        let a = inv_after i (room_lengths_of z n) n t begun.made_is (fresh M) (fresh_rooms i z) (fresh_inv i t z n begun.made_is) cs in
        (a.0, ap (λ (q : Program). program_after t n q cs) begun.start_is ∙ a.1, a.2)

    held : Held (program_after t n start cs) k took
    unfolding frames_held
    held =
        let h = ended_is in
        let a : (program_after t n start cs).stream.accepted ≡ length took = ap (λ (q : Program). q.stream.accepted) h.1 ∙ ap length took_is in
        let m : (program_after t n start cs).stream.mark ≡ k.mark = ap (λ (q : Program). q.stream.mark) h.1 in
        record {
          accepted_is = a;
          mark_is = m;
          mark_below = omega (arith, ap length took_is, h.2.mark_is, h.2.next_is);
          held_is = ap₂ (λ (x y : ℕ). x - y) a m;
          longest_is = ap (λ (q : Program). q.stream.longest) h.1;
        }

    holds : RingsHold i.dims.base_dim (program_after t n start cs) took
    unfolding all_frames
    holds = let h = ended_is in rw (h.1, ← took_is) (record { frame_is = h.2.agrees.frame_is; row_is = h.2.agrees.prefix_is })

pub keeps : Keeps
keeps i t z n c e cs = ((begun i t z n c e).answer_is, answers_are i t z n c e cs)

pub never-18 : Never18
never-18 i t z n c e cs = ap (any_of (λ (a : Answer). eqb a.told.refusal 18)) (answers_are i t z n c e cs) ∙ machine-never-18 (model_in i t) (ring_lengths_of z.rings) cs

pub held_after : HeldAfter
held_after i t z n c e cs = (held i t z n c e cs, holds i t z n c e cs)
