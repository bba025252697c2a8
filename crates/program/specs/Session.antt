-- A list of calls on a stream: each on the record and the rooms as the last one left them.
use Rattle.std.specs.Prelude.{ℕ, List, [], ◌∷◌, Float}
use Rattle.loops.specs.Refusal.{taken}
use Rattle.definition.specs.declared.IvectorStream.{IvectorStream}
use Rattle.definition.specs.Model.{Tables}
use Rattle.definition.specs.Machine.{Call, push, finish, change, forget, set_window, fetch, Answer, bits_of, not_finite}
use Rattle.program.specs.Rooms.{Rooms, rooms_from}
use Rattle.program.specs.Calls.{answer_of, RingStep, Step, push_frame, set_input_finished, update_frame_weights, forget_before, set_cmn_window, get_frame}

-- the program's state: its record, and what the lent rooms hold
pub record Program : Type 0 where
  pub stream : IvectorStream
  pub rooms : Rooms

abbrev pub program : IvectorStream → Rooms → Program
program s z = record { stream = s; rooms = z }

-- a call on the rings leaves the other rooms as they are, and gives no vector
abbrev pub on_rings : Rooms → RingStep → Step
on_rings z x = record { refusal = x.refusal; stream = x.stream; rooms = rooms_from x.rings z.estimate; vector = []; nans = 0 }

-- the program after a step, refused or not, and its answer
abbrev pub stepped : Program → Step → Program
stepped p x = taken x.refusal (program x.stream x.rooms) p

unfoldable pub reply : Program → Step → Answer
reply p x =
    let v : List Float = taken x.refusal x.vector [] in
    record { told = answer_of x.refusal (stepped p x).stream (not_finite v) (taken x.refusal x.nans 0); vector = bits_of v }

-- over lent tables t, and scratch of n numbers
module _ (t : Tables) (n : ℕ) where
  -- what a call does
  unfoldable pub step_of : Program → Call → Step
  step_of p (push x) = on_rings p.rooms (push_frame p.stream p.rooms.rings x)
  step_of p finish = on_rings p.rooms (set_input_finished p.stream p.rooms.rings)
  step_of p (change fs ws) = on_rings p.rooms (update_frame_weights p.stream p.rooms.rings fs ws)
  step_of p (forget f) = on_rings p.rooms (forget_before p.stream p.rooms.rings f)
  step_of p (set_window w) = on_rings p.rooms (set_cmn_window p.stream p.rooms.rings w)
  step_of p (fetch f m) = get_frame p.stream t p.rooms n f m

  -- the program after a list of calls, and its answers to them
  unfoldable pub program_after : Program → List Call → Program
  program_after p [] = p
  program_after p (c ∷ cs) = program_after (stepped p (step_of p c)) cs

  unfoldable pub program_answers : Program → List Call → List Answer
  program_answers p [] = []
  program_answers p (c ∷ cs) = reply p (step_of p c) ∷ program_answers (stepped p (step_of p c)) cs
