-- A session by one call: what it returned and wrote, as the claim from bytes speaks of it (`Answered`), and the stream that it leaves.
use Rattle.std.specs.Prelude.{ℕ, List, [], Result, Ok, Err}
use Rattle.loops.specs.Refusal.{taken}
use Rattle.definition.specs.declared.IvectorOptions.{IvectorOptions}
use Rattle.definition.specs.declared.StreamAnswer.{StreamAnswer}
use Rattle.definition.specs.Number.{number_of}
use Rattle.definition.specs.Reader.{Got, read, refused}
use Rattle.definition.specs.Model.{Tables, Model, Files}
use Rattle.definition.specs.Machine.{Call, Answer}
use Rattle.program.specs.Rooms.{Rooms, room_lengths_of}
use Rattle.program.specs.Calls.{fresh_stream, fresh_rooms}
use Rattle.program.specs.Session.{Program, program, program_after}
use Rattle.whole.specs.Whole.{Answered, not_loaded, not_made, played, model_read, left, machine_session}
use Rattle.session.specs.declared.NotPlayed.{NotPlayed}
use Rattle.session.specs.declared.NotPlayed.TheVariants as N

-- the answers to the calls, which are written
abbrev pub written_of : Answered → List Answer
written_of (not_loaded r) = []
written_of (not_made r) = []
written_of (played a as') = as'

-- what was returned, with the answers that were written
abbrev pub returned_with : Result StreamAnswer NotPlayed → List Answer → Answered
returned_with (Ok a) as' = played a as'
returned_with (Err (N.Load e)) as' = not_loaded (number_of e)
returned_with (Err (N.Stream e)) as' = not_made (number_of e)

-- where the list's slices are refused with the number n, no stream is made
abbrev pub of_list : ℕ → Answered → Answered
of_list n (not_loaded r) = not_loaded r
of_list n (not_made r) = not_made (taken n r n)
of_list n (played a as') = taken n (played a as') (not_made n)

module _ (o : IvectorOptions) (f : Files) (t : Tables) (n : ℕ) (z : Rooms) (m : ℕ) (cs : List Call) where
  -- the keeping machine's session over the model that the bytes define; the list's slices are refused with the number k, 0 where they are not
  abbrev pub session_answered : ℕ → Answered
  session_answered k = of_list k (machine_session o f t n z m cs)

-- the stream's record and rooms, which were p: those that the program has after the calls, where it plays them
module _ (o : IvectorOptions) (f : Files) (t : Tables) (n : ℕ) (p : Program) (m : ℕ) (cs : List Call) where
  abbrev pub after_calls : Got Model → Program
  after_calls (refused r) = p
  after_calls (read M at) = program_after (left o f t n p.rooms m) m (program (fresh_stream M.info (room_lengths_of p.rooms m)) (fresh_rooms M.info p.rooms)) cs

  abbrev pub program_left : Answered → Program
  program_left (not_loaded r) = p
  program_left (not_made r) = p
  program_left (played a as') = after_calls (model_read o f t n p.rooms m)
