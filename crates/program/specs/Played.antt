-- A stream from its making on: over a model's record and tables, in rooms of its own, with the calls that were played on it, refused ones among
-- them. The theorems about single frames and about the rooms' lengths speak of any two, or of any one, of these.
use Rattle.std.specs.Prelude.{◌≡◌, ℕ, List, Float, Ok}
use Rattle.definition.specs.declared.IvectorInfo.{IvectorInfo}
use Rattle.definition.specs.declared.StreamCall.{StreamCall}
use Rattle.definition.specs.Model.{Tables, table_lengths_of}
use Rattle.definition.specs.Machine.{Call, Answer}
use Rattle.program.specs.Rooms.{Rooms, room_lengths_of}
use Rattle.program.specs.Calls.{new_answer, fresh_rooms}
use Rattle.program.specs.Session.{Program, program, program_after, program_answers}
use Rattle.program.specs.Keeping.{frames_taken}

module _ (i : IvectorInfo) (t : Tables) where
  -- lent rooms with whatever contents, and n numbers of scratch; what a fresh stream in them returned, no refusal; the calls
  pub record Played : Type 0 where
    pub lent : Rooms
    pub scratch : ℕ
    pub made : StreamCall
    pub made_is : new_answer i (table_lengths_of t) (room_lengths_of lent scratch) ≡ Ok made
    pub calls : List Call

  abbrev pub begun : Played → Program
  begun s = program s.made.stream (fresh_rooms i s.lent)

  -- the program after the calls, its answers, and the frames of the pushes that were taken
  abbrev pub ended : Played → Program
  ended s = program_after t s.scratch (begun s) s.calls

  abbrev pub played_answers : Played → List Answer
  played_answers s = program_answers t s.scratch (begun s) s.calls

  abbrev pub took : Played → List (List Float)
  took s = frames_taken s.calls (played_answers s)
