-- The parts of the claim, where a load reads a model M.
use Rattle.std.specs.Prelude.{◌≡◌, true, List, ℕ, if◌then◌else◌}
use Rattle.definition.specs.declared.IvectorOptions.{IvectorOptions}
use Rattle.definition.specs.declared.RingLengths.{RingLengths}
use Rattle.definition.specs.Reader.{read}
use Rattle.definition.specs.Model.{Tables, Model, Files, table_lengths_of, model_in, load, loaded_tables}
use Rattle.definition.specs.Stream.{info_sound, same_tables, rooms_fit, new_refusal}
use Rattle.definition.specs.Machine.{Call, answers}
use Rattle.program.specs.Rooms.{Rooms, room_lengths_of}

-- the model read from the filled tables is the model of the bytes
abbrev pub ReadBack : Type 0
ReadBack =
    (o : IvectorOptions) (f : Files) (t : Tables) (n : ℕ) (M : Model) (at : ℕ)
    → load o f (table_lengths_of t) n ≡ read M at
    → model_in M.info (loaded_tables (load o f (table_lengths_of t) n) t) ≡ M

-- its record is sound, and names the lengths of the filled tables
abbrev pub LoadedSound : Type 0
LoadedSound =
    (o : IvectorOptions) (f : Files) (t : Tables) (n : ℕ) (M : Model) (at : ℕ)
    → load o f (table_lengths_of t) n ≡ read M at
    → (info_sound M.info ≡ true) × (same_tables (table_lengths_of (loaded_tables (load o f (table_lengths_of t) n) t)) M.info.tables ≡ true)

-- so a fresh stream on it is refused only for its rooms, with 8, and never with 10
abbrev pub RefusedForRooms : Type 0
RefusedForRooms =
    (o : IvectorOptions) (f : Files) (t : Tables) (n : ℕ) (M : Model) (at : ℕ)
    → load o f (table_lengths_of t) n ≡ read M at
    → (z : Rooms) (m : ℕ)
    → new_refusal M.info (table_lengths_of (loaded_tables (load o f (table_lengths_of t) n) t)) (room_lengths_of z m) ≡ (if rooms_fit M.info.dims (room_lengths_of z m) then 0 else 8)

-- what `run` writes on the record and the tables that the load left, by its contract the answers over what they hold, are the answers over the
-- model of the bytes
abbrev pub AnswersFromBytes : Type 0
AnswersFromBytes =
    (o : IvectorOptions) (f : Files) (t : Tables) (n : ℕ) (M : Model) (at : ℕ)
    → load o f (table_lengths_of t) n ≡ read M at
    → (z : RingLengths) (cs : List Call)
    → answers (model_in M.info (loaded_tables (load o f (table_lengths_of t) n) t)) z cs ≡ answers M z cs
