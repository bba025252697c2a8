-- What the answers of inner functions say: what a call answers, a refusal by its number.
use Rattle.std.specs.Prelude.{Result, Ok, Err}
use Rattle.definition.specs.declared.refusal.Refusal.{Refusal}
use Rattle.definition.specs.Number.{number_of}
use Rattle.model.specs.Memory.{no_tables, no_rooms}
use Rattle.model.specs.declared.memory.TablesAnswer.{TablesAnswer}
use Rattle.model.specs.declared.memory.RoomsAnswer.{RoomsAnswer}

abbrev pub tables_or : Result TablesAnswer Refusal → TablesAnswer
tables_or (Ok a) = a
tables_or (Err e) = no_tables (number_of e)

abbrev pub rooms_or : Result RoomsAnswer Refusal → RoomsAnswer
rooms_or (Ok a) = a
rooms_or (Err e) = no_rooms (number_of e)
