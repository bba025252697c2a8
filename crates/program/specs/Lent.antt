-- A stream's rings as a call is lent them that only reads.
use Rattle.definition.specs.declared.lent.LentFrames.{LentFrames}
use Rattle.definition.specs.declared.lent.LentWaiting.{LentWaiting}
use Rattle.program.specs.Rooms.{Rings, rings_from}

abbrev pub rings_in : LentFrames → LentWaiting → Rings
rings_in f w = rings_from f.frames.now f.rows.now w.frames.now w.weights.now
