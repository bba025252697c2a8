-- Invariant: the room begins with the bytes that are read, and the reader has the rest.
use Rattle.std.proofs.Common.{◌-◌, ◌≤◌, length}
use Rattle.std.proofs.Math.ListN.{take}
use Rattle.std.specs.Io.KnownBytes.{Consumes}
use Rattle.script.proofs.read_full.Given as goal

abbrev pub invariant-loop-n : goal.invariant-loop-n
invariant-loop-n g l = (l.n ≤ length l.room) × Consumes (g.R.Read.remaining l.initial.reader) (g.R.Read.remaining l.reader) (take l.n l.room)

abbrev pub decreases-loop-n : goal.decreases-loop-n
decreases-loop-n g l = length l.room - l.n
