-- register_bytes: words of inner contracts, a command and a step over the rings.
use Rattle.std.specs.Prelude.{◌≡◌, List, [], ◌∷◌, ℕ, eqb, length, Float, if◌then◌else◌}
use Rattle.definition.specs.declared.IvectorStream.{IvectorStream}
use Rattle.definition.specs.Machine.{Call, push, finish, forget, fetch}
use Rattle.definition.specs.Model.{Tables}
use Rattle.program.specs.Rooms.{Rings, EstimateRooms, rooms_from}
use Rattle.program.specs.Session.{program}
use Rattle.board.specs.Board.{frame_number, command_of, board, performed}
use Rattle.board.specs.declared.register_bytes.Command.{Command}
use Rattle.board.specs.declared.register_bytes.Command.TheVariants as C

-- the command of byte 0
unfoldable pub command_at : ℕ → Command
command_at k = if eqb k 1 then C.Push else (if eqb k 2 then C.Finish else (if eqb k 3 then C.Forget else (if eqb k 4 then C.Fetch else C.Nothing)))

-- the plain call that a command is, of a block b with a frame buffer x and a vector buffer of m numbers
abbrev pub commanded : Command → List ℕ → List Float → ℕ → List Call
commanded C.Push b x m = push x ∷ []
commanded C.Finish b x m = finish ∷ []
commanded C.Forget b x m = forget (frame_number b) ∷ []
commanded C.Fetch b x m = fetch (frame_number b) m ∷ []
commanded C.Nothing b x m = []

-- a step that is no fetch leaves a record, rings and a block: whatever is lent besides, it is what the block's command performs
abbrev pub RingDone : IvectorStream → Rings → List ℕ → List Float → IvectorStream → Rings → List ℕ → Type 0
RingDone s z b x s' z' b' =
    (t : Tables) (n : ℕ) (e : EstimateRooms) (v : List ℕ)
    → board (program s' (rooms_from z' e)) b' v ≡ performed t n (board (program s (rooms_from z e)) b v) (command_of b x (length v))

abbrev pub NoFetch : Command → Type 0
NoFetch c = c ≡ C.Fetch → ⊥
