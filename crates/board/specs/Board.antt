-- A board with registers: sixteen bytes between a host and a stream.
--     0 command   1 flags   2 mask   3 interrupt   4 to 7 frame number   8 to 11 frames held   12 refusal number   13 to 15 zero
use Rattle.std.specs.Prelude.{◌≡◌, ◌↔◌, ℕ, zero, suc, ◌+◌, ◌*◌, ◌/◌, ◌%◌, Bool, true, not, ◌&&◌, ◌||◌, List, [], ◌∷◌, ◌++◌, length, get_or, drop, replicate, eqb, Float, if◌then◌else◌, Ok}
use Rattle.std.specs.Float.Ieee.Scale.{finite}
use Rattle.loops.specs.Lists.{all_of, over}
use Rattle.loops.specs.Refusal.{first_of, taken}
use Rattle.floats.specs.Operators.{zero₃₂}
use Rattle.definition.specs.declared.IvectorInfo.{IvectorInfo}
use Rattle.definition.specs.declared.IvectorStream.{IvectorStream}
use Rattle.definition.specs.declared.StreamCall.{StreamCall}
use Rattle.definition.specs.Reader.{little_endian}
use Rattle.definition.specs.Model.{Tables, table_lengths_of, model_in}
use Rattle.definition.specs.Machine.{Call, push, finish, forget, fetch, Answer, answers, frames_held, bits_of}
use Rattle.program.specs.Rooms.{Rings, Rooms, ring_lengths_of, room_lengths_of}
use Rattle.program.specs.Calls.{new_answer, fresh_rooms, record_tests, push_frame}
use Rattle.program.specs.Session.{Program, program, stepped, step_of, program_after, program_answers}

-- ---- bytes and bits

-- byte i of a block
abbrev pub byte : List ℕ → ℕ → ℕ
byte b i = get_or b i 0

-- the first k bytes of a number, the lowest first
unfoldable pub bytes_of : ℕ → ℕ → List ℕ
bytes_of zero n = []
bytes_of (suc k) n = (n % 256) ∷ bytes_of k (n / 256)

abbrev pub frame_number : List ℕ → ℕ
frame_number b = little_endian (byte b 4 ∷ byte b 5 ∷ byte b 6 ∷ byte b 7 ∷ [])

abbrev pub bit : Bool → ℕ
bit t = if t then 1 else 0

abbrev pub odd : ℕ → Bool
odd n = eqb (n % 2) 1

-- byte 3: 1 where one of bits 0 to 2 is 1 in the flags and in the mask
unfoldable pub interrupt_of : ℕ → ℕ → ℕ
interrupt_of flags mask =
    bit ((odd flags && odd mask) || ((odd (flags / 2) && odd (mask / 2)) || (odd (flags / 4) && odd (mask / 4))))

-- ---- the stream behind the block

-- bytes 8 to 11: frames held; 0 where the record falls under 10
unfoldable pub held_count : IvectorStream → Rings → ℕ
held_count s z = taken (first_of (record_tests s z)) (frames_held s.accepted s.mark) 0

-- bit 2: whether a push of a frame of zeros would be taken. A frame of zeros is a proper frame, and of every other one this says the same: `RoomExact`.
unfoldable pub room_for_push : IvectorStream → Rings → Bool
room_for_push s z = eqb (push_frame s z (replicate s.info.dims.base_dim zero₃₂)).refusal 0

-- ---- one step

-- the plain call that the command of a block of sixteen bytes is, x being the frame buffer and m the length of the vector buffer: one call, or none
unfoldable pub command_of : List ℕ → List Float → ℕ → List Call
command_of b x m =
    let k = byte b 0 in
    if eqb k 1 then (push x ∷ []) else (if eqb k 2 then (finish ∷ []) else (if eqb k 3 then (forget (frame_number b) ∷ []) else (if eqb k 4 then (fetch (frame_number b) m ∷ []) else [])))

-- bits 0 and 1 after a command that was answered r: a fetch that was taken; refused
unfoldable pub call_flags : Bool → ℕ → ℕ
call_flags fetches r = bit (fetches && eqb r 0) + 2 * bit (not (eqb r 0))

-- a block after a step that leaves frames held and room for a push so: `low` is bits 0 and 1, `number` byte 12
unfoldable pub rewritten : List ℕ → ℕ → ℕ → ℕ → Bool → List ℕ
rewritten b low number held room =
    let flags = low + 4 * bit room in
    0 ∷ flags ∷ byte b 2 ∷ interrupt_of flags (byte b 2) ∷ byte b 4 ∷ byte b 5 ∷ byte b 6 ∷ byte b 7 ∷ (bytes_of 4 held ++ (number ∷ 0 ∷ 0 ∷ 0 ∷ []))

-- what a step is lent, and what it leaves: the stream (record and rooms), the block, the vector buffer
pub record Board : Type 0 where
  pub stream : Program
  pub block : List ℕ
  pub vector : List ℕ

abbrev pub board : Program → List ℕ → List ℕ → Board
board p b v = record { stream = p; block = b; vector = v }

abbrev pub settled : Program → List ℕ → ℕ → ℕ → List ℕ → Board
settled p b low number v =
    let s = p.stream in
    let z = p.rooms.rings in
    board p (rewritten b low number (held_count s z) (room_for_push s z)) v

-- the step's answer: 10 for a block of another length
unfoldable pub block_refusal : List ℕ → ℕ
block_refusal b = first_of ((not (eqb (length b) 16), 10) ∷ [])

-- over lent tables t, and scratch of n numbers
module _ (t : Tables) (n : ℕ) where
  -- with no command bits 0 and 1 and byte 12 are kept; a call leaves what it leaves as a plain one
  unfoldable pub performed : Board → List Call → Board
  performed a [] = settled a.stream a.block (byte a.block 1 % 4) (byte a.block 12) a.vector
  performed a (c ∷ cs) =
      let x = step_of t n a.stream c in
      let r = x.refusal in
      settled (stepped a.stream x) a.block (call_flags (eqb (byte a.block 0) 4) r) r (taken r (over (bits_of x.vector) a.vector) a.vector)

  -- with a frame buffer x
  unfoldable pub board_step : List Float → Board → Board
  board_step x a = taken (block_refusal a.block) (performed a (command_of a.block x (length a.vector))) a

  -- whether a step is a fetch that is taken: only then is the scratch free
  abbrev pub FetchTaken : Board → Type 0
  FetchTaken a =
      (block_refusal a.block ≡ 0) × (byte a.block 0 ≡ 4) × ((step_of t n a.stream (fetch (frame_number a.block) (length a.vector))).refusal ≡ 0)

-- ---- lists of steps

-- what a host lends to a step beside the stream: the block as it wrote it, and the two buffers
pub record HostStep : Type 0 where
  pub block : List ℕ
  pub frame : List Float
  pub vector : List ℕ

abbrev pub lent_to : Program → HostStep → Board
lent_to p h = board p h.block h.vector

-- the plain calls of a step, and of a list of steps; a block of another length asks for none
unfoldable pub calls_of : HostStep → List Call
calls_of h = taken (block_refusal h.block) (command_of h.block h.frame (length h.vector)) []

unfoldable pub commands : List HostStep → List Call
commands [] = []
commands (h ∷ hs) = calls_of h ++ commands hs

-- the vector buffers that plain answers give: a step that is a call has its answer's vector at the front of its buffer
abbrev pub buffer_of : List ℕ → List Call → List Answer → List ℕ
buffer_of v [] rs = v
buffer_of v (c ∷ cs) [] = v
buffer_of v (c ∷ cs) (a ∷ rs) = over a.vector v

unfoldable pub vectors_of : List HostStep → List Answer → List (List ℕ)
vectors_of [] rs = []
vectors_of (h ∷ hs) rs = buffer_of h.vector (calls_of h) rs ∷ vectors_of hs (drop (length (calls_of h)) rs)

module _ (t : Tables) (n : ℕ) where
  -- the stream after a list of steps, and the vector buffers that they leave
  unfoldable pub board_after : Program → List HostStep → Program
  board_after p [] = p
  board_after p (h ∷ hs) = board_after (board_step t n h.frame (lent_to p h)).stream hs

  unfoldable pub board_vectors : Program → List HostStep → List (List ℕ)
  board_vectors p [] = []
  board_vectors p (h ∷ hs) = let a = board_step t n h.frame (lent_to p h) in a.vector ∷ board_vectors a.stream hs

-- ---- what is shown

-- over every list of steps, the stream is that of the commands given as plain calls, and so are the vectors
abbrev pub BoardKeeps : Type 0
BoardKeeps =
    (t : Tables) (n : ℕ) (p : Program) (hs : List HostStep)
    → (board_after t n p hs ≡ program_after t n p (commands hs)) × (board_vectors t n p hs ≡ vectors_of hs (program_answers t n p (commands hs)))

-- so, on a fresh stream, the vectors are the keeping machine's
abbrev pub BoardMachine : Type 0
BoardMachine =
    (i : IvectorInfo) (t : Tables) (z : Rooms) (n : ℕ) (c : StreamCall)
    → new_answer i (table_lengths_of t) (room_lengths_of z n) ≡ Ok c
    → (hs : List HostStep)
    → board_vectors t n (program c.stream (fresh_rooms i z)) hs ≡ vectors_of hs (answers (model_in i t) (ring_lengths_of z.rings) (commands hs))

-- a proper frame: as wide as the base dimension, all of it finite
abbrev pub Proper : IvectorStream → List Float → Type 0
Proper s x = (length x ≡ s.info.dims.base_dim) × (all_of finite x ≡ true)

-- bit 2 after a step is 1 exactly when a push of a proper frame would be taken then
abbrev pub RoomExact : Type 0
RoomExact =
    (t : Tables) (n : ℕ) (a : Board) (x y : List Float)
    → block_refusal a.block ≡ 0
    → let b = board_step t n x a in
    Proper b.stream.stream y
    → (byte b.block 1 / 4 % 2 ≡ 1) ↔ ((step_of t n b.stream (push y)).refusal ≡ 0)
