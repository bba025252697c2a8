-- Over every list of steps the stream and the vectors are those of the commands given as plain calls (`board-keeps`); on a fresh stream those are
-- the keeping machine's (`board-machine`). Bit 2 is 1 exactly when a push of a proper frame would be taken (`room-exact`).
use Rattle.std.specs.Prelude.{if◌then◌else◌}
use mathlib.Core.Path.{◌≡◌, refl, sym, ap, ap₂, ◌∙◌}
use mathlib.Core.Bool.{Bool, true, false}
use mathlib.Core.List.{List, [], ◌∷◌, ◌++◌}
use Prim.Native.Nat.{ℕ, zero, suc, ◌+◌, ◌*◌, ◌/◌, ◌%◌, ◌<◌}
use native.Mathlib.Nat.{mod-lt}
use native.Mathlib.Omega.{arith}
use lib.ListN.{length, drop}
use lib.Dec.{eqb}
use lib.Ieee.{Float}
use Rattle.loops.specs.Lists.{over}
use Rattle.loops.specs.Refusal.{taken}
use Rattle.definition.specs.Model.{Tables}
use Rattle.definition.specs.Machine.{Call, push, finish, forget, fetch, bits_of}
use Rattle.program.specs.Calls.{Step, fresh_rooms}
use Rattle.program.specs.Session.{Program, program, stepped, reply, step_of, program_after, program_answers}
use Rattle.program.proofs.Keeps.{keeps}
use Rattle.board.specs.Board.{byte, frame_number, bit, held_count, room_for_push, command_of, call_flags, rewritten, Board, settled, block_refusal, performed, board_step}
use Rattle.board.specs.Board.{HostStep, lent_to, calls_of, commands, buffer_of, vectors_of, board_after, board_vectors, BoardKeeps, RoomExact, BoardMachine}
use Rattle.board.proofs.Bytes.{flags_low, third-bit}
use Rattle.board.proofs.Room.{room_taken, taken_room}

-- ---- one call or none

abbrev One : List Call → Type 0
One [] = Unit {0}
One (c ∷ []) = Unit {0}
One (c ∷ d ∷ cs) = ⊥

one_of : (a b c d : Bool) (u v w x : Call) → One (if a then (u ∷ []) else (if b then (v ∷ []) else (if c then (w ∷ []) else (if d then (x ∷ []) else []))))
one_of true b c d u v w x = tt
one_of false true c d u v w x = tt
one_of false false true d u v w x = tt
one_of false false false true u v w x = tt
one_of false false false false u v w x = tt

one_command : (b : List ℕ) (x : List Float) (m : ℕ) → One (command_of b x m)
unfolding command_of
one_command b x m =
    let k = byte b 0 in
    one_of (eqb k 1) (eqb k 2) (eqb k 3) (eqb k 4) (push x) finish (forget (frame_number b)) (fetch (frame_number b) m)

one-taken : (r : ℕ) (cs : List Call) → One cs → One (taken r cs [])
one-taken zero cs h = h
one-taken (suc r) cs h = tt

one-step : (h : HostStep) → One (calls_of h)
unfolding calls_of
one-step h = one-taken (block_refusal h.block) _ (one_command h.block h.frame (length h.vector))

-- ---- a step and a list of steps

module _ (t : Tables) (n : ℕ) where
  given : (p : Program) (v : List ℕ) (x : Step) → taken x.refusal (over (bits_of x.vector) v) v ≡ over (reply p x).vector v
  unfolding reply over
  given p v x = by x.refusal
    where
      by : (r : ℕ) → let y : Step = record { refusal = r; stream = x.stream; rooms = x.rooms; vector = x.vector; nans = x.nans } in
          taken r (over (bits_of x.vector) v) v ≡ over (reply p y).vector v
      by zero = refl
      by (suc r) = refl

  performed_stream : (a : Board) (cs : List Call) → One cs → (performed t n a cs).stream ≡ program_after t n a.stream cs
  unfolding performed program_after
  performed_stream a [] h = refl
  performed_stream a (c ∷ []) h = refl
  performed_stream a (c ∷ d ∷ cs) h = absurd h

  performed_vector : (a : Board) (cs : List Call) → One cs → (performed t n a cs).vector ≡ buffer_of a.vector cs (program_answers t n a.stream cs)
  unfolding performed program_answers
  performed_vector a [] h = refl
  performed_vector a (c ∷ []) h = given a.stream a.vector (step_of t n a.stream c)
  performed_vector a (c ∷ d ∷ cs) h = absurd h

  -- one step, taken or of another length
  abbrev Done : Board → List Call → Board → Type 0
  Done a cs b = (b.stream ≡ program_after t n a.stream cs) × (b.vector ≡ buffer_of a.vector cs (program_answers t n a.stream cs))

  done : (r : ℕ) (a : Board) (cs : List Call) → One cs → Done a (taken r cs []) (taken r (performed t n a cs) a)
  unfolding program_after
  done zero a cs h = (performed_stream a cs h, performed_vector a cs h)
  done (suc r) a cs h = (refl, refl)

  step_done : (p : Program) (h : HostStep) → Done (lent_to p h) (calls_of h) (board_step t n h.frame (lent_to p h))
  unfolding board_step calls_of
  step_done p h = done (block_refusal h.block) (lent_to p h) _ (one_command h.block h.frame (length h.vector))

  after_append : (p : Program) (cs ds : List Call) → program_after t n p (cs ++ ds) ≡ program_after t n (program_after t n p cs) ds
  unfolding program_after
  after_append p [] ds = refl
  after_append p (c ∷ cs) ds = after_append (stepped p (step_of t n p c)) cs ds

  -- the answers of a step's call, and those after it
  first_answers : (v : List ℕ) (p : Program) (cs ds : List Call) → One cs
      → buffer_of v cs (program_answers t n p cs) ≡ buffer_of v cs (program_answers t n p (cs ++ ds))
  unfolding program_answers
  first_answers v p [] ds h = refl
  first_answers v p (c ∷ []) ds h = refl
  first_answers v p (c ∷ d ∷ cs) ds h = absurd h

  other_answers : (p : Program) (cs ds : List Call) → One cs
      → program_answers t n (program_after t n p cs) ds ≡ drop (length cs) (program_answers t n p (cs ++ ds))
  unfolding program_answers program_after
  other_answers p [] ds h = refl
  other_answers p (c ∷ []) ds h = refl
  other_answers p (c ∷ d ∷ cs) ds h = absurd h

  steps_stream : (p : Program) (hs : List HostStep) → board_after t n p hs ≡ program_after t n p (commands hs)
  unfolding board_after commands program_after
  steps_stream p [] = refl
  steps_stream p (h ∷ hs) =
      let q = (board_step t n h.frame (lent_to p h)).stream in
      steps_stream q hs ∙ ap (λ (q : Program). program_after t n q (commands hs)) (step_done p h).0 ∙ sym (after_append p (calls_of h) (commands hs))

  steps_vectors : (p : Program) (hs : List HostStep) → board_vectors t n p hs ≡ vectors_of hs (program_answers t n p (commands hs))
  unfolding board_vectors vectors_of commands
  steps_vectors p [] = refl
  steps_vectors p (h ∷ hs) =
      let q = (board_step t n h.frame (lent_to p h)).stream in
      let d = step_done p h in
      let one = one-step h in
      let here = d.1 ∙ first_answers h.vector p (calls_of h) (commands hs) one in
      let rest = steps_vectors q hs ∙ ap (λ (q : Program). vectors_of hs (program_answers t n q (commands hs))) d.0 ∙ ap (vectors_of hs) (other_answers p (calls_of h) (commands hs) one) in
      ap₂ ◌∷◌ here rest

pub board-keeps : BoardKeeps
board-keeps t n p hs = (steps_stream t n p hs, steps_vectors t n p hs)

-- on a fresh stream the vectors are the keeping machine's
pub board-machine : BoardMachine
board-machine i t z n c e hs = steps_vectors t n (program c.stream (fresh_rooms i z)) hs ∙ ap (vectors_of hs) (keeps i t z n c e (commands hs)).1

-- ---- bit 2

flag_is : (b : List ℕ) (low number held : ℕ) (room : Bool) → byte (rewritten b low number held room) 1 ≡ low + 4 * bit room
unfolding rewritten
flag_is b low number held room = refl

bit-yes : (r : Bool) → bit r ≡ 1 → r ≡ true
bit-yes true e = refl
bit-yes false e = absurd (omega arith)

module _ (t : Tables) (n : ℕ) where
  -- a settled board's bit 2
  settled_bit : (p : Program) (b : List ℕ) (low number : ℕ) (v : List ℕ) → low < 4
      → byte (settled p b low number v).block 1 / 4 % 2 ≡ bit (room_for_push p.stream p.rooms.rings)
  settled_bit p b low number v h =
      let s = p.stream in
      let z = p.rooms.rings in
      ap (λ (k : ℕ). k / 4 % 2) (flag_is b low number (held_count s z) (room_for_push s z)) ∙ third-bit low (room_for_push s z) h

  performed_bit : (a : Board) (cs : List Call) → let b = performed t n a cs in byte b.block 1 / 4 % 2 ≡ bit (room_for_push b.stream.stream b.stream.rooms.rings)
  unfolding performed
  performed_bit a [] = settled_bit a.stream a.block (byte a.block 1 % 4) (byte a.block 12) a.vector (mod-lt (byte a.block 1) (omega arith))
  performed_bit a (c ∷ cs) =
      let x = step_of t n a.stream c in
      let r = x.refusal in
      settled_bit (stepped a.stream x) a.block (call_flags (eqb (byte a.block 0) 4) r) r (taken r (over (bits_of x.vector) a.vector) a.vector) (flags_low (eqb (byte a.block 0) 4) r)

  abbrev Bit : Board → Type 0
  Bit b = byte b.block 1 / 4 % 2 ≡ bit (room_for_push b.stream.stream b.stream.rooms.rings)

  taken_bit : (r : ℕ) (a : Board) (cs : List Call) → r ≡ 0 → Bit (taken r (performed t n a cs) a)
  taken_bit zero a cs e = performed_bit a cs
  taken_bit (suc r) a cs e = absurd (omega arith)

  board_bit : (a : Board) (x : List Float) → block_refusal a.block ≡ 0 → Bit (board_step t n x a)
  unfolding board_step
  board_bit a x e = taken_bit (block_refusal a.block) a (command_of a.block x (length a.vector)) e

pub room-exact : RoomExact
unfolding step_of
room-exact t n a x y e h =
    let b = board_step t n x a in
    let s = b.stream.stream in
    let z = b.stream.rooms.rings in
    (λ k. room_taken s z y h (bit-yes _ (sym (board_bit t n a x e) ∙ k)), λ k. board_bit t n a x e ∙ ap bit (taken_room s z y h k))
