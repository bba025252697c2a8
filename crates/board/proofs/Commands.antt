-- A command: which call it is, that its refusal number fits a byte, and what the block tells once its call is done.
use mathlib.Core.Path.{◌≡◌, refl, sym, ap, ap₂, ◌∙◌}
use mathlib.Core.Bool.{Bool, true, false, not, cond}
use mathlib.Core.List.{List, [], ◌∷◌, ◌++◌}
use Prim.Native.Nat.{ℕ, zero, suc, ◌%◌, ◌<◌}
use native.Mathlib.Omega.{arith}
use lib.ListN.{length}
use lib.Dec.{eqb, ltb}
use lib.Ieee.{Float}
use borrow.Author.Tests.{ltb-true, eqb-true, eq-eqb, ne_eqb}
use Rattle.loops.specs.Lists.{over}
use Rattle.loops.specs.Refusal.{first_of, taken}
use Rattle.loops.proofs.Refusal.{first_is, first-none, taken_new}
use Rattle.definition.specs.declared.IvectorStream.{IvectorStream}
use Rattle.definition.specs.declared.StreamCall.{StreamCall}
use Rattle.definition.specs.Model.{Tables}
use Rattle.definition.specs.Machine.{Call, push, finish, forget, fetch, push_tests, fetch_tests, bits_of, not_finite}
use Rattle.program.specs.Rooms.{Rings, EstimateRooms, Rooms, rooms_from}
use Rattle.program.specs.Calls.{answer_of, RingStep, RingCall, ring_call, done_on, record_tests, push_frame, set_input_finished, forget_before, Step, FetchCall, fetch_call, fetched_on, fetch_refusal, get_frame}
use Rattle.program.specs.Session.{Program, program, on_rings, stepped, step_of}
use Rattle.stream.proofs.Refusals.{push_tests_is}
use Rattle.board.specs.declared.register_bytes.Command.{Command}
use Rattle.board.specs.declared.register_bytes.Command.TheVariants as C
use Rattle.board.specs.Board.{byte, frame_number, command_of, call_flags, Board, board, settled, held_count, room_for_push, rewritten, block_refusal, performed, board_step, FetchTaken}
use Rattle.board.specs.Inner.RegisterBytes.{command_at, commanded, RingDone}
use Rattle.board.proofs.Room.{told-number}

-- ---- the block's length

abbrev long : List ℕ → Bool
long b = not (eqb (length b) 16)

pub block-whole : (b : List ℕ) → length b ≡ 16 → 0 ≡ block_refusal b
unfolding block_refusal
block-whole b h = first-none ((long b, 10) ∷ []) (ap not (eq-eqb _ _ h), tt)

pub block-long : (b : List ℕ) → (length b ≡ 16 → ⊥) → 10 ≡ block_refusal b
unfolding block_refusal
block-long b h = first_is 0 ((long b, 10) ∷ []) (ap not (ne_eqb _ _ h))

-- ---- the command

pub commanded_is : (b : List ℕ) (x : List Float) (m : ℕ) → commanded (command_at (byte b 0)) b x m ≡ command_of b x m
unfolding command_at command_of
commanded_is b x m = by (eqb (byte b 0) 1) (eqb (byte b 0) 2) (eqb (byte b 0) 3) (eqb (byte b 0) 4)
  where
    by : (p q r f : Bool)
        → commanded (cond p C.Push (cond q C.Finish (cond r C.Forget (cond f C.Fetch C.Nothing)))) b x m
        ≡ cond p (push x ∷ []) (cond q (finish ∷ []) (cond r (forget (frame_number b) ∷ []) (cond f (fetch (frame_number b) m ∷ []) [])))
    by true q r f = refl
    by false true r f = refl
    by false false true f = refl
    by false false false true = refl
    by false false false false = refl

-- the byte of a command, 0 for that of none
abbrev code_of : Command → ℕ
code_of C.Push = 1
code_of C.Finish = 2
code_of C.Forget = 3
code_of C.Fetch = 4
code_of C.Nothing = 0

other : {d : Command} → (code_of d ≡ 4 → ⊥) → d ≡ C.Fetch → ⊥
other h e = h (ap code_of e)

-- a command that is no fetch: its byte is not 4
pub fetch_alone : (k : ℕ) → (command_at k ≡ C.Fetch → ⊥) → eqb k 4 ≡ false
unfolding command_at
fetch_alone k h = ne_eqb k 4 (λ e. h (rw e))

pub fetch_byte_is : (k : ℕ) → command_at k ≡ C.Fetch → eqb k 4 ≡ true
unfolding command_at
fetch_byte_is k = by (eqb k 1) (eqb k 2) (eqb k 3) (eqb k 4)
  where
    by : (p q r f : Bool) → cond p C.Push (cond q C.Finish (cond r C.Forget (cond f C.Fetch C.Nothing))) ≡ C.Fetch → f ≡ true
    by p q r true e = refl
    by true q r false e = absurd (other (λ k. omega (arith, k)) e)
    by false true r false e = absurd (other (λ k. omega (arith, k)) e)
    by false false true false e = absurd (other (λ k. omega (arith, k)) e)
    by false false false false e = absurd (other (λ k. omega (arith, k)) e)

-- what is left
pub nothing : (d : Command) → (d ≡ C.Push → ⊥) → (d ≡ C.Finish → ⊥) → (d ≡ C.Forget → ⊥) → (d ≡ C.Fetch → ⊥) → C.Nothing ≡ d
nothing C.Push h1 h2 h3 h4 = absurd (h1 refl)
nothing C.Finish h1 h2 h3 h4 = absurd (h2 refl)
nothing C.Forget h1 h2 h3 h4 = absurd (h3 refl)
nothing C.Fetch h1 h2 h3 h4 = absurd (h4 refl)
nothing C.Nothing h1 h2 h3 h4 = refl

-- ---- refusal numbers fit a byte

abbrev When : Bool → Type 0 → Type 0
When true P = P
When false P = ⊥

-- every number is below 256: `tt` for a list that is written out
abbrev Small : List (Bool × ℕ) → Type 0
Small [] = Unit {0}
Small (t ∷ ts) = When (ltb t.1 256) (Small ts)

small-step : (b : Bool) (r rest : ℕ) (q : Bool) (P : Type 0) → ltb r 256 ≡ q → When q P → (P → rest < 256) → cond b r rest < 256
small-step true r rest true P e h k = ltb-true r 256 e
small-step false r rest true P e h k = k h
small-step b r rest false P e h k = absurd h

small-first : (ts : List (Bool × ℕ)) → Small ts → first_of ts < 256
unfolding first_of
small-first [] h = omega arith
small-first (t ∷ ts) h = small-step t.0 t.1 (first_of ts) (ltb t.1 256) (Small ts) refl h (small-first ts)

module _ (s : IvectorStream) (z : Rings) where
  pub push_small : (x : List Float) → (push_frame s z x).refusal < 256
  unfolding push_frame push_tests
  push_small x = small-first (record_tests s z ++ push_tests_is s z x) tt

  pub finish_small : (set_input_finished s z).refusal < 256
  unfolding set_input_finished
  finish_small = small-first (record_tests s z) tt

  pub forget_small : (f : ℕ) → (forget_before s z f).refusal < 256
  unfolding forget_before
  forget_small f = small-first (record_tests s z) tt

  -- the number that a call returns
  module _ (y : RingStep) {r : StreamCall} {w : Rings} (h : ring_call r w ≡ done_on s z y) where
    pub ring_number : r.answer.refusal ≡ y.refusal
    ring_number = ap (λ (q : RingCall). q.call.answer.refusal) h ∙ told-number y.refusal (taken y.refusal y.stream s) 0 0

    pub ring_small : y.refusal < 256 → r.answer.refusal < 256
    ring_small k = omega (arith, ring_number)

pub fetch_small : (s : IvectorStream) (t : Tables) (z : Rooms) (n f m : ℕ) → (get_frame s t z n f m).refusal < 256
unfolding get_frame fetch_refusal fetch_tests
fetch_small s t z n f m = small-first _ tt

module _ (s : IvectorStream) (z : Rooms) (out : List ℕ) (x : Step) {r : StreamCall} {y : Rooms} {out' : List ℕ} (h : fetch_call r y out' ≡ fetched_on s z out x) where
  pub fetch_number : r.answer.refusal ≡ x.refusal
  fetch_number = ap (λ (q : FetchCall). q.call.answer.refusal) h ∙ told-number x.refusal (taken x.refusal x.stream s) (taken x.refusal (not_finite x.vector) 0) (taken x.refusal x.nans 0)

-- what a fetch returns fits a byte
pub fetch_byte : (s : IvectorStream) (t : Tables) (z : Rooms) (n f m : ℕ) (out : List ℕ) {r : StreamCall} {y : Rooms} {out' : List ℕ}
    → fetch_call r y out' ≡ fetched_on s z out (get_frame s t z n f m) → r.answer.refusal < 256
fetch_byte s t z n f m out h = let x = get_frame s t z n f m in omega (arith, fetch_small s t z n f m, fetch_number s z out x h)

-- ---- what a step leaves

-- the block once a command's call is answered r, the stream being p
abbrev told_so : List ℕ → List ℕ → Bool → Program → ℕ → Board
told_so b v f p r = settled p b (call_flags f r) r v

-- a block b rewritten for a stream with record s and rings z
abbrev pub Settled : List ℕ → IvectorStream → Rings → ℕ → ℕ → List ℕ → Type 0
Settled b s z low number b' = b' ≡ rewritten b low number (held_count s z) (room_for_push s z)

-- the number n that code tells is the one that a call's answer has
pub told_as : (b : List ℕ) (f : Bool) (s : IvectorStream) (z : Rings) (i j : ℕ) {n k : ℕ} {b' : List ℕ} → n ≡ k → Settled b s z (call_flags f n) n b'
    → Settled b s z (call_flags f (answer_of k s i j).refusal) (answer_of k s i j).refusal b'
told_as b f s z i j {k = k} e h =
    h ∙ ap (λ (n : ℕ). rewritten b (call_flags f n) n (held_count s z) (room_for_push s z)) (e ∙ sym (told-number k s i j))

-- beside any other rooms and buffer
settled_is : (b : List ℕ) (v : List ℕ) (e : EstimateRooms) (s : IvectorStream) (z : Rings) (low number : ℕ) {b' : List ℕ} → Settled b s z low number b'
    → board (program s (rooms_from z e)) b' v ≡ settled (program s (rooms_from z e)) b low number v
settled_is b v e s z low number g = ap (λ (b' : List ℕ). board (program s (rooms_from z e)) b' v) g

taken-program : (r : ℕ) (a s : IvectorStream) (w z : Rings) (e : EstimateRooms)
    → program (taken r a s) (rooms_from (taken r w z) e) ≡ taken r (program a (rooms_from w e)) (program s (rooms_from z e))
taken-program zero a s w z e = refl
taken-program (suc r) a s w z e = refl

-- a call that gives no vector leaves the buffer
no_vector : (r : ℕ) (v : List ℕ) → v ≡ taken r (over (bits_of []) v) v
unfolding over
no_vector zero v = refl
no_vector (suc r) v = refl

module _ (s : IvectorStream) (z : Rings) (b : List ℕ) (x : List Float) where
  -- a command that is a call on the rings
  ring_done : (c : Call) (y : RingStep) → eqb (byte b 0) 4 ≡ false → ((m : ℕ) → command_of b x m ≡ (c ∷ []))
      → ((t : Tables) (n : ℕ) (e : EstimateRooms) → step_of t n (program s (rooms_from z e)) c ≡ on_rings (rooms_from z e) y)
      → {r : StreamCall} {w : Rings} → ring_call r w ≡ done_on s z y
      → {b' : List ℕ} → Settled b r.stream w (call_flags false r.answer.refusal) r.answer.refusal b'
      → RingDone s z b x r.stream w b'
  unfolding performed
  ring_done c y f cs st {r} {w} h {b'} g = done
    where
      done : (t : Tables) (n : ℕ) (e : EstimateRooms) (v : List ℕ)
          → board (program r.stream (rooms_from w e)) b' v ≡ performed t n (board (program s (rooms_from z e)) b v) (command_of b x (length v))
      done t n e v =
          let p = program s (rooms_from z e) in
          let left : program r.stream (rooms_from w e) ≡ stepped p (on_rings (rooms_from z e) y) =
          ap₂ (λ (s : IvectorStream) (w : Rings). program s (rooms_from w e)) (ap (λ (q : RingCall). q.call.stream) h) (ap (λ (q : RingCall). q.rings) h)
          ∙ taken-program y.refusal y.stream s y.rings z e in
          settled_is b v e r.stream w _ _ g
          ∙ ap₂ (told_so b v false) left (ring_number s z y h)
          ∙ ap (λ (v : List ℕ). told_so b v false (stepped p (on_rings (rooms_from z e) y)) y.refusal) (no_vector y.refusal v)
          ∙ sym (ap₂ (λ (f : Bool) (k : Step). told_so b (taken k.refusal (over (bits_of k.vector) v) v) f (stepped p k) k.refusal) f (st t n e))
          ∙ sym (ap (performed t n (board p b v)) (cs (length v)))

  -- the calls of a command
  named : {d : Command} → d ≡ command_at (byte b 0) → (m : ℕ) → command_of b x m ≡ commanded d b x m
  named e m = sym (commanded_is b x m) ∙ ap (λ (d : Command). commanded d b x m) (sym e)

  no_fetch : {d : Command} → d ≡ command_at (byte b 0) → (d ≡ C.Fetch → ⊥) → eqb (byte b 0) 4 ≡ false
  no_fetch e h = fetch_alone (byte b 0) (λ k. h (e ∙ k))

  module _ {r : StreamCall} {w : Rings} {b' : List ℕ} (g : Settled b r.stream w (call_flags false r.answer.refusal) r.answer.refusal b') where
    pub push_done : C.Push ≡ command_at (byte b 0) → ring_call r w ≡ done_on s z (push_frame s z x) → RingDone s z b x r.stream w b'
    unfolding step_of
    push_done e h = ring_done (push x) (push_frame s z x) (no_fetch e (other (λ k. omega (arith, k)))) (named e) (λ t n k. refl) h g

    pub finish_done : C.Finish ≡ command_at (byte b 0) → ring_call r w ≡ done_on s z (set_input_finished s z) → RingDone s z b x r.stream w b'
    unfolding step_of
    finish_done e h = ring_done finish (set_input_finished s z) (no_fetch e (other (λ k. omega (arith, k)))) (named e) (λ t n k. refl) h g

    pub forget_done : C.Forget ≡ command_at (byte b 0) → (f : ℕ) → f ≡ frame_number b → ring_call r w ≡ done_on s z (forget_before s z f)
        → RingDone s z b x r.stream w b'
    unfolding step_of
    forget_done e f k h =
        ring_done (forget (frame_number b)) (forget_before s z (frame_number b)) (no_fetch e (other (λ k. omega (arith, k)))) (named e) (λ t n k. refl)
        (h ∙ ap (λ (f : ℕ). done_on s z (forget_before s z f)) k) g

  -- no command
  pub none_done : C.Nothing ≡ command_at (byte b 0) → {b' : List ℕ} → Settled b s z (byte b 1 % 4) (byte b 12) b' → RingDone s z b x s z b'
  unfolding performed
  none_done d {b'} g =
      λ t n e v. settled_is b v e s z _ _ g ∙ sym (ap (performed t n (board (program s (rooms_from z e)) b v)) (named d (length v)))

-- a fetch
taken-rooms : (r : ℕ) (a s : IvectorStream) (w z : Rooms) → program (taken r a s) (taken r w z) ≡ taken r (program a w) (program s z)
taken-rooms zero a s w z = refl
taken-rooms (suc r) a s w z = refl

module _ (t : Tables) (n : ℕ) (s : IvectorStream) (z : Rooms) (b : List ℕ) (x : List Float) (out : List ℕ) (e : C.Fetch ≡ command_at (byte b 0)) where
  abbrev asked : Step
  asked = get_frame s t z n (frame_number b) (length out)

  fetch_said : {r : StreamCall} {y : Rooms} {out' : List ℕ} → fetch_call r y out' ≡ fetched_on s z out asked
      → {b' : List ℕ} → Settled b r.stream y.rings (call_flags true r.answer.refusal) r.answer.refusal b'
      → board (program r.stream y) b' out' ≡ performed t n (board (program s z) b out) (command_of b x (length out))
  unfolding performed step_of
  fetch_said {r} {y} {out'} h {b'} g =
      let p = program s z in
      let left : program r.stream y ≡ stepped p asked =
      ap₂ program (ap (λ (q : FetchCall). q.call.stream) h) (ap (λ (q : FetchCall). q.rooms) h) ∙ taken-rooms asked.refusal asked.stream s asked.rooms z in
      settled_is b out' y.estimate r.stream y.rings _ _ g
      ∙ ap₂ (told_so b out' true) left (fetch_number s z out asked h)
      ∙ ap (λ (v : List ℕ). told_so b v true (stepped p asked) asked.refusal) (ap (λ (q : FetchCall). q.output) h)
      ∙ ap (λ (f : Bool). told_so b (taken asked.refusal (over (bits_of asked.vector) out) out) f (stepped p asked) asked.refusal) (sym (fetch_byte_is (byte b 0) (sym e)))
      ∙ sym (ap (performed t n (board p b out)) (named s z.rings b x e (length out)))

  -- f being the block's frame number
  module _ (f : ℕ) (f-is : f ≡ frame_number b) where
    abbrev asked_at : Step
    asked_at = get_frame s t z n f (length out)

    pub fetch_done : {r : StreamCall} {y : Rooms} {out' : List ℕ} → fetch_call r y out' ≡ fetched_on s z out asked_at
        → {b' : List ℕ} → Settled b r.stream y.rings (call_flags true r.answer.refusal) r.answer.refusal b'
        → board (program r.stream y) b' out' ≡ performed t n (board (program s z) b out) (command_of b x (length out))
    fetch_done h g = fetch_said (h ∙ ap (λ (f : ℕ). fetched_on s z out (get_frame s t z n f (length out))) f-is) g

    -- scratch, where no fetch is taken
    pub scratch_kept_is : {k l : List Float} → ((asked_at.refusal ≡ 0 → ⊥) → k ≡ l) → length b ≡ 16 → (FetchTaken t n (board (program s z) b out) → ⊥) → k ≡ l
    unfolding step_of
    scratch_kept_is h c g = h (λ i. g (sym (block-whole b c), eqb-true (byte b 0) 4 (fetch_byte_is (byte b 0) (sym e)), sym (ap (λ (f : ℕ). (get_frame s t z n f (length out)).refusal) f-is) ∙ i))

pub step-whole : (t : Tables) (n : ℕ) (x : List Float) (a : Board) → length a.block ≡ 16
    → performed t n a (command_of a.block x (length a.vector)) ≡ board_step t n x a
unfolding board_step
step-whole t n x a e = sym (taken_new (block_refusal a.block) _ a (sym (block-whole a.block e)))

pub step_refused : (t : Tables) (n : ℕ) (x : List Float) (a : Board) → (length a.block ≡ 16 → ⊥) → a ≡ board_step t n x a
unfolding board_step
step_refused t n x a h = rw (← block-long a.block h)
