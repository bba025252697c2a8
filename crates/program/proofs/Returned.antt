-- What a call's contract says of it, as a step of the program: by its refusal number, what it returns, the rooms and the output (`done_is`, `fetched_is`).
use mathlib.Core.Path.{◌≡◌, refl, sym, ap, ap₂}
use mathlib.Core.List.{List}
use Prim.Native.Nat.{ℕ, zero, suc}
use lib.Dec.{eqb}
use Rattle.loops.specs.Lists.{over, those}
use Rattle.loops.proofs.Choose.{by-test}
use Rattle.definition.specs.declared.IvectorStream.{IvectorStream}
use Rattle.definition.specs.declared.StreamCall.{StreamCall}
use Rattle.definition.specs.Machine.{not_finite}
use Rattle.program.specs.Rooms.{Rooms, rooms_from}
use Rattle.program.specs.Calls.{answer_of, RingStep, done_on, Step, FetchCall, fetch_call, fetched_on}
use Rattle.program.specs.Session.{Program, program, on_rings, stepped, reply}

-- the number that is answered is the step's, 10 too
pub number_is : (r : ℕ) (s : IvectorStream) (n m : ℕ) → (answer_of r s n m).refusal ≡ r
unfolding answer_of
number_is r s n m = by-test (eqb r 10) (λ e. rw e) (λ e. rw e)

-- what a step on p returns; and the rooms and an output after it
abbrev pub returned : Program → Step → StreamCall
returned p x = record { answer = (reply p x).told; stream = (stepped p x).stream }

abbrev pub left : Program → List ℕ → Step → FetchCall
left p out x = fetch_call (returned p x) (stepped p x).rooms (over (reply p x).vector out)

module _ (p : Program) (out : List ℕ) where
  pub fetched_is : (x : Step) → fetched_on p.stream p.rooms out x ≡ left p out x
  unfolding reply not_finite those over
  fetched_is x = by x.refusal
    where
      by : (r : ℕ) → let y : Step = record { refusal = r; stream = x.stream; rooms = x.rooms; vector = x.vector; nans = x.nans } in
          fetched_on p.stream p.rooms out y ≡ left p out y
      by zero = refl
      by (suc r) = refl

  pub done_is : (x : RingStep) → let d = done_on p.stream p.rooms.rings x in
      fetch_call d.call (rooms_from d.rings p.rooms.estimate) out ≡ left p out (on_rings p.rooms x)
  unfolding reply not_finite those over
  done_is x = by x.refusal
    where
      by : (r : ℕ) → let y : RingStep = record { refusal = r; stream = x.stream; rings = x.rings } in
          let d = done_on p.stream p.rooms.rings y in
          fetch_call d.call (rooms_from d.rings p.rooms.estimate) out ≡ left p out (on_rings p.rooms y)
      by zero = refl
      by (suc r) = refl

-- where a call returned that: the program after it, what it told, and the output
module _ (p : Program) (out : List ℕ) (x : Step) {r : StreamCall} {z : Rooms} {out' : List ℕ} (h : fetch_call r z out' ≡ left p out x) where
  pub left_program : stepped p x ≡ program r.stream z
  left_program = sym (ap₂ program (ap (λ (q : FetchCall). q.call.stream) h) (ap (λ (q : FetchCall). q.rooms) h))

  pub left_told : (reply p x).told ≡ r.answer
  left_told = sym (ap (λ (q : FetchCall). q.call.answer) h)

  pub left_output : out' ≡ over (reply p x).vector out
  left_output = ap (λ (q : FetchCall). q.output) h
