-- A fresh stream: what a start returns and leaves, as the exported answer and the rooms at exit.
use Rattle.std.specs.Prelude.{Result, Ok, Err}
use mathlib.Core.Path.{◌≡◌, refl, ap, ◌∙◌}
use mathlib.Core.List.{List}
use Prim.Native.Nat.{ℕ, zero, suc, ◌≤◌}
use native.Mathlib.Omega.{arith}
use lib.Ieee.{Float}
use Rattle.loops.specs.Refusal.{taken}
use Rattle.loops.proofs.Refusal.{taken_new}
use Rattle.definition.specs.declared.refusal.Refusal.{Refusal}
use Rattle.definition.specs.declared.IvectorInfo.{IvectorInfo}
use Rattle.definition.specs.declared.IvectorStream.{IvectorStream}
use Rattle.definition.specs.declared.StreamCall.{StreamCall}
use Rattle.definition.specs.declared.RoomLengths.{RoomLengths}
use Rattle.definition.specs.declared.TableLengths.{TableLengths}
use Rattle.definition.specs.Number.{refused_by}
use Rattle.definition.specs.Stream.{new_refusal}
use Rattle.program.specs.Rooms.{Rooms}
use Rattle.program.specs.Calls.{call_of, fresh_stream, new_answer}
use Rattle.program.specs.Session.{Program, program}
use Rattle.stream.proofs.Records.{some_number}
use Rattle.stream.proofs.Replies.{new_refused, new_done}
use Rattle.answers.specs.Answers.{made, new_stream_answer}

-- a start with refusal n, from the program p₀ to p, y being the fresh rooms
module _ (i : IvectorInfo) (z : RoomLengths) (n : ℕ) (p p₀ : Program) (y : Rooms) (e : p ≡ taken n (program (fresh_stream i z) y) p₀) where
  record_is : n ≡ 0 → p.stream ≡ fresh_stream i z
  record_is h = ap (λ (p : Program). p.stream) (e ∙ taken_new n (program (fresh_stream i z) y) p₀ h)

  -- no frame is in it
  pub fresh_few : n ≡ 0 → (p.stream.accepted ≤ 1000000000) × (p.stream.mark ≤ 1000000000)
  unfolding fresh_stream
  fresh_few h =
      let f = record_is h in
      (omega (arith, ap (λ (t : IvectorStream). t.accepted) f), omega (arith, ap (λ (t : IvectorStream). t.mark) f))

  fresh_rooms_are : p.rooms ≡ taken n y p₀.rooms
  fresh_rooms_are = ap (λ (p : Program). p.rooms) e ∙ by n
    where
      by : (m : ℕ) → (taken m (program (fresh_stream i z) y) p₀).rooms ≡ taken m y p₀.rooms
      by zero = refl
      by (suc m) = refl

-- the answer: the start's refusal r, and the record that it left
made_is : (i : IvectorInfo) (t : TableLengths) (z : RoomLengths) (r : Result Unit Refusal) (p p₀ : Program) (y : Rooms)
    → refused_by r ≡ new_refusal i t z → p ≡ taken (refused_by r) (program (fresh_stream i z) y) p₀ → made r p.stream ≡ new_answer i t z
made_is i t z (Ok a) p p₀ y e f = new_done i t z e (ap (λ (s : IvectorStream). call_of 0 s 0 0) (record_is i z 0 p p₀ y f refl))
made_is i t z (Err x) p p₀ y e f = new_refused i t z e (some_number x)

-- all that a call says of it: the answer a, the rooms w and the scratch at exit
pub fresh_told : (i : IvectorInfo) (t : TableLengths) (z : RoomLengths) (r : Result Unit Refusal) (p p₀ : Program) (y : Rooms) {a : StreamCall} {w : Rooms} {m m₀ : List Float}
    → refused_by r ≡ new_refusal i t z → p ≡ taken (refused_by r) (program (fresh_stream i z) y) p₀ → a ≡ new_stream_answer i (made r p.stream) → w ≡ p.rooms → m ≡ m₀
    → (a ≡ new_stream_answer i (new_answer i t z)) × (w ≡ taken (new_refusal i t z) y p₀.rooms) × (m ≡ m₀)
fresh_told i t z r p p₀ y e f g h k = (
  g ∙ ap (new_stream_answer i) (made_is i t z r p p₀ y e f),
  h ∙ fresh_rooms_are i z (refused_by r) p p₀ y f ∙ ap (λ (n : ℕ). taken n y p₀.rooms) e,
  k,
)
