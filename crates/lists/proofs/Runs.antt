-- What a run leaves, by its three ways out: a list that is refused, a stream that is not made, and a list that is played. There the program's answers
-- are the keeping machine's by `keeps`.
use Rattle.std.specs.Prelude.{Ok}
use mathlib.Core.Path.{◌≡◌, refl, sym, ap, ◌∙◌}
use mathlib.Core.List.{List}
use Prim.Native.Nat.{ℕ, ◌*◌, ◌/◌, ◌≤◌}
use native.Mathlib.Nat.{div-mul-le_self, le_trans, mul-le-mul_right}
use native.Mathlib.Omega.{arith}
use borrow.Author.Tests.{ltb-false}
use Rattle.loops.specs.Refusal.{taken}
use Rattle.loops.proofs.Refusal.{taken_new, taken_old, none_first}
use Rattle.definition.specs.declared.IvectorInfo.{IvectorInfo}
use Rattle.definition.specs.Model.{Tables, table_lengths_of, model_in}
use Rattle.definition.specs.Machine.{Call, Answer, answers}
use Rattle.definition.specs.Stream.{new_refusal}
use Rattle.program.specs.Rooms.{Rooms, ring_lengths_of, room_lengths_of}
use Rattle.program.specs.Calls.{call_of, fresh_stream, new_answer, fresh_rooms}
use Rattle.program.specs.Session.{Program, program, program_after, program_answers}
use Rattle.program.proofs.Keeps.{keeps}
use Rattle.stream.proofs.Replies.{new_done}
use Rattle.lists.specs.Listed.{Written, writes, list_tests, list_refusal, run_refusal}

-- ---- the refusal of a list

-- n rows of k numbers are within a room of as many whole rows
rows_within : (k n l : ℕ) → n ≤ l / k → n * k ≤ l
rows_within k n l h = le_trans (mul-le-mul_right k h) (div-mul-le_self l k)

module _ (n a b : ℕ) where
  pub list_taken : list_refusal n a b ≡ 0 → (n * 4 ≤ a) × (n * 5 ≤ b)
  unfolding list_refusal
  list_taken e =
      let h = none_first (list_tests n a b) tt e in
      (rows_within 4 n a (ltb-false (a / 4) n h.0), rows_within 5 n b (ltb-false (b / 5) n h.1.0))

-- ---- the ways out

-- what run says of its result r, of what is written and of the program, which was p
module _ (i : IvectorInfo) (t : Tables) (p : Program) (n : ℕ) (numbers : List ℕ) (cs : List Call) (o : Written) (k l m : ℕ) where
  abbrev z : Rooms
  z = p.rooms

  abbrev listed : ℕ
  listed = list_refusal k l m

  abbrev fresh : ℕ
  fresh = new_refusal i (table_lengths_of t) (room_lengths_of z n)

  abbrev fresh_program : Program
  fresh_program = program (fresh_stream i (room_lengths_of z n)) (fresh_rooms i z)

  abbrev Ran : ℕ → Written → Program → Type 0
  Ran r o' q =
      (r ≡ run_refusal i t z n k l m)
      × (o' ≡ taken r (writes numbers 0 (answers (model_in i t) (ring_lengths_of z.rings) cs) o) o)
      × (q ≡ taken r (program_after t n fresh_program cs) p)

  pub run_listed : {r : ℕ} → r ≡ listed → (r ≡ 0 → ⊥) → Ran r o p
  unfolding run_refusal
  run_listed {r} e h = (e ∙ sym (taken_old listed _ listed (λ z. h (e ∙ z))), sym (taken_old r _ o h), sym (taken_old r _ p h))

  module _ (e : listed ≡ 0) where
    -- a stream that is not made
    pub run_refused : {r : ℕ} {q : Program} → r ≡ fresh → (r ≡ 0 → ⊥) → q ≡ taken r fresh_program p → Ran r o q
    unfolding run_refusal
    run_refused {r} f h left = (f ∙ sym (taken_new listed _ listed e), sym (taken_old r _ o h), left ∙ taken_old r _ p h ∙ sym (taken_old r _ p h))

    -- a stream that is made, and a list that is played on it
    module _ (made : 0 ≡ fresh) {q : Program} (q-is : q ≡ fresh_program) where
      new-is : new_answer i (table_lengths_of t) (room_lengths_of z n) ≡ Ok (call_of 0 (fresh_stream i (room_lengths_of z n)) 0 0)
      new-is = sym (new_done i (table_lengths_of t) (room_lengths_of z n) made refl)

      pub run_played : {o' : Written} {x : Program} → (o' ≡ writes numbers 0 (program_answers t n q cs) o) × (x ≡ program_after t n q cs) → Ran 0 o' x
      unfolding run_refusal
      run_played (wrote, left) = (
        made ∙ sym (taken_new listed _ listed e),
        wrote
            ∙ ap (λ (p : Program). writes numbers 0 (program_answers t n p cs) o) q-is
            ∙ ap (λ (l : List Answer). writes numbers 0 l o) (keeps i t z n (call_of 0 (fresh_stream i (room_lengths_of z n)) 0 0) new-is cs).1,
        left ∙ ap (λ (p : Program). program_after t n p cs) q-is,
      )
