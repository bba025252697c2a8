-- What a play leaves, by its three ways out: sizes that are refused, a stream that is not made, and calls that are played. There the program's answers
-- are the keeping machine's by `keeps`.
use Rattle.std.specs.Prelude.{Ok}
use mathlib.Core.Path.{◌≡◌, refl, sym, ap, ◌∙◌}
use mathlib.Core.List.{List}
use Prim.Native.Nat.{ℕ}
use lib.ListN.{replicate}
use Rattle.loops.specs.Refusal.{taken}
use Rattle.loops.proofs.Refusal.{taken_new, taken_old}
use Rattle.definition.specs.declared.IvectorInfo.{IvectorInfo}
use Rattle.definition.specs.Model.{Tables, table_lengths_of, model_in}
use Rattle.definition.specs.Machine.{Call, answers}
use Rattle.definition.specs.Stream.{new_refusal}
use Rattle.program.specs.Rooms.{Rooms, ring_lengths_of, room_lengths_of}
use Rattle.program.specs.Calls.{call_of, fresh_stream, new_answer, fresh_rooms}
use Rattle.program.specs.Session.{Program, program, program_after, program_answers}
use Rattle.program.proofs.Keeps.{keeps}
use Rattle.stream.proofs.Replies.{new_done}
use Rattle.lists.specs.Draws.{size_refusal, drawn_calls}
use Rattle.lists.specs.Inner.TryNotes.{Tally, tally}
use Rattle.lists.specs.Totals.{Totals, totals_from, totals, no_totals, play_refusal}
use Rattle.lists.specs.Inner.TryPlay.{tallied}
use Rattle.lists.proofs.Tallies.{totals_are}

module _ (i : IvectorInfo) (t : Tables) (p : Program) (n seed times : ℕ) where
  abbrev z : Rooms
  z = p.rooms

  abbrev dim : ℕ
  dim = i.dims.base_dim

  abbrev cs : List Call
  cs = drawn_calls dim seed times

  abbrev size : ℕ
  size = size_refusal seed dim times

  abbrev fresh : ℕ
  fresh = new_refusal i (table_lengths_of t) (room_lengths_of z n)

  abbrev refusal : ℕ
  refusal = play_refusal i t z n seed times

  abbrev fresh_program : Program
  fresh_program = program (fresh_stream i (room_lengths_of z n)) (fresh_rooms i z)

  -- what is returned, and the program
  abbrev Left : Totals → Program → Type 0
  Left r q =
      (r ≡ taken refusal (totals cs (answers (model_in i t) (ring_lengths_of z.rings) cs)) (no_totals refusal))
      × (q ≡ taken refusal (program_after t n fresh_program cs) p)

  not_played : {m : ℕ} {r : Totals} {q : Program} → refusal ≡ m → (m ≡ 0 → ⊥) → r ≡ no_totals m → q ≡ p → Left r q
  not_played e h f g =
      let some : refusal ≡ 0 → ⊥ = λ x. h (sym e ∙ x) in
      (f ∙ ap no_totals (sym e) ∙ sym (taken_old refusal _ (no_totals refusal) some), g ∙ sym (taken_old refusal _ p some))

  sized : {m : ℕ} → m ≡ size → (m ≡ 0 → ⊥) → refusal ≡ m
  unfolding play_refusal
  sized e h = taken_old size fresh size (λ x. h (e ∙ x)) ∙ sym e

  pub play_sized : {m : ℕ} {r : Totals} → m ≡ size → (m ≡ 0 → ⊥) → r ≡ no_totals m → Left r p
  play_sized e h f = not_played (sized e h) h f refl

  module _ (none : 0 ≡ size) where
    as_fresh : refusal ≡ fresh
    unfolding play_refusal
    as_fresh = taken_new size fresh size (sym none)

    -- a stream that is not made
    pub play_refused : {m : ℕ} {r : Totals} {q : Program} → m ≡ fresh → (m ≡ 0 → ⊥) → q ≡ taken m fresh_program p → r ≡ no_totals m → Left r q × (refusal ≡ 0 → ⊥)
    play_refused {m} f h left told =
        let e : refusal ≡ m = as_fresh ∙ sym f in
        (not_played e h told (left ∙ taken_old m _ p h), λ x. h (sym e ∙ x))

    -- a stream that is made, and calls that are played
    module _ (made : 0 ≡ fresh) where
      new-is : new_answer i (table_lengths_of t) (room_lengths_of z n) ≡ Ok (call_of 0 (fresh_stream i (room_lengths_of z n)) 0 0)
      new-is = sym (new_done i (table_lengths_of t) (room_lengths_of z n) made refl)

      pub played_none : refusal ≡ 0
      played_none = as_fresh ∙ sym made

      pub play_played : {q : Program} → q ≡ fresh_program → {w : Tally} {x : Program} {state : ℕ} → state ≡ seed
          → (w ≡ tallied (tally (replicate 5 0) (replicate 34 0) 0) (drawn_calls dim state times) (program_answers t n q (drawn_calls dim state times)))
          × (x ≡ program_after t n q (drawn_calls dim state times))
          → Left (totals_from 0 w.calls w.refusals w.most) x
      play_played {q} q-is {w} {x} {state} st (tallied-is, left) =
          let calls_are : drawn_calls dim state times ≡ cs = ap (λ (k : ℕ). drawn_calls dim k times) st in
          let answers_are : program_answers t n q cs ≡ answers (model_in i t) (ring_lengths_of z.rings) cs =
          ap (λ (p : Program). program_answers t n p cs) q-is ∙ (keeps i t z n (call_of 0 (fresh_stream i (room_lengths_of z n)) 0 0) new-is cs).1 in
          let w-is : w ≡ tallied (tally (replicate 5 0) (replicate 34 0) 0) cs (answers (model_in i t) (ring_lengths_of z.rings) cs) =
          tallied-is ∙ ap (λ (l : List Call). tallied (tally (replicate 5 0) (replicate 34 0) 0) l (program_answers t n q l)) calls_are
          ∙ ap (tallied (tally (replicate 5 0) (replicate 34 0) 0) cs) answers_are in (
            totals_are cs (answers (model_in i t) (ring_lengths_of z.rings) cs) w-is ∙ sym (taken_new refusal _ (no_totals refusal) played_none),
            left ∙ ap (λ (l : List Call). program_after t n q l) calls_are ∙ ap (λ (p : Program). program_after t n p cs) q-is
                ∙ sym (taken_new refusal _ p played_none),
          )
