-- Frames held and the room for a push, by the tests of the record and the counts of what is held; and that every proper frame is taken where one of zeros is.
use mathlib.Core.Path.{◌≡◌, refl, sym, ap, ap₂, ◌∙◌}
use mathlib.Core.Bool.{Bool, true, false, not, ◌||◌}
use mathlib.Core.List.{List, [], ◌∷◌, ◌++◌}
use Prim.Native.Nat.{ℕ, zero, suc, ◌/◌}
use native.Mathlib.Omega.{arith}
use lib.ListN.{length, drop, replicate, length-replicate}
use lib.Dec.{eqb}
use lib.Ieee.{Float, of_bits}
use lib.Ieee.Scale.{finite}
use borrow.Author.Tests.{eqb-true, eqb-false, eq-eqb, ne_eqb}
use Rattle.loops.specs.Lists.{any_of, all_of}
use Rattle.loops.specs.Refusal.{first_of}
use Rattle.loops.proofs.Choose.{and_holds, and_both, or_none, choose_map, choose_same}
use Rattle.loops.proofs.Refusal.{taken_new, taken_old}
use Rattle.floats.specs.Operators.{zero₃₂}
use Rattle.definition.specs.declared.IvectorStream.{IvectorStream}
use Rattle.definition.specs.declared.StreamAnswer.{StreamAnswer}
use Rattle.definition.specs.Machine.{frames_held, rows_held, push_tests}
use Rattle.program.specs.Rooms.{Rings}
use Rattle.program.specs.Calls.{answer_of, record_tests, push_frame}
use Rattle.stream.proofs.Records.{Passed, plain_passed}
use Rattle.stream.proofs.Refusals.{push_tests_is, push_already, push_first, push-none}
use Rattle.board.specs.Board.{held_count, room_for_push, Proper}

-- the number of an answer
pub told-number : (r : ℕ) (s : IvectorStream) (n m : ℕ) → (answer_of r s n m).refusal ≡ r
unfolding answer_of
told-number r s n m = choose_map (λ (a : StreamAnswer). a.refusal) (eqb r 10) _ _ ∙ choose_same (eqb r 10) r

-- ---- a frame of zeros

all-finite : (xs : List Float) → all_of finite xs ≡ true → any_of (λ v. not (finite v)) xs ≡ false
unfolding all_of any_of
all-finite [] e = refl
all-finite (x ∷ xs) e = let h = and_holds (finite x) (all_of finite xs) e in or_none (not (finite x)) _ (ap not h.0) (all-finite xs h.1)

zero-finite : finite zero₃₂ ≡ true
unfolding of_bits
zero-finite = refl

zeros_finite : (n : ℕ) → all_of finite (replicate n zero₃₂) ≡ true
unfolding all_of
zeros_finite zero = refl
zeros_finite (suc n) = and_both (finite zero₃₂) _ zero-finite (zeros_finite n)

module _ (s : IvectorStream) (z : Rings) where
  abbrev pub zeros : List Float
  zeros = replicate s.info.dims.base_dim zero₃₂

  zeros_proper : Proper s zeros
  zeros_proper = (length-replicate s.info.dims.base_dim zero₃₂, zeros_finite s.info.dims.base_dim)

  abbrev narrow : List Float → Bool
  narrow x = not (eqb (length x) s.info.dims.base_dim)

  abbrev wild : List Float → Bool
  wild x = any_of (λ v. not (finite v)) x

  proper_tests : (x : List Float) → Proper s x → (narrow x ≡ false) × (wild x ≡ false)
  proper_tests x h = (ap not (eq-eqb _ _ h.0), all-finite x h.1)

  -- the number of a push, by its two tests of the frame
  abbrev numbered : Bool → Bool → ℕ
  numbered a b =
      first_of (record_tests s z ++ ((a, 11) ∷ (b, 12) ∷ drop 2 (push_tests_is s z [])))

  -- all proper frames are refused alike
  pub same_push : (x y : List Float) → Proper s x → Proper s y → (push_frame s z x).refusal ≡ (push_frame s z y).refusal
  unfolding push_frame push_tests
  same_push x y h k =
      let a = proper_tests x h in
      let b = proper_tests y k in
      ap₂ numbered (a.0 ∙ sym b.0) (a.1 ∙ sym b.1)

  pub room_taken : (x : List Float) → Proper s x → room_for_push s z ≡ true → (push_frame s z x).refusal ≡ 0
  unfolding room_for_push
  room_taken x h e = same_push x zeros h zeros_proper ∙ eqb-true _ _ e

  pub taken_room : (x : List Float) → Proper s x → (push_frame s z x).refusal ≡ 0 → room_for_push s z ≡ true
  unfolding room_for_push
  taken_room x h e = eq-eqb _ _ (same_push zeros x zeros_proper h ∙ e)

  -- ---- by the tests of the code, whose number r is that of a record that is lent these rings

  module _ {r : ℕ} (j : r ≡ first_of (record_tests s z)) where
    pub held_none : (r ≡ 0 → ⊥) → 0 ≡ held_count s z
    unfolding held_count
    held_none h = sym (taken_old (first_of (record_tests s z)) _ 0 (λ k. h (j ∙ k)))

    pub held_is : r ≡ 0 → frames_held s.accepted s.mark ≡ held_count s z
    unfolding held_count
    held_is h = sym (taken_new (first_of (record_tests s z)) _ 0 (sym j ∙ h))

    pub known : r ≡ 0 → Passed s z
    known h = plain_passed s z j h

    no_room : {r : ℕ} → r ≡ (push_frame s z zeros).refusal → (r ≡ 0 → ⊥) → false ≡ room_for_push s z
    unfolding room_for_push
    no_room e h = sym (ne_eqb _ _ (λ k. h (e ∙ k)))

    pub under_ten : (r ≡ 0 → ⊥) → false ≡ room_for_push s z
    under_ten h = no_room (push_already s z zeros j h) h

    module _ (h : r ≡ 0) where
      abbrev tests : List (Bool × ℕ)
      tests = push_tests_is s z zeros

      abbrev frames : ℕ
      frames = frames_held s.accepted s.mark

      abbrev rows : ℕ
      rows = rows_held s.longest s.accepted s.mark

      abbrev frame_rows : ℕ
      frame_rows = s.lengths.rings.frames / s.info.dims.base_dim

      abbrev prefix_rows : ℕ
      prefix_rows = s.lengths.rings.rows / s.info.dims.base_dim

      pub full_count : s.accepted ≡ 1000000000 → false ≡ room_for_push s z
      unfolding push_tests
      full_count e =
          let p = proper_tests zeros zeros_proper in
          no_room (push_first s z zeros j h 2 (p.0, (p.1, eq-eqb _ _ e))) (λ k. omega arith)

      pub full_frames : (s.accepted ≡ 1000000000 → ⊥) → frames ≡ frame_rows → false ≡ room_for_push s z
      unfolding push_tests
      full_frames f e =
          let p = proper_tests zeros zeros_proper in
          no_room (push_first s z zeros j h 3 (p.0, (p.1, (ne_eqb _ _ f, eq-eqb _ _ e)))) (λ k. omega arith)

      pub full_rows : (s.accepted ≡ 1000000000 → ⊥) → (frames ≡ frame_rows → ⊥) → rows ≡ prefix_rows → false ≡ room_for_push s z
      unfolding push_tests
      full_rows f g e =
          let p = proper_tests zeros zeros_proper in
          no_room (push_first s z zeros j h 4 (p.0, (p.1, (ne_eqb _ _ f, (ne_eqb _ _ g, eq-eqb _ _ e))))) (λ k. omega arith)

      pub room_left : (s.accepted ≡ 1000000000 → ⊥) → (frames ≡ frame_rows → ⊥) → (rows ≡ prefix_rows → ⊥) → true ≡ room_for_push s z
      unfolding room_for_push push_tests
      room_left f g e =
          let p = proper_tests zeros zeros_proper in
          sym (eq-eqb _ _ (sym (push-none s z zeros j h (p.0, (p.1, (ne_eqb _ _ f, (ne_eqb _ _ g, (ne_eqb _ _ e, tt))))))))

      -- by the three tests together
      abbrev full : Bool
      full = eqb s.accepted 1000000000 || (eqb frames frame_rows || eqb rows prefix_rows)

      pub room_is : not full ≡ room_for_push s z
      room_is = by (eqb s.accepted 1000000000) (eqb frames frame_rows) (eqb rows prefix_rows) refl refl refl
        where
          by : (p q r : Bool) → eqb s.accepted 1000000000 ≡ p → eqb frames frame_rows ≡ q → eqb rows prefix_rows ≡ r
              → not (p || (q || r)) ≡ room_for_push s z
          by true q r d e f = full_count (eqb-true _ _ d)
          by false true r d e f = full_frames (eqb-false _ _ d) (eqb-true _ _ e)
          by false false true d e f = full_rows (eqb-false _ _ d) (eqb-false _ _ e) (eqb-true _ _ f)
          by false false false d e f = room_left (eqb-false _ _ d) (eqb-false _ _ e) (eqb-false _ _ f)
