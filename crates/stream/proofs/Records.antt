-- A record and lent rings that meet no refusal 10: what is known of them, and the number of a call whose further tests come after those.
use mathlib.Core.Path.{◌≡◌, refl, sym, ap, ◌∙◌}
use mathlib.Core.Bool.{Bool, true, false, not}
use mathlib.Core.List.{List, [], ◌∷◌, ◌++◌}
use Prim.Native.Nat.{ℕ, suc, ◌≤◌}
use native.Mathlib.Omega.{arith}
use lib.ListN.{length}
use lib.Dec.{eqb}
use borrow.Author.Tests.{not-false, eqb-true}
use Rattle.loops.specs.Refusal.{first_of}
use Rattle.loops.specs.Ring.{rows_in}
use Rattle.loops.proofs.Choose.{by-test}
use Rattle.loops.proofs.Refusal.{NoneFirst, FirstAt, number_at, first-here, first_past, first_is, first-none, first_then, first_already, none_first}
use Rattle.loops.proofs.Tests.{each_pair}
use Rattle.std.specs.Prelude.{Result, Ok}
use Rattle.definition.specs.declared.refusal.Refusal.{Refusal}
use Rattle.definition.specs.Number.{number_of, refused_by}
use Rattle.definition.specs.declared.IvectorStream.{IvectorStream}
use Rattle.definition.specs.Stream.{is_foreign, same_rings, ring_lengths}
use Rattle.definition.proofs.Ranges.{DimRanges, dim-ranges, info_sound_lem, fitting}
use Rattle.limits.proofs.Records.{Whole, whole}
use Rattle.program.specs.Rooms.{Rings, ring_lengths_of}
use Rattle.program.specs.Calls.{record_tests}

-- a test that `need` let through
pub needed : {A : Type 0} {a : A} {r : Result A Refusal} (n : ℕ) (t : Bool) → refused_by r ≡ first_of ((not t, suc n) ∷ []) → r ≡ Ok a → t ≡ true
unfolding first_of
needed n true e h = refl
needed n false e h = let g = ap refused_by h in absurd (omega arith)

-- no refusal has the number 0
pub some_number : (e : Refusal) → number_of e ≡ 0 → ⊥
some_number e h = grind arith

module _ (s : IvectorStream) (z : Rings) where
  pub record Passed : Type 0 where
    pub whole_is : Whole s z.waiting_frames
    pub dims_are : DimRanges s.info.dims
    pub frame_room_is : 1 ≤ rows_in (length z.frames) s.info.dims.base_dim
    pub row_room_is : 2 ≤ rows_in (length z.rows) s.info.dims.base_dim
    pub waiting_frames_are : length z.waiting_frames ≡ s.lengths.rings.waiting_frames
    pub waiting_weights_are : length z.waiting_weights ≡ s.lengths.rings.waiting_weights

  pub tests_passed : not (same_rings (ring_lengths_of z) s.lengths.rings) ≡ false → is_foreign s z.waiting_frames ≡ false → Passed
  unfolding same_rings
  tests_passed e b =
      let h = each_pair eqb (ring_lengths (ring_lengths_of z)) (ring_lengths s.lengths.rings) (not-false _ e) in
      let w = whole s z.waiting_frames b in
      let r = fitting _ _ w.rooms_fit_is in
      record {
        whole_is = w;
        dims_are = dim-ranges _ (info_sound_lem _ w.info_is).0.dims_are;
        frame_room_is = rw (eqb-true (length z.frames) s.lengths.rings.frames h.0) r.frames_fit;
        row_room_is = rw (eqb-true (length z.rows) s.lengths.rings.rows h.1.0) r.rows_fit;
        waiting_frames_are = eqb-true _ _ h.1.1.0;
        waiting_weights_are = eqb-true _ _ h.1.1.1.0;
      }

  -- r is the refusal number: there is none, or another than 10
  pub plain_passed : {r : ℕ} → r ≡ first_of (record_tests s z) → r ≡ 0 → Passed
  plain_passed e h = let p = none_first (record_tests s z) tt (sym e ∙ h) in tests_passed p.0 p.1.0

  other_passed : (us : List (Bool × ℕ)) {r : ℕ} → r ≡ first_of (record_tests s z ++ us) → (r ≡ 10 → ⊥) → Passed
  other_passed us e h =
      by-test (not (same_rings (ring_lengths_of z) s.lengths.rings)) (λ a. absurd (h (e ∙ first-here _ _ a)))
      (λ a. by-test (is_foreign s z.waiting_frames) (λ b. absurd (h (e ∙ first_past _ _ a ∙ first-here _ _ b))) (λ b. tests_passed a b))

  -- the counts of an answer
  pub few : Passed → (s.accepted ≤ 1000000000) × (s.mark ≤ 1000000000)
  few p = (p.whole_is.few, omega (arith, p.whole_is))

  pub other_few : (us : List (Bool × ℕ)) {r : ℕ} → r ≡ first_of (record_tests s z ++ us) → (r ≡ 10 → ⊥) → (s.accepted ≤ 1000000000) × (s.mark ≤ 1000000000)
  other_few us e h = few (other_passed us e h)

  -- further tests: r is the number that those of the record gave
  module _ (us : List (Bool × ℕ)) {r : ℕ} (e : r ≡ first_of (record_tests s z)) where
    pub already : (r ≡ 0 → ⊥) → r ≡ first_of (record_tests s z ++ us)
    already h = e ∙ sym (first_already (record_tests s z) us (λ k. h (e ∙ k)))

    pub then_all : r ≡ 0 → {n : ℕ} → n ≡ first_of us → n ≡ first_of (record_tests s z ++ us)
    then_all h g = g ∙ sym (first_then (record_tests s z) us tt (sym e ∙ h))

    pub then_first : r ≡ 0 → (k : ℕ) → FirstAt k us → number_at k us ≡ first_of (record_tests s z ++ us)
    then_first h k f = then_all h (first_is k us f)

    pub then_none : r ≡ 0 → NoneFirst us → 0 ≡ first_of (record_tests s z ++ us)
    then_none h f = then_all h (first-none us f)
