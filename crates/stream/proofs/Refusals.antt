-- What is known once a call is taken; and its refusal number, from the tests as code makes them.
use mathlib.Core.Path.{◌≡◌, sym, ◌∙◌}
use mathlib.Core.Bool.{Bool, false, not, ◌&&◌}
use mathlib.Core.List.{List, [], ◌∷◌, ◌++◌}
use Prim.Native.Nat.{ℕ, ◌+◌, ◌-◌, ◌≤◌, ◌<◌}
use native.Mathlib.Nat.{div-mul-le_self, mul-le-mul_right}
use native.Mathlib.Omega.{arith}
use lib.ListN.{length}
use lib.Dec.{eqb, leb, ltb}
use lib.Ieee.{Float}
use lib.Ieee.Scale.{finite}
use Rattle.std.proofs.lemmas.Bool.Decides.{nat_tests}
use borrow.Author.Tests.{not-false, eqb-true, eqb-false, ltb-false}
use Rattle.loops.specs.Lists.{any_of}
use Rattle.loops.specs.Refusal.{first_of}
use Rattle.loops.specs.Ring.{rows_in}
use Rattle.loops.proofs.Choose.{or_fails}
use Rattle.loops.proofs.Refusal.{NoneFirst, FirstAt, number_at, none_first}
use Rattle.definition.specs.declared.IvectorInfo.{IvectorInfo}
use Rattle.definition.specs.declared.IvectorStream.{IvectorStream}
use Rattle.definition.specs.declared.RoomLengths.{RoomLengths}
use Rattle.definition.specs.declared.TableLengths.{TableLengths}
use Rattle.definition.specs.Model.{tables_fit}
use Rattle.definition.specs.Machine.{frames_held, rows_held, waiting_room, max_changes, push_tests, change_tests, window_tests}
use Rattle.definition.specs.Stream.{record_sound, same_tables, rooms_fit, new_refusal}
use Rattle.definition.proofs.Ranges.{DimRanges, dim-ranges, record_sound_lem, Fitting, fitting}
use Rattle.program.specs.Rooms.{Rings}
use Rattle.program.specs.Calls.{record_tests, push_frame, update_frame_weights, set_cmn_window}
use Rattle.stream.proofs.Records.{Passed, tests_passed, few, other_few, already, then_first, then_none}

-- ---- a fresh stream

-- the tests of `new_refusal`
abbrev pub new_tests : IvectorInfo → TableLengths → RoomLengths → List (Bool × ℕ)
new_tests i t z =
    (not (same_tables t i.tables), 10) ∷ (not (record_sound i), 10) ∷ (not (tables_fit i.opts i.dims i.tables), 8) ∷ (not (rooms_fit i.dims z), 8) ∷ []

pub record NewTaken (i : IvectorInfo) (z : RoomLengths) : Type 0 where
  pub dims_are : DimRanges i.dims
  pub rooms_are : Fitting i.dims z
  pub row_long : i.dims.base_dim ≤ z.rings.rows

pub new_taken : (i : IvectorInfo) (t : TableLengths) (z : RoomLengths) {r : ℕ} → r ≡ new_refusal i t z → r ≡ 0 → NewTaken i z
unfolding new_refusal
new_taken i t z e g =
    let h = none_first (new_tests i t z) tt (sym e ∙ g) in
    let f = fitting _ _ (not-false _ h.1.1.1.0) in
    record {
      dims_are = dim-ranges _ (record_sound_lem i (not-false _ h.1.0)).dims_are;
      rooms_are = f;
      row_long = omega (arith, div-mul-le_self z.rings.rows i.dims.base_dim, mul-le-mul_right i.dims.base_dim f.rows_fit);
    }

-- ---- push

module _ (s : IvectorStream) (z : Rings) (x : List Float) where
  abbrev base : ℕ
  base = s.info.dims.base_dim

  abbrev pub push_tests_is : List (Bool × ℕ)
  push_tests_is = push_tests s.info.dims s.lengths.rings s.longest s.accepted s.mark x

  pub record PushTaken : Type 0 where
    pub passed : Passed s z
    pub wide : length x ≡ s.info.dims.base_dim
    pub all-finite : any_of (λ v. not (finite v)) x ≡ false
    pub more : s.accepted < 1000000000

  pub push_taken : {r : ℕ} → r ≡ (push_frame s z x).refusal → r ≡ 0 → PushTaken
  unfolding push_frame push_tests
  push_taken e g =
      let h = none_first (record_tests s z ++ push_tests_is) tt (sym e ∙ g) in
      let p = tests_passed s z h.0 h.1.0 in
      let f = eqb-false s.accepted 1000000000 h.1.1.1.1.0 in
      record { passed = p; wide = eqb-true _ _ (not-false _ h.1.1.0); all-finite = h.1.1.1.0; more = omega (arith, p.whole_is.few) }

  pub push_few : {r : ℕ} → r ≡ (push_frame s z x).refusal → (r ≡ 10 → ⊥) → (s.accepted ≤ 1000000000) × (s.mark ≤ 1000000000)
  unfolding push_frame
  push_few = other_few s z push_tests_is

  -- by its tests; r is the number that those of the record gave
  module _ {r : ℕ} (e : r ≡ first_of (record_tests s z)) where
    pub push_already : (r ≡ 0 → ⊥) → r ≡ (push_frame s z x).refusal
    unfolding push_frame
    push_already = already s z push_tests_is e

    pub push_first : r ≡ 0 → (k : ℕ) → FirstAt k push_tests_is → number_at k push_tests_is ≡ (push_frame s z x).refusal
    unfolding push_frame
    push_first = then_first s z push_tests_is e

    pub push-none : r ≡ 0 → NoneFirst push_tests_is → 0 ≡ (push_frame s z x).refusal
    unfolding push_frame
    push-none = then_none s z push_tests_is e

  -- what the tests ask of the record, and the stores of a push that is taken
  pub tests_fit : Passed s z → (0 < base) × (base ≤ 64) × (s.accepted ≤ 1000000000) × (s.mark ≤ 1000000000)
      × (frames_held s.accepted s.mark ≤ rows_in s.lengths.rings.frames base) × (rows_held s.longest s.accepted s.mark ≤ rows_in s.lengths.rings.rows base)
  unfolding frames_held rows_held
  tests_fit p = (p.dims_are.some_base, p.dims_are.base_is, (few s z p).0, (few s z p).1, p.whole_is.frames_fit, p.whole_is.rows_fit)

  pub store_fits : PushTaken → (0 < length x) × (length x ≤ 64) × (s.accepted ≤ 1000000000) × (0 < rows_in (length z.frames) (length x))
      × (2 ≤ rows_in (length z.rows) (length x)) × (any_of (λ v. not (finite v)) x ≡ false)
  store_fits k =
      let p = k.passed in
      (rw k.wide p.dims_are.some_base, rw k.wide p.dims_are.base_is, (few s z p).0, rw k.wide p.frame_room_is, rw k.wide p.row_room_is, k.all-finite)

-- ---- change

module _ (fs : List ℕ) (ws : List Float) where
  abbrev uneven : Bool
  uneven = not (eqb (length fs) (length ws))

  abbrev far : Bool
  far = any_of (leb 1000000000) fs

  abbrev wild : Bool
  wild = any_of (λ w. not (finite w)) ws

-- the room that is left, without a sum that might wrap
pub room_is : (room n m : ℕ) → not (ltb room (n + m)) ≡ (leb m room && leb n (room - m))
room_is room n m = grind (arith, nat_tests)

module _ (s : IvectorStream) (z : Rings) (gs : List ℕ) (ws : List Float) where
  abbrev pub change_tests_is : List (Bool × ℕ)
  change_tests_is = change_tests s.info.opts s.lengths.rings s.mark s.floor s.waiting gs ws

  pub record ChangeTaken : Type 0 where
    pub passed : Passed s z
    pub even : length gs ≡ length ws
    pub near : any_of (leb 1000000000) gs ≡ false
    pub room_is : s.waiting + length gs ≤ waiting_room s.lengths.rings

  pub change_taken : {r : ℕ} → r ≡ (update_frame_weights s z gs ws).refusal → r ≡ 0 → ChangeTaken
  unfolding update_frame_weights change_tests
  change_taken e g =
      let h = none_first (record_tests s z ++ change_tests_is) tt (sym e ∙ g) in
      let a = or_fails (uneven gs ws) (ltb max_changes (length gs)) h.1.1.0 in
      let b = or_fails (far gs ws) (wild gs ws) h.1.1.1.0 in
      record {
        passed = tests_passed s z h.0 h.1.0;
        even = eqb-true _ _ (not-false _ a.0);
        near = b.0;
        room_is = ltb-false _ _ h.1.1.1.1.1.1.0;
      }

  pub change_few : {r : ℕ} → r ≡ (update_frame_weights s z gs ws).refusal → (r ≡ 10 → ⊥) → (s.accepted ≤ 1000000000) × (s.mark ≤ 1000000000)
  unfolding update_frame_weights
  change_few = other_few s z change_tests_is

-- ---- a new window

module _ (s : IvectorStream) (z : Rings) (w : ℕ) where
  abbrev pub window_tests_is : List (Bool × ℕ)
  window_tests_is = window_tests s.longest s.mark w

  pub window_taken : {r : ℕ} → r ≡ (set_cmn_window s z w).refusal → r ≡ 0 → Passed s z
  unfolding set_cmn_window window_tests
  window_taken e g = let h = none_first (record_tests s z ++ window_tests_is) tt (sym e ∙ g) in tests_passed s z h.0 h.1.0

  pub window_few : {r : ℕ} → r ≡ (set_cmn_window s z w).refusal → (r ≡ 10 → ⊥) → (s.accepted ≤ 1000000000) × (s.mark ≤ 1000000000)
  unfolding set_cmn_window
  window_few = other_few s z window_tests_is
