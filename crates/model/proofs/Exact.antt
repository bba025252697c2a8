-- Lengths that are enough, and that none shorter are: `tables_exact` and `rooms_exact`, of every model and every stream.
use Rattle.std.specs.Prelude.{if◌then◌else◌}
use mathlib.Core.Path.{◌≡◌, refl, ap, subst}
use mathlib.Core.Bool.{Bool, true, false, not, ◌&&◌}
use mathlib.Core.List.{List, [], ◌∷◌}
use Prim.Native.Nat.{ℕ, zero, suc, ◌*◌, ◌/◌, ◌≤◌, ◌<◌, min}
use native.Mathlib.Nat.{le_refl, mul-div_cancel}
use native.Mathlib.Omega.{arith}
use lib.Dec.{leb}
use lib.ListN.{get_or}
use borrow.Author.Tests.{le-leb, lt-leb}
use Rattle.loops.specs.Lists.{pairwise}
use Rattle.loops.specs.Refusal.{first_of}
use Rattle.loops.proofs.Choose.{and_first, and_second, and_both, and_holds}
use Rattle.loops.proofs.Tests.{same-pair, of_each, at_fail}
use Rattle.definition.specs.declared.IvectorOptions.{IvectorOptions}
use Rattle.definition.specs.declared.IvectorInfo.{IvectorInfo}
use Rattle.definition.specs.declared.Dimensions.{Dimensions}
use Rattle.definition.specs.declared.TableLengths.{TableLengths}
use Rattle.definition.specs.declared.RoomLengths.{RoomLengths}
use Rattle.definition.specs.Options.{options_in_range, dims_in_range}
use Rattle.definition.specs.Reader.{read}
use Rattle.definition.specs.Model.{Files, table_sizes, table_lengths, tables_fit, load_scratch, load}
use Rattle.definition.specs.Stream.{info_sound, same_tables, estimate_lengths, estimate_sizes, rooms_fit, new_refusal, record_sound}
use Rattle.definition.proofs.Ranges.{info_sound_lem, dim-ranges}
use Rattle.limits.proofs.Rows.{rows_under}
use Rattle.whole.proofs.Loaded.{load-known}
use Rattle.model.specs.Memory.{dimensions_of, room_sizes, refusal_of, lent, TablesExact, RoomsExact}
use Rattle.model.proofs.Sized.{Found, follows_read}

-- ---- lengths pair by pair

pair_self : (xs : List ℕ) → pairwise leb xs xs ≡ true
pair_self [] = refl
pair_self (x ∷ xs) = and_both _ _ (le-leb x x (le_refl x)) (pair_self xs)

least_self : (w : ℕ) → min w w ≡ w
least_self w = omega arith

no_less : (n : ℕ) → n < 0 → ⊥
no_less n h = omega arith

pair-below : (xs ys : List ℕ) (k : ℕ) → get_or ys k 0 < get_or xs k 0 → pairwise leb xs ys ≡ false
pair-below [] ys k h = absurd (no_less (get_or ys k 0) h)
pair-below (x ∷ xs) [] k h = refl
pair-below (x ∷ xs) (y ∷ ys) zero h = and_first _ _ (lt-leb x y h)
pair-below (x ∷ xs) (y ∷ ys) (suc k) h = and_second (leb x y) _ (pair-below xs ys k h)

-- ---- tables

module _ (o : IvectorOptions) (d : Dimensions) where
  fit_exactly : (tables_fit o d (table_sizes o d) && leb (load_scratch d) (load_scratch d)) ≡ true
  unfolding tables_fit
  fit_exactly = and_both _ _ (pair_self (table_lengths (table_sizes o d))) (le-leb _ _ (le_refl (load_scratch d)))

  fit_less : (z : TableLengths) (n k : ℕ) → get_or (lent z n) k 0 < get_or (lent (table_sizes o d) (load_scratch d)) k 0 → (tables_fit o d z && leb (load_scratch d) n) ≡ false
  unfolding tables_fit
  fit_less z n zero h = and_second (pairwise leb (table_lengths (table_sizes o d)) (table_lengths z)) _ (lt-leb (load_scratch d) n h)
  fit_less z n (suc k) h = and_first _ _ (pair-below (table_lengths (table_sizes o d)) (table_lengths z) k h)

module _ (o : IvectorOptions) (f : Files) {d : Dimensions} {i : ℕ} (e : dimensions_of o f ≡ read d i) where
  found_exactly : Found o d (load o f (table_sizes o d) (load_scratch d))
  found_exactly = (follows_read o (table_sizes o d) (load_scratch d) f e).0 (fit_exactly o d)

  pub tables_exact : TablesExact o f d
  tables_exact =
      record {
        enough = ap refusal_of found_exactly.is;
        least = λ z n k h. ap refusal_of ((follows_read o z n f e).1 (fit_less o d z n k h));
      }

  -- so such dimensions are those of a record that a fresh stream takes
  pub dims_sound : (options_in_range o ≡ true) × (dims_in_range d ≡ true)
  dims_sound =
      let x = found_exactly in
      let known = (load-known o f (table_sizes o d) (load_scratch d)).of x.is in
      let r = (info_sound_lem _ known.sound).0 in
      (subst (λ (p : IvectorOptions). options_in_range p ≡ true) x.opts_are r.options_are, subst (λ (p : Dimensions). dims_in_range p ≡ true) x.dims_are r.dims_are)

-- ---- rooms

module _ (i : IvectorInfo) (sound : info_sound i ≡ true) where
  same_own : same_tables i.tables i.tables ≡ true
  unfolding same_tables
  same_own = same-pair (table_lengths i.tables) (table_lengths i.tables) refl

  record_own : record_sound i ≡ true
  unfolding info_sound
  record_own = (and_holds (record_sound i) _ sound).0

  new_is : (z : RoomLengths) {t : Bool} → rooms_fit i.dims z ≡ t → new_refusal i i.tables z ≡ (if t then 0 else 8)
  unfolding new_refusal first_of
  new_is z {t} e = simp (same_own, record_own, (info_sound_lem i sound).1, e) (go t)
    where
      go : (t : Bool) → ◌≡◌ {A = ℕ} (if not t then 8 else 0) (if t then 0 else 8)
      go true = refl
      go false = refl

  module _ (f r w : ℕ) (some : 1 ≤ f) (two : 2 ≤ r) where
    abbrev b : ℕ
    b = i.dims.base_dim

    some_base : 0 < b
    some_base = (dim-ranges i.dims (info_sound_lem i sound).0.dims_are).some_base

    rooms_fit_is : rooms_fit i.dims (room_sizes i.dims f r w) ≡ true
    unfolding rooms_fit
    rooms_fit_is =
        of_each (λ t. t) _
        (le-leb 1 (f * b / b) (rw (mul-div_cancel f some_base) some), (le-leb 2 (r * b / b) (rw (mul-div_cancel r some_base) two), (pair_self (estimate_sizes i.dims), tt)))

    rooms_short : (z : RoomLengths) (k : ℕ) → get_or (estimate_lengths z.estimate) k 0 < get_or (estimate_sizes i.dims) k 0 → rooms_fit i.dims z ≡ false
    unfolding rooms_fit
    rooms_short z k h = at_fail (λ t. t) false _ 2 (omega arith) (pair-below (estimate_sizes i.dims) (estimate_lengths z.estimate) k h)

    pub rooms_exact : RoomsExact i f r w
    rooms_exact =
        record {
          enough = new_is (room_sizes i.dims f r w) rooms_fit_is;
          frames_held_is = mul-div_cancel f some_base;
          rows_held_is = mul-div_cancel r some_base;
          changes_held = least_self w;
          least = λ z k h. new_is z (rooms_short z k h);
          fewer = λ n m h. rows_under n b m some_base h;
        }
