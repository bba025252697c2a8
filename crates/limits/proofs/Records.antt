-- A stream's rooms and its record: what a test of them tells, as code makes it, and what is known of a record that is not broken.
use mathlib.Core.Path.{◌≡◌, refl, sym, ap, ◌∙◌}
use mathlib.Core.Bool.{Bool, true, false, not, ◌||◌, or-false}
use mathlib.Core.List.{List, zip_with}
use Prim.Native.Nat.{ℕ, ◌+◌, ◌-◌, ◌≤◌, ◌<◌, min}
use native.Mathlib.Omega.{arith}
use lib.ListN.{length, get_or, take, drop}
use lib.Seq.{take_all, take-length}
use native.Mathlib.Nat.{min-eq_left, min-eq_right}
use native.Mathlib.Decide.{dec_le}
use lib.Dec.{leb, ltb, eqb}
use borrow.Author.Tests.{eqb-false, ltb-false, not-false, le-leb, lt-leb}
use Rattle.loops.specs.Lists.{any_of}
use Rattle.loops.specs.Ring.{rows_in}
use Rattle.loops.proofs.Choose.{or_fails}
use Rattle.loops.proofs.Tests.{none_of, at_some, at_fail}
use Rattle.definition.specs.declared.IvectorOptions.{IvectorOptions}
use Rattle.definition.specs.declared.Dimensions.{Dimensions}
use Rattle.definition.specs.declared.TableLengths.{TableLengths}
use Rattle.definition.specs.declared.RoomLengths.{RoomLengths}
use Rattle.definition.specs.declared.IvectorStream.{IvectorStream}
use Rattle.definition.specs.Machine.{frames_held, rows_held, waiting_room}
use Rattle.definition.specs.Model.{table_sizes, table_lengths, tables_fit}
use Rattle.definition.specs.Stream.{info_sound, stream_scratch, estimate_lengths, estimate_sizes, rooms_fit, rising, breaks, is_foreign}
use Rattle.limits.specs.Inner.{waiting_broken, counts_broken}
use Rattle.limits.proofs.Listed.{FirstAre, all-last, any_rest, pair_fail, pair_last}

-- ---- lists of lengths, side by side: one pair that fails decides, or the last one

module _ (o : IvectorOptions) (d : Dimensions) (z : TableLengths) where
  abbrev pub table_tests : List Bool
  table_tests = zip_with leb (table_lengths (table_sizes o d)) (table_lengths z)

  pub short_table : (k : ℕ) → k < length table_tests → get_or table_tests k false ≡ false → false ≡ tables_fit o d z
  unfolding tables_fit
  short_table k l h = pair_fail leb (table_lengths (table_sizes o d)) (table_lengths z) k refl l h

  pub last_table : FirstAre true 7 table_tests → get_or table_tests 7 false ≡ tables_fit o d z
  unfolding tables_fit zip_with
  last_table h = pair_last leb (table_lengths (table_sizes o d)) (table_lengths z) 7 refl refl h

-- ---- rooms

module _ (d : Dimensions) (z : RoomLengths) where
  abbrev pub estimate_tests : List Bool
  estimate_tests = zip_with leb (estimate_sizes d) (estimate_lengths z.estimate)

  pub few_frames : rows_in z.rings.frames d.base_dim < 1 → false ≡ rooms_fit d z
  unfolding rooms_fit
  few_frames h = sym (at_fail (λ t. t) false _ 0 (omega arith) (lt-leb _ _ h))

  pub few_rows : rows_in z.rings.rows d.base_dim < 2 → false ≡ rooms_fit d z
  unfolding rooms_fit
  few_rows h = sym (at_fail (λ t. t) false _ 1 (omega arith) (lt-leb _ _ h))

  pub short_room : (k : ℕ) → k < length estimate_tests → get_or estimate_tests k false ≡ false → false ≡ rooms_fit d z
  unfolding rooms_fit
  short_room k l h = sym (at_fail (λ t. t) false _ 2 (omega arith) (sym (pair_fail leb (estimate_sizes d) (estimate_lengths z.estimate) k refl l h)))

  -- scratch decides
  pub last_room : 1 ≤ rows_in z.rings.frames d.base_dim → 2 ≤ rows_in z.rings.rows d.base_dim → FirstAre true 4 estimate_tests
      → leb (stream_scratch d) z.estimate.scratch ≡ rooms_fit d z
  unfolding rooms_fit zip_with
  last_room f r h =
      pair_last leb (estimate_sizes d) (estimate_lengths z.estimate) 4 refl refl h
      ∙ all-last 2 _ refl (le-leb _ _ f, (le-leb _ _ r, tt))

-- ---- a record

pub record Whole (s : IvectorStream) (waiting : List ℕ) : Type 0 where
  pub info_is : info_sound s.info ≡ true
  pub rooms_fit_is : rooms_fit s.info.dims s.lengths ≡ true
  pub few : s.accepted ≤ 1000000000
  pub next_is : s.num_frames_stats ≤ s.accepted
  pub mark_is : s.mark ≤ s.num_frames_stats - s.info.opts.left_context
  pub floor_is : s.mark ≤ s.floor - s.info.opts.left_context
  pub some_window : 0 < s.window
  pub window_is : s.window ≤ s.longest
  pub longest_is : s.longest ≤ 1000
  pub frames_fit : s.accepted - s.mark ≤ rows_in s.lengths.rings.frames s.info.dims.base_dim
  pub rows_fit : s.accepted + 1 - (s.mark + 1 - s.longest) ≤ rows_in s.lengths.rings.rows s.info.dims.base_dim
  pub waiting_fit : s.waiting ≤ waiting_room s.lengths.rings
  pub in_order : rising 0 (take s.waiting waiting) ≡ true
  pub held_back : any_of (λ f. ltb (f - s.info.opts.left_context) s.mark) (take s.waiting waiting) ≡ false

pub whole : (s : IvectorStream) (waiting : List ℕ) → is_foreign s waiting ≡ false → Whole s waiting
unfolding is_foreign breaks frames_held rows_held
whole s waiting e =
    let h = none_of (λ t. t) (breaks s waiting) e in
    let windows = or_fails (eqb s.window 0 || ltb s.longest s.window) (ltb 1000 s.longest) h.1.1.1.1.1.1.0 in
    let short = or_fails (eqb s.window 0) (ltb s.longest s.window) windows.0 in
    record {
      info_is = not-false _ h.0;
      rooms_fit_is = not-false _ h.1.0;
      few = ltb-false _ _ h.1.1.0;
      next_is = ltb-false _ _ h.1.1.1.0;
      mark_is = ltb-false _ _ h.1.1.1.1.0;
      floor_is = ltb-false _ _ h.1.1.1.1.1.0;
      some_window = omega (arith, eqb-false s.window 0 short.0);
      window_is = ltb-false _ _ short.1;
      longest_is = ltb-false _ _ windows.1;
      frames_fit = ltb-false _ _ h.1.1.1.1.1.1.1.0;
      rows_fit = ltb-false _ _ h.1.1.1.1.1.1.1.1.0;
      waiting_fit = ltb-false _ _ h.1.1.1.1.1.1.1.1.1.0;
      in_order = not-false _ h.1.1.1.1.1.1.1.1.1.1.0;
      held_back = h.1.1.1.1.1.1.1.1.1.1.1.0;
    }

take_min : (n : ℕ) (l : List ℕ) → take (min n (length l)) l ≡ take n l
take_min n l = go (dec_le n (length l))
  where
    go : Dec (n ≤ length l) → take (min n (length l)) l ≡ take n l
    go (yes h) = ap (λ (k : ℕ). take k l) (min-eq_left h)
    go (no h) = let g : length l ≤ n = omega arith in ap (λ (k : ℕ). take k l) (min-eq_right g) ∙ take-length l ∙ sym (take_all n l g)

-- those of the counts: one of them holds, or the last two decide, which are those of the waiting frames
pub counts-at : (s : IvectorStream) (waiting : List ℕ) (k : ℕ) → k < length (drop 2 (breaks s waiting)) → get_or (drop 2 (breaks s waiting)) k false ≡ true → true ≡ counts_broken s waiting
unfolding counts_broken
counts-at s waiting k l h = sym (at_some (λ t. t) false (drop 2 (breaks s waiting)) k l h)

pub waiting_last : (s : IvectorStream) (waiting : List ℕ) {n : ℕ} → n ≡ min s.waiting (length waiting) → FirstAre false 8 (drop 2 (breaks s waiting))
    → waiting_broken (take n waiting) s.info.opts.left_context s.mark ≡ counts_broken s waiting
unfolding counts_broken breaks waiting_broken any_of
waiting_last s waiting e h =
    ap (λ (l : List ℕ). waiting_broken l s.info.opts.left_context s.mark) (ap (λ (k : ℕ). take k waiting) e ∙ take_min s.waiting waiting)
    ∙ ap (λ (t : Bool). not (rising 0 (take s.waiting waiting)) || t) (sym (or-false _))
    ∙ any_rest 8 (drop 2 (breaks s waiting)) h
