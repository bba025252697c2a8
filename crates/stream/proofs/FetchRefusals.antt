-- What is known once a fetch is taken, and its tests as code makes them.
use mathlib.Core.Path.{◌≡◌, refl, sym, ap, ap₂, subst, ◌∙◌}
use mathlib.Core.Bool.{Bool, true, false, not, ◌&&◌}
use mathlib.Core.List.{List, [], ◌∷◌}
use Prim.Native.Nat.{ℕ, ◌≤◌, ◌<◌}
use native.Mathlib.Omega.{arith}
use lib.Dec.{eqb, leb}
use borrow.Author.Tests.{not-false, eqb-true, le-leb, leb-false}
use Rattle.loops.proofs.Choose.{by-test, and_holds, and_both}
use Rattle.loops.proofs.Refusal.{none_first, first-here, first_past}
use Rattle.loops.proofs.Tests.{each_of, of_each, each_pair}
use Rattle.definition.specs.declared.IvectorInfo.{IvectorInfo}
use Rattle.definition.specs.declared.IvectorStream.{IvectorStream}
use Rattle.definition.specs.declared.RingLengths.{RingLengths}
use Rattle.definition.specs.declared.EstimateLengths.{EstimateLengths}
use Rattle.definition.specs.declared.RoomLengths.{RoomLengths}
use Rattle.definition.specs.declared.TableLengths.{TableLengths}
use Rattle.definition.specs.Options.{options_in_range, dims_agree}
use Rattle.definition.specs.Model.{in_force, table_lengths, tables_fit}
use Rattle.definition.specs.Machine.{frames_ready, fetch_tests}
use Rattle.definition.specs.Stream.{record_sound, info_sound, rooms_fit, is_foreign, same_tables, same_rings, same_rooms, ring_lengths, estimate_lengths}
use Rattle.definition.proofs.Ranges.{info_sound_lem}
use Rattle.program.specs.Rooms.{Rooms, room_lengths_of}
use Rattle.program.specs.Calls.{fetch_refusal}
use Rattle.program.proofs.Steps.{same_by_four}
use Rattle.stream.proofs.Records.{Passed, tests_passed, few}

-- lengths that pass for the same are the same
same_tables_lem : (a b : TableLengths) → same_tables a b ≡ true → a ≡ b
unfolding same_tables
same_tables_lem a b e =
    let h = each_pair eqb (table_lengths a) (table_lengths b) e in
    let p0 : a.gconsts ≡ b.gconsts = eqb-true _ _ h.0 in
    let p1 : a.means_invvars_t ≡ b.means_invvars_t = eqb-true _ _ h.1.0 in
    let p2 : a.inv_vars_t ≡ b.inv_vars_t = eqb-true _ _ h.1.1.0 in
    let p3 : a.sigma_inv_m ≡ b.sigma_inv_m = eqb-true _ _ h.1.1.1.0 in
    let p4 : a.u ≡ b.u = eqb-true _ _ h.1.1.1.1.0 in
    let p5 : a.lda_t ≡ b.lda_t = eqb-true _ _ h.1.1.1.1.1.0 in
    let p6 : a.lda_offset ≡ b.lda_offset = eqb-true _ _ h.1.1.1.1.1.1.0 in
    let p7 : a.global_mean_stats ≡ b.global_mean_stats = eqb-true _ _ h.1.1.1.1.1.1.1.0 in
    ap₂ (λ (x y : ℕ). record { gconsts = x; means_invvars_t = y; inv_vars_t = a.inv_vars_t; sigma_inv_m = a.sigma_inv_m; u = a.u; lda_t = a.lda_t; lda_offset = a.lda_offset; global_mean_stats = a.global_mean_stats }) p0 p1
    ∙ ap₂ (λ (x y : ℕ). record { gconsts = b.gconsts; means_invvars_t = b.means_invvars_t; inv_vars_t = x; sigma_inv_m = y; u = a.u; lda_t = a.lda_t; lda_offset = a.lda_offset; global_mean_stats = a.global_mean_stats }) p2 p3
    ∙ ap₂ (λ (x y : ℕ). record { gconsts = b.gconsts; means_invvars_t = b.means_invvars_t; inv_vars_t = b.inv_vars_t; sigma_inv_m = b.sigma_inv_m; u = x; lda_t = y; lda_offset = a.lda_offset; global_mean_stats = a.global_mean_stats }) p4 p5
    ∙ ap₂ (λ (x y : ℕ). record { gconsts = b.gconsts; means_invvars_t = b.means_invvars_t; inv_vars_t = b.inv_vars_t; sigma_inv_m = b.sigma_inv_m; u = b.u; lda_t = b.lda_t; lda_offset = x; global_mean_stats = y }) p6 p7

same_rooms_lem : (a b : RoomLengths) → same_rooms a b ≡ true → a ≡ b
unfolding same_rooms same_rings
same_rooms_lem a b e =
    let g = and_holds (same_rings a.rings b.rings) _ e in
    let h = each_pair eqb (ring_lengths a.rings) (ring_lengths b.rings) g.0 in
    let k = each_pair eqb (estimate_lengths a.estimate) (estimate_lengths b.estimate) g.1 in
    ap₂ (λ (x : RingLengths) (y : EstimateLengths). record { rings = x; estimate = y })
    (same_by_four (λ (p q r s : ℕ). record { frames = p; rows = q; waiting_frames = r; waiting_weights = s })
    (eqb-true _ _ h.0) (eqb-true _ _ h.1.0) (eqb-true _ _ h.1.1.0) (eqb-true _ _ h.1.1.1.0))
    (same_by_four (λ (p q r s : ℕ). record { cmvn_stats = p; linear = q; quadratic = r; current = s; scratch = a.estimate.scratch })
    (eqb-true _ _ k.0) (eqb-true _ _ k.1.0) (eqb-true _ _ k.1.1.0) (eqb-true _ _ k.1.1.1.0)
    ∙ ap (λ (p : ℕ). record { cmvn_stats = b.estimate.cmvn_stats; linear = b.estimate.linear; quadratic = b.estimate.quadratic; current = b.estimate.current; scratch = p }) (eqb-true _ _ k.1.1.1.1.0))

-- ---- a model's record with another window in its range

sound_in_force : (i : IvectorInfo) (w : ℕ) → 0 < w → w ≤ 1000 → record_sound i ≡ true → record_sound (in_force i w) ≡ true
unfolding record_sound options_in_range dims_agree
sound_in_force i w p q e =
    let h = each_of (λ t. t) _ e in
    let o = each_of (λ t. t) _ h.0 in
    of_each (λ t. t) _ (of_each (λ t. t) _ (o.0, (o.1.0, (and_both (leb 1 w) (leb w 1000) (le-leb 1 w p) (le-leb w 1000 q), o.1.1.1))), h.1)

tables_in_force : (i : IvectorInfo) (w : ℕ) (t : TableLengths) → tables_fit (in_force i w).opts i.dims t ≡ tables_fit i.opts i.dims t
unfolding tables_fit
tables_in_force i w t = refl

module _ (s : IvectorStream) (t : TableLengths) (z : RoomLengths) (fs : List ℕ) (f n : ℕ) where
  abbrev pub fetch_list : List (Bool × ℕ)
  fetch_list =
      (not (same_tables t s.info.tables), 10) ∷ (not (same_rooms z s.lengths), 10) ∷ (is_foreign s fs, 10)
      ∷ (not (eqb n s.info.dims.ivector_dim), 20)
      ∷ (leb (frames_ready s.info.opts s.input_finished s.accepted) f, 21)
      ∷ (leb s.num_frames_stats f && s.delta_weights_provided && leb s.past_highest f, 22) ∷ []

module _ (s : IvectorStream) (t : TableLengths) (w : Rooms) (scratch f n : ℕ) where
  abbrev z : RoomLengths
  z = room_lengths_of w scratch

  abbrev fs : List ℕ
  fs = w.rings.waiting_frames

  rooms_passed : not (same_rooms z s.lengths) ≡ false → is_foreign s fs ≡ false → Passed s w.rings
  unfolding same_rooms
  rooms_passed e b = tests_passed s w.rings (ap not (and_holds (same_rings z.rings s.lengths.rings) _ (not-false _ e)).0) b

  pub record FetchTaken : Type 0 where
    pub passed : Passed s w.rings
    pub tables_are : t ≡ s.info.tables
    pub rooms_are : z ≡ s.lengths
    pub wide : n ≡ s.info.dims.ivector_dim
    pub below : f < s.accepted

  ready_under : (t : Bool) (a : ℕ) → frames_ready s.info.opts t a ≤ a
  unfolding frames_ready
  ready_under true a = omega arith
  ready_under false a = omega arith

  pub fetch_taken : fetch_refusal s t z fs f n ≡ 0 → FetchTaken
  unfolding fetch_refusal fetch_tests
  fetch_taken e =
      let h = none_first (fetch_list s t z fs f n) tt e in
      record {
        passed = rooms_passed h.1.0 h.1.1.0;
        tables_are = same_tables_lem t s.info.tables (not-false _ h.0);
        rooms_are = same_rooms_lem z s.lengths (not-false _ h.1.0);
        wide = eqb-true n s.info.dims.ivector_dim (not-false _ h.1.1.1.0);
        below = omega (arith, leb-false _ f h.1.1.1.1.0, ready_under s.input_finished s.accepted);
      }

  -- what the arithmetic of a fetch asks of the record, the tables and the rooms
  module _ (T : FetchTaken) where
    pub record_is : record_sound (in_force s.info s.window) ≡ true
    unfolding info_sound
    record_is =
        let w = T.passed.whole_is in
        sound_in_force s.info s.window w.some_window (omega (arith, w.window_is, w.longest_is)) (and_holds (record_sound s.info) _ w.info_is).0

    pub tables_fit_is : tables_fit (in_force s.info s.window).opts s.info.dims t ≡ true
    tables_fit_is = tables_in_force s.info s.window t ∙ subst (λ (y : TableLengths). tables_fit s.info.opts s.info.dims y ≡ true) (sym T.tables_are) (info_sound_lem s.info T.passed.whole_is.info_is).1

    pub rooms_fit_is : rooms_fit s.info.dims z ≡ true
    rooms_fit_is = subst (λ (y : RoomLengths). rooms_fit s.info.dims y ≡ true) (sym T.rooms_are) T.passed.whole_is.rooms_fit_is

  pub fetch_few : (fetch_refusal s t z fs f n ≡ 10 → ⊥) → (s.accepted ≤ 1000000000) × (s.mark ≤ 1000000000)
  unfolding fetch_refusal
  fetch_few h =
      by-test (not (same_tables t s.info.tables)) (λ a. absurd (h (first-here _ _ a)))
      (λ a. by-test (not (same_rooms z s.lengths)) (λ b. absurd (h (first_past _ _ a ∙ first-here _ _ b)))
      (λ b. by-test (is_foreign s fs) (λ c. absurd (h (first_past _ _ a ∙ first_past _ _ b ∙ first-here _ _ c))) (λ c. few s w.rings (rooms_passed b c))))
