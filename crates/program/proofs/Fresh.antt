-- A fresh stream matches a fresh machine: `Inv` at the start.
use Rattle.std.specs.Prelude.{Ok, Err}
use mathlib.Core.Path.{◌≡◌, refl, ap, ap₂, ◌∙◌}
use Prim.Native.Nat.{ℕ, zero, suc, ◌+◌, ◌≤◌, ◌<◌}
use native.Mathlib.Nat.{zero-mul, one-mul, mul-le-mul_right, div-mul-le_self, zero-mod}
use native.Mathlib.Omega.{arith}
use mathlib.Core.List.{List, []}
use lib.ListN.{length, get_or, replicate, length-replicate, get_or-replicate}
use borrow.Author.Tests.{not-false}
use lib.Ieee.{Float, nan}
use Rattle.loops.specs.Lists.{build, any_of, over}
use Rattle.loops.specs.Refusal.{taken}
use Rattle.loops.specs.Ring.{rows_in, place}
use Rattle.loops.proofs.Choose.{and_both}
use Rattle.loops.proofs.Loop.{iter_none}
use Rattle.loops.proofs.Fill.{length_over, take_over, over_at}
use Rattle.loops.proofs.Refusal.{none_first}
use Rattle.floats.specs.Operators.{zero₆₄, at, sum₆₄}
use Rattle.definition.specs.declared.IvectorInfo.{IvectorInfo}
use Rattle.definition.specs.declared.StreamCall.{StreamCall}
use Rattle.definition.specs.declared.EstimateLengths.{EstimateLengths}
use Rattle.definition.specs.declared.RoomLengths.{RoomLengths}
use Rattle.definition.specs.Kaldi.{triangle}
use Rattle.definition.specs.Model.{Tables, table_lengths_of, model_in}
use Rattle.definition.specs.Statistics.{new_stats}
use Rattle.definition.specs.Solve.{prior_vector}
use Rattle.definition.specs.Stream.{info_sound, new_refusal, rising}
use Rattle.definition.specs.Machine.{all_frames, fresh}
use Rattle.definition.proofs.Lengths.{length_new_linear, length_new_quadratic, length_prior}
use Rattle.definition.proofs.Ranges.{Fitting, fitting}
use Rattle.program.specs.Rooms.{Rooms, room_lengths_of, ring_at, waiting_in}
use Rattle.program.specs.Calls.{fresh_rooms}
use Rattle.program.proofs.Facts.{Ranges, ranges}
use Rattle.program.proofs.Sound.{Made, Inv}
use Rattle.program.proofs.Steps.{same_by_four}
use Rattle.definition.specs.Stream.{record_sound}
use Rattle.definition.specs.Model.{tables_fit}

place-zero : (n w : ℕ) → place n w 0 ≡ 0
unfolding place
place-zero n w = rw (zero-mod (rows_in n w)) (zero-mul w)

one-row : (n w : ℕ) → 1 ≤ rows_in n w → w ≤ n
one-row n w h = omega (arith, div-mul-le_self n w, mul-le-mul_right w h, one-mul w)

pub made-stream : (r : ℕ) (s s' : StreamCall) → taken r (Ok s) (Err r) ≡ Ok s' → (r ≡ 0) × (s ≡ s')
made-stream zero s s' e = (refl, cc)
made-stream (suc r) s s' e = let w : ◌≡◌ {A = ℕ} 0 1 = cc in absurd (omega arith)

module _ (i : IvectorInfo) (t : Tables) (z : Rooms) (n : ℕ) where
  abbrev lengths : RoomLengths
  lengths = room_lengths_of z n

  pub fresh_made : new_refusal i (table_lengths_of t) lengths ≡ 0 → Made i t lengths
  unfolding new_refusal info_sound
  fresh_made e =
      let h = none_first _ tt e in
      record { tables_are = not-false _ h.0; info_is = and_both (record_sound i) (tables_fit i.opts i.dims i.tables) (not-false _ h.1.0) (not-false _ h.1.1.0); rooms_fit_is = not-false _ h.1.1.1.0 }

  module _ (made : Made i t lengths) where
    abbrev dim : ℕ
    dim = i.dims.base_dim

    abbrev s : ℕ
    s = i.dims.ivector_dim

    abbrev prior : Float
    prior = i.prior_offset

    -- prefix row 0
    row-none : (d : ℕ) → d < dim → at (over (replicate dim zero₆₄) z.rings.rows) (place (length (over (replicate dim zero₆₄) z.rings.rows)) dim 0 + d) ≡ zero₆₄
    row-none d l =
        ap (λ (k : ℕ). at (over (replicate dim zero₆₄) z.rings.rows) k) (omega (arith, place-zero (length (over (replicate dim zero₆₄) z.rings.rows)) dim))
        ∙ over_at nan (replicate dim zero₆₄) z.rings.rows d (rw (length-replicate dim zero₆₄) l) ∙ get_or-replicate dim d zero₆₄ nan l

    prefix_none : (u d : ℕ) → u ≤ 0 → d < dim
        → at (over (replicate dim zero₆₄) z.rings.rows) (place (length (over (replicate dim zero₆₄) z.rings.rows)) dim u + d) ≡ sum₆₄ zero₆₄ u (λ k. at (get_or [] k []) d)
    prefix_none u d p l = let e : u ≡ 0 = omega arith in rw e (row-none d l ∙ iter_none _ zero₆₄)

    pub fresh_inv : Inv i lengths n (fresh (model_in i t)) (fresh_rooms i z)
    unfolding fresh fresh_rooms waiting_in build rising any_of all_frames ring_at
    fresh_inv =
        let fit : Fitting i.dims lengths = fitting i.dims lengths made.rooms_fit_is in
        let ran : Ranges i = ranges i made.info_is in
        record {
          lengths_are = ap₂ (λ (a : ℕ) (b : EstimateLengths). record { rings = record { frames = lengths.rings.frames; rows = a; waiting_frames = lengths.rings.waiting_frames; waiting_weights = lengths.rings.waiting_weights }; estimate = b })
              (length_over (replicate dim zero₆₄) z.rings.rows (rw (length-replicate dim zero₆₄) (one-row (length z.rings.rows) dim (omega (arith, fit.rows_fit)))))
              (same_by_four (λ (b c d e : ℕ). record { cmvn_stats = b; linear = c; quadratic = d; current = e; scratch = n })
              (length_over (replicate (dim + 1) zero₆₄) z.estimate.cmvn (rw (length-replicate (dim + 1) zero₆₄) fit.cmvn_fits))
              (length_over (new_stats s prior).linear z.estimate.linear (rw (length_new_linear s prior) fit.linear_fits))
              (length_over (new_stats s prior).quadratic z.estimate.quadratic (rw (length_new_quadratic s prior) fit.quadratic_fits))
              (length_over (prior_vector s prior) z.estimate.current (rw (length_prior s prior) fit.current_fits)));
          few = omega arith;
          next_is = omega arith;
          mark_is = omega arith;
          floor_is = omega arith;
          some_window = ran.some_window;
          window_is = omega arith;
          longest_is = ran.window_is;
          frames_fit = omega arith;
          rows_fit = omega (arith, fit.rows_fit);
          waiting_fit = omega arith;
          waiting_is = refl;
          in_order = refl;
          held_back = refl;
          estimate_is = same_by_four (λ (a b c d : List Float). record { cmvn = a; stats = record { num_frames = (new_stats s prior).num_frames; linear = b; quadratic = c }; current = d })
              (take_over (replicate (dim + 1) zero₆₄) z.estimate.cmvn (dim + 1) (length-replicate (dim + 1) zero₆₄))
              (take_over (new_stats s prior).linear z.estimate.linear s (length_new_linear s prior))
              (take_over (new_stats s prior).quadratic z.estimate.quadratic (triangle s) (length_new_quadratic s prior))
              (take_over (prior_vector s prior) z.estimate.current s (length_prior s prior));
          long = record { cmvn_is = length-replicate (dim + 1) zero₆₄; linear_is = length_new_linear s prior; quadratic_is = length_new_quadratic s prior; current_is = length_prior s prior };
          agrees = record {
            accepted_is = refl;
            frame_is = λ u d p q l. absurd (omega arith);
            prefix_is = λ u d p q l. prefix_none u d (omega arith) l;
          };
        }
