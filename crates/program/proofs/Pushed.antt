-- A push in the rings: the frames and the prefix sums that are held are those of the history.
use mathlib.Core.Path.{◌≡◌, refl, sym, ap, ◌∙◌}
use mathlib.Core.List.{List, [], ◌∷◌, ◌++◌}
use Prim.Native.Nat.{ℕ, ◌+◌, ◌-◌, ◌≤◌, ◌<◌}
use native.Mathlib.Decide.{dec_lt}
use native.Mathlib.Omega.{arith}
use lib.ListN.{length, get_or, length-append, get_or-append}
use lib.Seq.{get_or-append_seam}
use lib.Ieee.{Float, nan}
use Rattle.loops.specs.Lists.{build}
use Rattle.loops.specs.Ring.{rows_in, put, place}
use Rattle.loops.proofs.Loop.{iter_more, iter_ext}
use Rattle.loops.proofs.Build.{length_build, at_build}
use Rattle.loops.proofs.Fill.{length_put}
use Rattle.loops.proofs.Ring.{place_in, ring_new, ring_kept}
use Rattle.floats.specs.Operators.{◌+₆₄◌, zero₆₄, at, sum₆₄}
use Rattle.definition.specs.Machine.{all_frames}
use Rattle.definition.proofs.Agree.{Agree}
use Rattle.program.specs.Rooms.{ring_at, ring_frames}

-- ---- one row is written: it, and an earlier one of the window

module _ (dim t : ℕ) (xs room : List Float) (wide : length xs ≡ dim) where
  same_room : 0 < rows_in (length room) dim → length (put (place (length room) dim t) xs room) ≡ length room
  same_room p = length_put (place (length room) dim t) xs room (omega (arith, place_in (length room) dim t p))

  row_new : 0 < rows_in (length room) dim → (d : ℕ) → d < dim → ring_at dim (put (place (length room) dim t) xs room) t d ≡ at xs d
  unfolding ring_at
  row_new p d l = rw (same_room p) (ring_new nan (length room) dim t xs room refl wide p d l)

  row_kept : (u : ℕ) → u < t → t < u + rows_in (length room) dim → (d : ℕ) → d < dim → ring_at dim (put (place (length room) dim t) xs room) u d ≡ ring_at dim room u d
  unfolding ring_at
  row_kept u p q d l = rw (same_room (omega arith)) (ring_kept nan (length room) dim t xs room refl wide u p q d l)

-- ---- a history, and one frame more

module _ (h : List (List Float)) (x : List Float) where
  abbrev m : ℕ
  m = length h

  abbrev h' : List (List Float)
  h' = h ++ (x ∷ [])

  abbrev sum_to : List (List Float) → ℕ → ℕ → Float
  sum_to h t d = sum₆₄ zero₆₄ t (λ k. at (get_or h k []) d)

  frame_before : (t d : ℕ) → t < m → at (get_or h t []) d ≡ at (get_or h' t []) d
  frame_before t d l = ap (λ (y : List Float). at y d) (sym (get_or-append h (x ∷ []) [] t l))

  frame_new : (d : ℕ) → at x d ≡ at (get_or h' m []) d
  frame_new d = ap (λ (y : List Float). at y d) (sym (get_or-append_seam h x [] []))

  sum_before : (t d : ℕ) → t ≤ m → sum_to h t d ≡ sum_to h' t d
  sum_before t d l = iter_ext t _ _ zero₆₄ (λ k p y. ap (λ (v : Float). y +₆₄ v) (frame_before k d (omega arith)))

  sum_new : (d : ℕ) → sum_to h m d +₆₄ at x d ≡ sum_to h' (m + 1) d
  sum_new d = rw (sum_before m d (omega arith), frame_new d) (sym (iter_more (λ k a. a +₆₄ at (get_or h' k []) d) zero₆₄ m))

  -- there is room for one more frame and one more prefix row
  module _ (dim mark window : ℕ) (frames rows : List Float) (wide : length x ≡ dim) (low : mark + 1 - window ≤ m)
      (frame_room_is : m - mark < rows_in (length frames) dim) (row_room_is : m + 1 - (mark + 1 - window) < rows_in (length rows) dim)
      (a : Agree (ring_frames dim m frames rows) (all_frames h) dim mark window) where
    -- the prefix row to come
    abbrev y : List Float
    y = build dim (λ d. ring_at dim rows m d +₆₄ at x d)

    abbrev frames' : List Float
    frames' = put (place (length frames) dim m) x frames

    abbrev rows' : List Float
    rows' = put (place (length rows) dim (m + 1)) y rows

    frame_at : (t d : ℕ) → mark ≤ t → t < m + 1 → d < dim → Dec (t < m) → ring_at dim frames' t d ≡ at (get_or h' t []) d
    unfolding all_frames
    frame_at t d p q l (yes b) = row_kept dim m x frames wide t b (omega arith) d l ∙ a.frame_is t d p b l ∙ frame_before t d b
    frame_at t d p q l (no b) = let e : t ≡ m = omega arith in rw e (row_new dim m x frames wide (omega arith) d l ∙ frame_new d)

    row_at : (t d : ℕ) → mark + 1 - window ≤ t → t ≤ m + 1 → d < dim → Dec (t < m + 1) → ring_at dim rows' t d ≡ sum_to h' t d
    unfolding all_frames
    row_at t d p q l (yes b) =
        row_kept dim (m + 1) y rows (length_build dim _) t b (omega arith) d l ∙ a.prefix_is t d p (omega arith) l ∙ sum_before t d (omega arith)
    row_at t d p q l (no b) =
        let e : t ≡ m + 1 = omega arith in
        rw e
        (row_new dim (m + 1) y rows (length_build dim _) (omega arith) d l ∙ at_build nan dim _ d l
        ∙ ap (λ (v : Float). v +₆₄ at x d) (a.prefix_is m d low (omega arith) l) ∙ sum_new d)

    pub pushed_agrees : Agree (ring_frames dim (m + 1) frames' rows') (all_frames h') dim mark window
    unfolding all_frames
    pushed_agrees =
        record {
          accepted_is = sym (length-append h (x ∷ []));
          frame_is = λ t d p q l. frame_at t d p q l (dec_lt t m);
          prefix_is = λ t d p q l. row_at t d p q l (dec_lt t (m + 1));
        }
