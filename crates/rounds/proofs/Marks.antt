-- The traceback's marks, segment after segment, in the rooms.
use Rattle.std.specs.Prelude.{if◌then◌else◌}
use Prim.Native.Nat.{ℕ, ◌+◌, ◌-◌, ◌≤◌, ◌<◌, min, max}
use mathlib.Core.Path.{◌≡◌, refl, sym, ap, ◌∙◌}
use mathlib.Core.Bool.{Bool, true, false, ◌&&◌}
use mathlib.Core.List.{List, [], ◌∷◌, map, foldl, foldl-append}
use native.Mathlib.Numerals.{add-one}
use native.Mathlib.Omega.{arith}
use borrow.Author.Tests.{lt-ltb, le-ltb, le-leb, lt-leb}
use lib.Dec.{leb, ltb}
use lib.IntN.{ℤ, pos}
use lib.ListN.{length, get_or, length-map}
use lib.Ieee.{Float, nan}
use Rattle.loops.specs.Lists.{build, any_of, over}
use Rattle.loops.specs.Ring.{put}
use Rattle.loops.proofs.Choose.{choose_true, choose_false, choose_map, choose_same, and_first, and_second, and_both}
use Rattle.loops.proofs.Build.{length_build, build_ext, build_snoc, map-build}
use Rattle.loops.proofs.Fill.{over_self, over_again, put-over}
use Rattle.loops.proofs.Folds.{foldl_keeps}
use Rattle.floats.specs.Operators.{zero₃₂}
use Rattle.definition.specs.Silence.{decoder, FrameInfo, Table, info_at, PhoneSegment, segments, same_phone, marked, traced}
use Rattle.rounds.specs.Inner.SilenceWeighting.{table_of, flag_at}
use Rattle.rounds.proofs.Tables.{length_table, info_is, grown, grown_at}

module _ (phones : List ℤ) (decoded : ℕ) (ps : List ℤ) (starts stops : List ℕ) (t : Table) where
  abbrev segment : ℕ → PhoneSegment
  segment i = record { phone = get_or ps i (pos 0); start = decoder (get_or starts i 0); stop = decoder (get_or stops i 0) }

  -- frame k after the first i segments
  unfoldable pub after : ℕ → ℕ → FrameInfo
  after i k = foldl (marked phones (decoder decoded) k) (info_at t k) (build i segment)

  after_more : (i k : ℕ) → after (i + 1) k ≡ marked phones (decoder decoded) k (after i k) (segment i)
  unfolding after
  after_more i k =
      ap (foldl (marked phones (decoder decoded) k) (info_at t k)) (ap (λ (n : ℕ). build n segment) (add-one i) ∙ build_snoc i segment)
      ∙ foldl-append (marked phones (decoder decoded) k) (info_at t k) (build i segment) (segment i ∷ [])

  module _ {A : Type 0} (part : FrameInfo → A) (room : List A) where
    pub mark_none : (d : A) (n : ℕ) → n ≤ length room → ((k : ℕ) → k < n → get_or room k d ≡ part (info_at t k)) → room ≡ over (build n (λ k. part (after 0 k))) room
    unfolding after build
    mark_none d n l h = sym (over_self d n room l) ∙ ap (λ (s : List A). over s room) (build_ext n _ _ h)

    pub mark_end : (n i : ℕ) → length t ≡ n → decoded ≤ n → i ≡ length ps → over (build n (λ k. part (after i k))) room ≡ over (map part (traced phones (decoder decoded) (segments ps starts stops) t)) room
    unfolding after traced segments
    mark_end n i e h q =
        let m : n ≡ max (length t) decoded = omega arith in
        ap (λ (s : List A). over s room) (ap (λ (z : ℕ). build n (λ k. part (after z k))) q ∙ ap (λ (z : ℕ). build z (λ k. part (after (length ps) k))) m ∙ sym (map-build part _ _))

    -- segment i gives the frames that it covers v in this part
    module _ (v : A) (i : ℕ) (gives : (b : Bool) (f : FrameInfo) → part (if b then record { known = true; is_silence = any_of (same_phone (get_or ps i (pos 0))) phones; current_weight = f.current_weight } else f) ≡ (if b then v else part f)) where
      abbrev covers : ℕ → Bool
      covers k = leb (get_or starts i 0) k && ltb k (min (get_or stops i 0) decoded)

      part_more : (k : ℕ) → part (after (i + 1) k) ≡ (if covers k then v else part (after i k))
      unfolding marked
      part_more k = ap part (after_more i k) ∙ gives (covers k) (after i k)

      pub mark_turn : (n stop start m : ℕ) (l l' : List A) → decoded ≤ n → stop ≡ min (get_or stops i 0) decoded → start ≡ min (get_or starts i 0) stop → m ≡ stop - start
          → l ≡ over (build n (λ k. part (after i k))) room → l' ≡ put start (build m (λ j. v)) l → l' ≡ over (build n (λ k. part (after (i + 1) k))) room
      mark_turn n stop start m l l' d es ea em e h =
          h ∙ ap (put start _) e
          ∙ put-over start m n (λ j. v) (λ k. part (after i k)) (λ k. part (after (i + 1) k)) room (omega arith)
          (λ k q. choose_false v (and_first _ _ (lt-leb (get_or starts i 0) k (omega arith))) refl ∙ sym (part_more k))
          (λ k q. choose_true _ (and_both _ _ (le-leb (get_or starts i 0) (start + k) (omega arith)) (lt-ltb (start + k) (min (get_or stops i 0) decoded) (omega arith))) refl ∙ sym (part_more (start + k)))
          (λ k p q. choose_false v (and_second (leb (get_or starts i 0) k) _ (le-ltb k (min (get_or stops i 0) decoded) (omega arith))) refl ∙ sym (part_more k))

pub known-given : (s : Bool) (b : Bool) (f : FrameInfo) → (if b then record { known = true; is_silence = s; current_weight = f.current_weight } else f).known ≡ (if b then true else f.known)
known-given s b f = choose_map (λ (f : FrameInfo). f.known) b _ f

pub silence-given : (s : Bool) (b : Bool) (f : FrameInfo) → (if b then record { known = true; is_silence = s; current_weight = f.current_weight } else f).is_silence ≡ (if b then s else f.is_silence)
silence-given s b f = choose_map (λ (f : FrameInfo). f.is_silence) b _ f

pub length-traced : (phones : List ℤ) (decoded : ℕ) (gs : List PhoneSegment) (t : Table) → length (traced phones (decoder decoded) gs t) ≡ max (length t) decoded
unfolding traced
length-traced phones decoded gs t = length_build _ _

-- ---- the rooms, grown and then marked

module _ (n more size : ℕ) (e : size ≡ n + more) (ks ss : List Bool) (ws : List Float) (ks₁ ss₁ : List Bool) (ws₁ : List Float) (lk : size ≤ length ks) (ls : size ≤ length ss) (lw : size ≤ length ws)
    (ek : ks₁ ≡ put n (build more (λ i. false)) ks) (es : ss₁ ≡ put n (build more (λ i. false)) ss) (ew : ws₁ ≡ put n (build more (λ i. zero₃₂)) ws) where
  grown_info : (k : ℕ) → info_at (table_of size ks₁ ss₁ ws₁) k ≡ info_at (table_of n ks ss ws) k
  grown_info k =
      info_is size ks₁ ss₁ ws₁ k
      ∙ rw (grown_at false false n ks more size ks₁ e lk ek k, grown_at false false n ss more size ss₁ e ls es k, grown_at nan zero₃₂ n ws more size ws₁ e lw ew k)
      (sym (info_is n ks ss ws k))

  module _ (phones : List ℤ) (decoded : ℕ) (gs : List PhoneSegment) (em : size ≡ max n decoded) where
    abbrev old : Table
    old = traced phones (decoder decoded) gs (table_of n ks ss ws)

    old_long : length old ≡ size
    old_long = length-traced phones decoded gs (table_of n ks ss ws) ∙ ap (λ (z : ℕ). max z decoded) (length_table n ks ss ws) ∙ sym em

    traced_grown : traced phones (decoder decoded) gs (table_of size ks₁ ss₁ ws₁) ≡ old
    unfolding traced
    traced_grown =
        let z : max (length (table_of size ks₁ ss₁ ws₁)) decoded ≡ max (length (table_of n ks ss ws)) decoded = omega (arith, length_table size ks₁ ss₁ ws₁, length_table n ks ss ws) in
        ap (λ (z : ℕ). build z (λ k. foldl (marked phones (decoder decoded) k) (info_at (table_of size ks₁ ss₁ ws₁) k) gs)) z
        ∙ build_ext _ _ _ (λ k l. ap (λ (f : FrameInfo). foldl (marked phones (decoder decoded) k) f gs) (grown_info k))

    -- a room of flags
    pub marked_room : (part : FrameInfo → Bool) (room l l' : List Bool) → size ≤ length room → l ≡ put n (build more (λ i. false)) room → l' ≡ over (map part (traced phones (decoder decoded) gs (table_of size ks₁ ss₁ ws₁))) l
        → l' ≡ over (map part old) room
    marked_room part room l l' h g q =
        q ∙ ap (λ (z : Table). over (map part z) l) traced_grown ∙ ap (over (map part old)) (grown false false n room more size l e h g)
        ∙ over_again _ (map part old) room (omega (arith, length_build size (flag_at n room), length-map old part, old_long))

    same_weight : (k : ℕ) → (foldl (marked phones (decoder decoded) k) (info_at (table_of n ks ss ws) k) gs).current_weight ≡ (info_at (table_of n ks ss ws) k).current_weight
    unfolding marked
    same_weight k =
        foldl_keeps (marked phones (decoder decoded) k) (λ (f : FrameInfo). f.current_weight ≡ (info_at (table_of n ks ss ws) k).current_weight) _ gs
        (λ f g h.
        let b : Bool = leb g.start.0 k && ltb k (min g.stop.0 decoded) in
        choose_map (λ (f : FrameInfo). f.current_weight) b _ f ∙ choose_same b _ ∙ h) refl

    pub marked_weight : ws₁ ≡ over (map (λ (f : FrameInfo). f.current_weight) old) ws
    unfolding traced
    marked_weight =
        grown nan zero₃₂ n ws more size ws₁ e lw ew
        ∙ ap (λ (s : List Float). over s ws)
        (build_ext size _ _ (λ k l. sym (same_weight k ∙ ap (λ (f : FrameInfo). f.current_weight) (info_is n ks ss ws k)))
        ∙ ap (λ (z : ℕ). build z (λ k. (foldl (marked phones (decoder decoded) k) (info_at (table_of n ks ss ws) k) gs).current_weight)) (em ∙ ap (λ (z : ℕ). max z decoded) (sym (length_table n ks ss ws)))
        ∙ sym (map-build _ _ _))
