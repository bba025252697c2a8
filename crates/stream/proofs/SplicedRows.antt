-- Laws of the spliced row: what a fetch leaves and adds, the loop over its places with the LDA's sums so far (`lda_on` in LdaSums.antt), and the whole row.
use Rattle.std.proofs.Common.{◌≡◌, ℕ, zero, suc, ◌+◌, ◌-◌, ◌*◌, ◌<◌, ◌≤◌, min, Bool, true, false, List, length, take, drop, sym, refl, ap, ◌∙◌, suc-mul, zero-mul, arith, length-append, if◌then◌else◌}
use lib.Ieee.{Float}
use Rattle.loops.specs.Loop.{iter}
use Rattle.loops.specs.Lists.{build, flat}
use Rattle.loops.specs.Inner.{fill}
use Rattle.loops.proofs.Loop.{at_end, iter_more}
use Rattle.loops.proofs.Choose.{choose_true, choose_false}
use Rattle.loops.proofs.Build.{length_build}
use Rattle.loops.proofs.Flat.{flat_none, flat_snoc}
use Rattle.floats.specs.Operators.{◌*₃₂◌, at, sum₃₂}
use Rattle.definition.specs.declared.IvectorOptions.{IvectorOptions}
use Rattle.definition.specs.Options.{width}
use Rattle.definition.specs.Views.{Frames, cmvn_state, cmvn_frame, splice_at, raw_row, normalised_row, lda_frame}
use Rattle.stream.specs.declared.frame_views.view.StreamView.{StreamView}
use Rattle.stream.specs.declared.frame_views.view.Features.{Features}
use Rattle.stream.specs.declared.frame_views.view.Features.TheVariants.{Raw, Normalized}
use Rattle.stream.specs.Rows.{is_normalized, frames_of, spliced_row}
use Rattle.stream.specs.Inner.FrameViews.{fetched, viewed, spliced_to}
use Rattle.stream.proofs.LdaSums.{lda_none, lda_on}

-- ---- what a fetch leaves, and what it adds

pub length-viewed : (dim : ℕ) (F : Frames) (normalized : Bool) (t : ℕ) (state : List Float) → length (viewed dim F normalized t state) ≡ dim
unfolding viewed cmvn_frame
length-viewed dim F true t state = length_build dim _
length-viewed dim F false t state = length_build dim _

-- a part of the normalised row, or of the raw store
pub viewed_on : (dim : ℕ) (F : Frames) (t : ℕ) (state : List Float) (normalized : Bool) {row view raw : List Float} → row ≡ (if normalized then view else raw)
    → (normalized ≡ true → view ≡ cmvn_frame dim F t state) → raw ≡ build dim (F.frame t) → row ≡ viewed dim F normalized t state
unfolding viewed
viewed_on dim F t state true e h g = e ∙ h refl
viewed_on dim F t state false e h g = e ∙ g

module _ (o : IvectorOptions) (dim : ℕ) (global : List Float) (F : Frames) (t : ℕ) (s : List Float) {normalized : Bool} where
  pub fetched_true : {s' : List Float} → normalized ≡ true → s' ≡ cmvn_state o dim global F t s → s' ≡ fetched o dim global F normalized t s
  unfolding fetched
  fetched_true e h = choose_true s e h

  pub fetched_false : normalized ≡ false → s ≡ fetched o dim global F normalized t s
  unfolding fetched
  fetched_false e = choose_false _ e refl

pub splice_at_on : (o : IvectorOptions) (accepted t n : ℕ) {m r : ℕ} → m ≡ t + n - o.left_context → r ≡ min m (accepted - 1) → r ≡ splice_at o accepted t n
unfolding splice_at
splice_at_on o accepted t n e h = rw e at h

-- the first place's frame, and that of the next place: the same one, or the one after it
module _ (o : IvectorOptions) (accepted t : ℕ) where
  pub splice_first : {u : ℕ} → t < accepted → u ≡ t - o.left_context → u ≡ splice_at o accepted t 0
  unfolding splice_at
  splice_first h e = omega (arith, h, e)

  pub splice_next : (n : ℕ) {u v : ℕ} → u ≡ splice_at o accepted t n → v ≡ splice_at o accepted t (n + 1) → (u ≤ v) × (v ≤ u + 1)
  unfolding splice_at
  splice_next n e f = (omega (arith, e, f), omega (arith, e, f))

  pub splice_under : (n : ℕ) {u : ℕ} → t < accepted → u ≡ splice_at o accepted t n → u < accepted
  unfolding splice_at
  splice_under n h e = omega (arith, h, e)

-- ---- the loop of fetches

module _ (o : IvectorOptions) (dim : ℕ) (global : List Float) (F : Frames) (normalized : Bool) (t : ℕ) (state : List Float) where
  abbrev Done : ℕ → List Float × List Float
  Done n = spliced_to o dim global F normalized t n state

  pub spliced_none : state ≡ (Done 0).0
  unfolding spliced_to iter
  spliced_none = refl

  pub lda_start : (d : ℕ) (table offset room : List Float) {y : List Float} → length room ≡ d → y ≡ fill d (at offset) room → y ≡ lda_frame d table offset (Done 0).1
  unfolding spliced_to iter
  lda_start d table offset room = lda_none d table offset room

  length_done : (n : ℕ) → length (Done n).1 ≡ n * dim
  unfolding spliced_to iter
  length_done zero = sym (zero-mul dim)
  length_done (suc n) = rw (length-append, length-viewed, suc-mul) (omega (arith, length_done n))

  module _ (n : ℕ) {u : ℕ} {s s' : List Float} (e : u ≡ splice_at o F.accepted t n) (f : s ≡ (Done n).0) (h : s' ≡ fetched o dim global F normalized u s) where
    pub spliced_turn : s' ≡ (Done (n + 1)).0
    unfolding spliced_to
    spliced_turn = h ∙ rw (iter_more _ _ n, e, f)

    -- the LDA's sums over the numbers so far go on with the frame's, by the rows of the table from `start` to `end`
    pub lda_place : (d : ℕ) (table offset : List Float) {size start end : ℕ} {y z : List Float} → size ≡ dim * d → start ≡ n * size → end ≡ start + size
        → y ≡ lda_frame d table offset (Done n).1 → z ≡ fill (length y) (λ r. sum₃₂ (at y r) dim (λ c. at (take (end - start) (drop start table)) (c * length y + r) *₃₂ at (viewed dim F normalized u s') c)) y
        → z ≡ lda_frame d table offset (Done (n + 1)).1
    unfolding spliced_to
    lda_place d table offset p q r g k =
        lda_on d table offset n dim (Done n).1 (viewed dim F normalized u s') (length_done n) (length-viewed dim F normalized u s') p q r g k
        ∙ ap (lda_frame d table offset) (rw (h, e, f, iter_more _ _ n))

-- ---- the whole row

raw_to : (o : IvectorOptions) (dim : ℕ) (global : List Float) (F : Frames) (t n : ℕ) (state : List Float)
    → spliced_to o dim global F false t n state ≡ (state, flat n (λ k. build dim (F.frame (splice_at o F.accepted t k))))
unfolding spliced_to fetched viewed iter
raw_to o dim global F t zero state = ap (λ (r : List Float). (state, r)) (sym (flat_none _))
raw_to o dim global F t (suc n) state = rw (raw_to o dim global F t n state) (ap (λ (r : List Float). (state, r)) (sym (flat_snoc n _)))

module _ (v : StreamView) (t : ℕ) (state : List Float) where
  abbrev to : Features → ℕ → List Float × List Float
  to f n = spliced_to v.options v.dim v.global.now (frames_of v) (is_normalized f) t n state

  row_on : (f : Features) → to f (width v.options) ≡ spliced_row v f t state
  unfolding spliced_to fetched viewed normalised_row raw_row
  row_on Normalized = refl
  row_on Raw = raw_to v.options v.dim v.global.now (frames_of v) t (width v.options) state

  -- the loop's end: all places of the row
  module _ (f : Features) (n : ℕ) (p : n ≤ width v.options) (q : width v.options ≤ n) where
    pub spliced_end : {s : List Float} → s ≡ (to f n).0 → s ≡ (spliced_row v f t state).0
    spliced_end e = at_end (λ k. (to f k).0) n (width v.options) p q e ∙ ap (λ (r : List Float × List Float). r.0) (row_on f)

    pub lda_end : (d : ℕ) (table offset : List Float) {y : List Float} → y ≡ lda_frame d table offset (to f n).1 → y ≡ lda_frame d table offset (spliced_row v f t state).1
    lda_end d table offset e =
        at_end (λ k. lda_frame d table offset (to f k).1) n (width v.options) p q e
        ∙ ap (λ (r : List Float × List Float). lda_frame d table offset r.1) (row_on f)
