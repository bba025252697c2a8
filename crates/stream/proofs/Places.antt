-- A batch place by place: what is left of it when the frame at a place is taken, until none is (`left_less`, `left_none`); what stands at a place,
-- without weights (`frame_there`); a batch of all its places (`whole_batch`); and one that takes no frame from `next` on, with none named (`none_named`).
use mathlib.Core.Path.{◌≡◌, refl, sym, ap, ap₂, ◌∙◌}
use mathlib.Core.Bool.{Bool, false}
use Prim.Native.Nat.{ℕ, suc, ◌+◌, ◌-◌, ◌≤◌, ◌<◌}
use native.Mathlib.Nat.{add-zero}
use native.Mathlib.Omega.{arith}
use mathlib.Core.List.{List, [], ◌∷◌, ◌++◌, append-nil, append_assoc}
use lib.ListN.{drop_of_length-le}
use lib.Ieee.{Float}
use Rattle.loops.specs.Lists.{build}
use Rattle.loops.proofs.Build.{build_ext}
use Rattle.loops.proofs.Choose.{by-test}
use Rattle.floats.specs.Ln.{ln_narrow}
use Rattle.definition.specs.declared.IvectorOptions.{IvectorOptions}
use Rattle.definition.specs.declared.FrameWeight.{FrameWeight}
use Rattle.definition.specs.declared.FrameWeight.TheVariants.{Weighed}
use Rattle.definition.specs.Model.{Model}
use Rattle.definition.specs.Views.{Frames}
use Rattle.definition.specs.Statistics.{Entry}
use Rattle.definition.specs.Posteriors.{unweighted}
use Rattle.definition.specs.Changes.{merged, Batch}
use Rattle.definition.specs.Estimate.{entries, nans_over}
use Rattle.program.specs.Rooms.{waiting_in}
use Rattle.program.proofs.WaitingRooms.{length_waiting}
use Rattle.gmm.specs.declared.batch_sums.RunningSums.{RunningSums}
use Rattle.gmm.specs.Batch.{Logged}
use Rattle.gmm.specs.Inner.BatchSumsRooms.{SumsIn}
use Rattle.gmm.proofs.Batches.{sums_on, sums_none}
use Rattle.stream.specs.declared.ivector_batch.intake.Intake.{Intake}
use Rattle.stream.specs.Inner.IvectorBatch.{run, changes_batch, batch_in, places_of, batch_from, left_of, frame_state, frame_entries, frame_nans, Partway}

-- ---- what is left of a batch

module _ (M : Model) (F : Frames) (whole : Batch) (c₀ : List Float) where
  abbrev state : Batch → List Float → List Float
  state bs c = (entries M F bs c).0

  abbrev gained : Batch → List Float → List Entry
  gained bs c = (entries M F bs c).1

  abbrev d : ℕ
  d = M.info.dims.feat_dim

  pub left_all : (z : RunningSums) → z.count ≡ 0 → Partway M F whole c₀ whole c₀ z
  left_all z e = record { so_far = []; sums_are = rw e (sums_none d z.seen.now z.tot.now z.sum.now); state_on = refl; gained_on = refl }

  module _ {rest : Batch} {c : List Float} {z : RunningSums} (p : Partway M F whole c₀ rest c z) where
    pub left_none : rest ≡ [] → (c ≡ state whole c₀) × SumsIn d (gained whole c₀) z
    unfolding entries
    left_none e = (
      ap (λ (b : Batch). state b c) (sym e) ∙ p.state_on,
      sums_on (sym (append-nil p.so_far) ∙ ap (λ (b : Batch). p.so_far ++ gained b c) (sym e) ∙ p.gained_on) p.sums_are,
    )

    pub left_less : {t : ℕ} {w : FrameWeight} {rest' : Batch} {c' : List Float} {z' : RunningSums}
        → rest ≡ (t, w) ∷ rest' → c' ≡ frame_state M F t c
        → ((es : List Entry) → SumsIn d es z → SumsIn d (es ++ frame_entries M F t w c) z')
        → Partway M F whole c₀ rest' c' z'
    unfolding entries
    left_less {t} {w} {rest'} {c'} e h f =
        record {
          so_far = p.so_far ++ frame_entries M F t w c;
          sums_are = f p.so_far p.sums_are;
          state_on = ap (λ (x : List Float). state rest' x) h ∙ ap (λ (b : Batch). state b c) (sym e) ∙ p.state_on;
          gained_on =
              append_assoc p.so_far (frame_entries M F t w c) (gained rest' c')
              ∙ ap (λ (x : List Float). p.so_far ++ (frame_entries M F t w c ++ gained rest' x)) h
              ∙ ap (λ (b : Batch). p.so_far ++ gained b c) (sym e) ∙ p.gained_on;
        }

-- the NaNs so far, n of them, and those of what is left are all of the batch
module _ (M : Model) (F : Frames) (n : ℕ) (rest : Batch) (c : List Float) {whole : ℕ} (h : n + nans_over M F rest c ≡ whole) where
  pub nans_none : rest ≡ [] → n ≡ whole
  unfolding nans_over
  nans_none e = let g : nans_over M F rest c ≡ 0 = rw e in omega (arith, g, h)

  pub nans_less : {t : ℕ} {w : FrameWeight} {rest' : Batch} {c' : List Float} (k : ℕ) → rest ≡ (t, w) ∷ rest' → c' ≡ frame_state M F t c → k ≡ frame_nans M F t w c
      → n + k + nans_over M F rest' c' ≡ whole
  unfolding nans_over
  nans_less {t} {w} {rest'} {c'} k e g u =
      let v : nans_over M F rest c ≡ frame_nans M F t w c + nans_over M F rest' c' = rw (e, g) in
      omega (arith, v, u, h)

-- ---- what stands at a place

-- n - j frames from next + j on: the first, and the others
run-from : (next j n : ℕ) (w : FrameWeight) → j < n → run (next + j) w (n - j) ≡ (next + j, w) ∷ run (next + (j + 1)) w (n - (j + 1))
unfolding build
run-from next j n w h =
    let more : n - j ≡ suc (n - (j + 1)) = omega arith in
    ap (λ (k : ℕ). run (next + j) w k) more
    ∙ ap₂ (λ (t : ℕ) (bs : Batch). (t, w) ∷ bs) (add-zero (next + j)) (build_ext (n - (j + 1)) _ _ (λ i p. ap (λ (t : ℕ). (t, w)) (omega arith)))

run_none : (first n : ℕ) (w : FrameWeight) → n ≡ 0 → run first w n ≡ []
unfolding build
run_none first n w e = ap (λ (k : ℕ). run first w k) e

module _ (o : IvectorOptions) (called : Bool) (next n : ℕ) (fs : List ℕ) (ws : List Float) where
  abbrev from : ℕ → Batch
  from j = batch_from o called next n fs ws j

  -- a frame of those from `next` on
  pub frame_there : (j : ℕ) {v : FrameWeight} → called ≡ false → j < n → v ≡ unweighted o → from j ≡ (next + j, v) ∷ from (j + 1)
  frame_there j h p g = rw (h, g) (run-from next j n (unweighted o) p)

  -- none past the last place
  pub none_left : (j : ℕ) → n ≤ j → from j ≡ []
  unfolding merged
  none_left j l =
      by-test called
      (λ h. rw h (ap (changes_batch o) (drop_of_length-le (waiting_in n fs ws) {i = j} (omega (arith, length_waiting n fs ws)))))
      (λ h. rw h (run_none (next + j) (n - j) (unweighted o) (omega arith)))

-- ---- a batch of k places, k being how many it has

module _ (o : IvectorOptions) (x : Intake) {k : ℕ} (e : k ≡ places_of x) where
  -- from its first place on it is the whole batch
  pub whole_batch : left_of o x k 0 ≡ batch_in o x
  whole_batch =
      ap (λ (k : ℕ). left_of o x k 0) e
      ∙ by-test x.called (λ h. rw h) (λ h. rw h (ap₂ (λ (i k : ℕ). run i (unweighted o) k) (add-zero x.next) (omega arith)))

  pub no_batch : k ≡ 0 → batch_in o x ≡ []
  no_batch h = sym whole_batch ∙ none_left o x.called x.next k x.waiting.frames.now x.waiting.weights.now 0 (omega arith)

-- where none is taken from `next` on, it is the same batch with none named
pub none_named : (o : IvectorOptions) (x : Intake) → (x.called ≡ false → x.end ≤ x.next)
    → batch_in o (record { accepted = x.accepted; called = x.called; next = 0; end = 0; changes = x.changes; waiting = x.waiting }) ≡ batch_in o x
none_named o x none =
    by-test x.called (λ h. rw h)
    (λ h. rw h (run_none 0 0 (unweighted o) (omega arith) ∙ sym (run_none x.next (x.end - x.next) (unweighted o) (omega (arith, none h)))))

-- ---- the logarithm of a frame's floor, by its kind
pub weighed_log : {w : FrameWeight} {ln own scale : Float} → w ≡ Weighed own scale → ln ≡ ln_narrow own → Logged w ln
weighed_log {own = own} e h floor scale f = let same : own ≡ floor = cc in h ∙ ap ln_narrow same

-- without weights it is that of `min_post`
pub plain_log : (o : IvectorOptions) {w : FrameWeight} {ln : Float} → w ≡ unweighted o → ln ≡ ln_narrow o.min_post → Logged w ln
unfolding unweighted
plain_log o e h = weighed_log e h
