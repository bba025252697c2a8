-- ivector_batch: words of inner contracts. `batch_of` is the batch of a fetch.
use Rattle.std.specs.Prelude.{ℕ, ◌+◌, ◌-◌, ◌*◌, ◌<◌, ◌≤◌, ◌≡◌, Bool, true, false, List, ◌++◌, map, length, get_or, drop, Float, if◌then◌else◌}
use Rattle.definition.specs.declared.IvectorInfo.{IvectorInfo}
use Rattle.definition.specs.declared.IvectorOptions.{IvectorOptions}
use Rattle.definition.specs.declared.FrameWeight.{FrameWeight}
use Rattle.definition.specs.Options.{width}
use Rattle.definition.specs.Model.{Tables, Model}
use Rattle.definition.specs.Views.{Frames, raw_row, normalised_row, lda_frame}
use Rattle.definition.specs.Posteriors.{loglikes, posteriors, nans_of, weighed, unweighted}
use Rattle.definition.specs.Statistics.{Entry}
use Rattle.definition.specs.Changes.{Change, merged, Batch}
use Rattle.definition.specs.Estimate.{entries, heard}
use Rattle.loops.specs.Lists.{build}
use Rattle.program.specs.Rooms.{waiting_in}
use Rattle.gmm.specs.declared.batch_sums.RunningSums.{RunningSums}
use Rattle.gmm.specs.Batch.{entry_of}
use Rattle.gmm.specs.Inner.BatchSumsRooms.{SumsIn}
use Rattle.stream.specs.declared.ivector_batch.intake.Intake.{Intake}

-- ---- the batch

-- n frames from `first` on, each of the same weight
abbrev pub run : ℕ → FrameWeight → ℕ → Batch
run first w n = build n (λ j. (first + j, w))

-- the frames of waiting changes, each weighed by the sum of its own
abbrev pub changes_batch : IvectorOptions → List Change → Batch
changes_batch o cs = map (λ d. (d.0, weighed o d.1)) (merged cs)

-- what a fetch of f brings in, cs being the changes up to f
abbrev pub batch_of : IvectorOptions → Bool → ℕ → ℕ → List Change → Batch
batch_of o called next f cs = if called then changes_batch o cs else run next (unweighted o) (f + 1 - next)

-- the batch place by place: a place for each frame, or for each of n waiting changes
abbrev pub batch_length : Bool → ℕ → ℕ → ℕ → ℕ
batch_length called next end n = if called then n else end - next

-- the frame at place j
abbrev pub frame_at : Bool → ℕ → List ℕ → ℕ → ℕ
frame_at called next fs j = if called then get_or fs j 0 else next + j

-- what a batch of n places has from place j on
abbrev pub batch_from : IvectorOptions → Bool → ℕ → ℕ → List ℕ → List Float → ℕ → Batch
batch_from o called next n fs ws j = if called then changes_batch o (drop j (waiting_in n fs ws)) else run (next + j) (unweighted o) (n - j)

-- the same of what a fetch brings in
abbrev pub places_of : Intake → ℕ
places_of x = batch_length x.called x.next x.end x.changes

abbrev pub frame_in : Intake → ℕ → ℕ
frame_in x = frame_at x.called x.next x.waiting.frames.now

abbrev pub left_of : IvectorOptions → Intake → ℕ → ℕ → Batch
left_of o x n = batch_from o x.called x.next n x.waiting.frames.now x.waiting.weights.now

-- n changes wait, where the batch is theirs
abbrev pub Lined : ℕ → Intake → Type 0
Lined n x = x.called ≡ true → (n ≤ length x.waiting.frames.now) × (n ≤ length x.waiting.weights.now)

-- all of it: with f + 1 for the place behind its last frame it is `batch_of` f
abbrev pub batch_in : IvectorOptions → Intake → Batch
batch_in o x =
    if x.called then changes_batch o (waiting_in x.changes x.waiting.frames.now x.waiting.weights.now)
    else run x.next (unweighted o) (x.end - x.next)

-- frames that are there, perhaps none, in a batch that is not too long; of the waiting changes nothing is asked before a change call
pub record Held (o : IvectorOptions) (x : Intake) : Type 0 where
  pub in_order : x.next ≤ x.end
  pub there : x.end ≤ x.accepted
  pub few : x.accepted ≤ 1000000000
  pub frames_wait : x.called ≡ true → x.changes ≤ length x.waiting.frames.now
  pub weights_wait : x.called ≡ true → x.changes ≤ length x.waiting.weights.now
  pub in_reach : x.called ≡ true → (k : ℕ) → k < x.changes → get_or x.waiting.frames.now k 0 < x.accepted
  pub short : length (batch_in o x) ≤ 1000000000

-- less, which is enough for the same batch (`Intake::taken`): of the frames from `next` on nothing is asked after a change call, and where none is taken not
-- that they are there
pub record HeldWhereTaken (o : IvectorOptions) (x : Intake) : Type 0 where
  pub in_order : x.called ≡ false → x.next ≤ x.end
  pub there : x.called ≡ false → x.next < x.end → x.end ≤ x.accepted
  pub few : x.accepted ≤ 1000000000
  pub frames_wait : x.called ≡ true → x.changes ≤ length x.waiting.frames.now
  pub weights_wait : x.called ≡ true → x.changes ≤ length x.waiting.weights.now
  pub in_reach : x.called ≡ true → (k : ℕ) → k < x.changes → get_or x.waiting.frames.now k 0 < x.accepted
  pub short : length (batch_in o x) ≤ 1000000000

-- ---- a frame

module _ (M : Model) (F : Frames) where
  open M.info use {opts, dims}
  open M.tables use {gconsts, means_invvars_t, inv_vars_t, lda_t, lda_offset, global_mean_stats}

  -- the CMVN state after frame t, from the state c; the entries of the frame, of weight w, and its NaNs
  abbrev pub frame_state : ℕ → List Float → List Float
  frame_state t c = (normalised_row opts dims.base_dim global_mean_stats F t c).0

  abbrev pub frame_entries : ℕ → FrameWeight → List Float → List Entry
  frame_entries t w c =
      let d = dims.feat_dim in
      let row = (normalised_row opts dims.base_dim global_mean_stats F t c).1 in
      let ls = loglikes dims.num_gauss d gconsts means_invvars_t inv_vars_t (lda_frame d lda_t lda_offset row) in
      map (entry_of (lda_frame d lda_t lda_offset (raw_row opts dims.base_dim F t))) (posteriors opts.num_gselect w ls)

  abbrev pub frame_nans : ℕ → FrameWeight → List Float → ℕ
  frame_nans t w c = nans_of w (heard M F t c).1

-- what the record and those tables have to meet
pub record Ready (i : IvectorInfo) (t : Tables) : Type 0 where
  pub left_in : i.opts.left_context ≤ 8
  pub right_in : i.opts.right_context ≤ 8
  pub select_in : i.opts.num_gselect ≤ 32
  pub base_in : i.dims.base_dim ≤ 64
  pub feat_in : i.dims.feat_dim ≤ 64
  pub gauss_in : i.dims.num_gauss ≤ 1024
  pub gconsts_fit : i.dims.num_gauss ≤ length t.gconsts
  pub means_fit : i.dims.num_gauss * i.dims.feat_dim ≤ length t.means_invvars_t
  pub invs_fit : i.dims.num_gauss * i.dims.feat_dim ≤ length t.inv_vars_t
  pub lda_fits : i.dims.base_dim * width i.opts * i.dims.feat_dim ≤ length t.lda_t
  pub offset_fits : i.dims.feat_dim ≤ length t.lda_offset
  pub some_base : 0 < i.dims.base_dim
  pub global_fits : i.dims.base_dim + 1 ≤ length t.global_mean_stats

-- a batch partway: what is left of it, and the rooms, which hold the sums of what went before
pub record Partway (M : Model) (F : Frames) (whole : Batch) (c₀ : List Float) (rest : Batch) (c : List Float) (z : RunningSums) : Type 0 where
  pub so_far : List Entry
  pub sums_are : SumsIn M.info.dims.feat_dim so_far z
  pub state_on : (entries M F rest c).0 ≡ (entries M F whole c₀).0
  pub gained_on : so_far ++ (entries M F rest c).1 ≡ (entries M F whole c₀).1
