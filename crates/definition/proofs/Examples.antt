-- P1 to P12 of the scope's "Examples": what the definitions say of them, computed. `P1-to-P12` gathers them. Then examples of requests 4, 5, 8 and 12.
use Rattle.std.specs.Prelude.{Ok}
use mathlib.Core.Path.{◌≡◌, refl}
use Prim.Native.Nat.{ℕ, ◌*◌}
use mathlib.Core.Bool.{true, false}
use mathlib.Core.List.{List, [], ◌∷◌, ◌++◌}
use lib.ListN.{replicate}
use lib.Ieee.{Float, Format, binary32, binary64, nan, inf, neg}
use Rattle.loops.specs.Lists.{flat}
use Rattle.floats.specs.Operators.{f32, f64, as_f64, zero₃₂, zero₆₄, one₃₂, ◌+₆₄◌}
use Rattle.floats.specs.Narrow.{narrowed}
use Rattle.floats.specs.Ln.{ln_of}
use Rattle.floats.specs.Exp.{exp_of}
use Rattle.definition.specs.declared.IvectorOptions.{IvectorOptions}
use Rattle.definition.specs.declared.TableLengths.{TableLengths}
use Rattle.definition.specs.declared.RoomLengths.{RoomLengths}
use Rattle.definition.specs.declared.StreamAnswer.{StreamAnswer}
use Rattle.definition.specs.declared.SilenceWeighting.{SilenceWeighting}
use Rattle.definition.specs.declared.SilenceAnswer.{SilenceAnswer}
use Rattle.floats.specs.Real.{by_width, byte_width}
use Rattle.definition.specs.Reader.{read, refused, text, floats}
use Rattle.definition.specs.Kaldi.{vector_tag, matrix_tag, packed_tag, block_width, skipped}
use Rattle.definition.specs.Text.{number}
use Rattle.definition.specs.Model.{tables_from, Model, Files, load}
use Rattle.definition.specs.Views.{cmvn_state, cmvn_frame, normalised_row}
use Rattle.definition.specs.Posteriors.{nan_count, min_post_for}
use Rattle.definition.specs.Statistics.{new_stats}
use Rattle.definition.specs.Solve.{linear_cgd}
use Rattle.definition.specs.Machine.{Call, push, change, forget, set_window, fetch, Answer, Machine, machine, all_frames, fresh, told_by, machine_after, answers_from, answers}
use Rattle.definition.specs.Silence.{input, decoder, TableRooms, table_rooms, new_table, get_delta_weights, TableCall, table_done}
use Rattle.definition.proofs.Computed.{computed}

-- ---- options and models

-- the Rust's default options but for the contexts, the scale and the iterations
abbrev pub opts : ℕ → ℕ → Float → ℕ → IvectorOptions
opts left right scale iters =
    record {
      left_context = left;
      right_context = right;
      cmn_window = 600;
      global_frames = 200;
      num_gselect = 5;
      num_cg_iters = iters;
      min_post = f32 0x3ccc_cccd;
      posterior_scale = scale;
      max_count = f64 0x4059_0000_0000_0000;
      min_energy = f32 0x4248_0000;
    }

abbrev defaults : IvectorOptions
defaults = opts 3 3 (f32 0x3dcc_cccd) 15

abbrev quarter : Float
quarter = f32 0x3e80_0000

-- a length, and 1 and 2, as the files have them
abbrev len : ℕ → List ℕ
len n = 4 ∷ n ∷ 0 ∷ 0 ∷ 0 ∷ []

abbrev one : List ℕ
one = 0 ∷ 0 ∷ 128 ∷ 63 ∷ []

abbrev wide_one : List ℕ
wide_one = 0 ∷ 0 ∷ 0 ∷ 0 ∷ 0 ∷ 0 ∷ 240 ∷ 63 ∷ []

abbrev two : List ℕ
two = 0 ∷ 0 ∷ 0 ∷ 64 ∷ []

abbrev pub wide_two : List ℕ
wide_two = 0 ∷ 0 ∷ 0 ∷ 0 ∷ 0 ∷ 0 ∷ 0 ∷ 64 ∷ []

abbrev pub wide_zero : List ℕ
wide_zero = replicate 8 0

-- P9's files: a weight, an M, and an LDA of n columns, the GMM and the LDA at width v, the extractor at width w
abbrev files_at : Format → Format → ℕ → List ℕ → List ℕ → Files
files_at v w n weight m =
    let unit : Format → List ℕ = by_width one wide_one in
    let gap = text " " in
    record {
      gmm = (0 ∷ 66 ∷ []) ++ text "<DiagGMM> <WEIGHTS> " ++ vector_tag v ++ gap ++ len 1 ++ weight
          ++ text "<MEANS_INVVARS> " ++ matrix_tag v ++ gap ++ len 1 ++ len 1 ++ unit v
          ++ text "<INV_VARS> " ++ matrix_tag v ++ gap ++ len 1 ++ len 1 ++ unit v;
      extractor = (0 ∷ 66 ∷ []) ++ text "<IvectorExtractor> <w> " ++ matrix_tag w ++ gap ++ len 0 ++ len 0
          ++ text "<w_vec> " ++ vector_tag w ++ gap ++ len 0 ++ text "<M> " ++ len 1 ++ matrix_tag w ++ gap ++ len 1 ++ len 1 ++ m
          ++ text "<SigmaInv> " ++ packed_tag w ++ gap ++ len 1 ++ unit w ++ text "<IvectorOffset> " ++ (byte_width w ∷ []) ++ unit w
          ++ text "</IvectorExtractor> ";
      lda = (0 ∷ 66 ∷ []) ++ matrix_tag v ++ gap ++ len 1 ++ len n ++ flat n (λ i. unit v);
      cmvn = text " [ 50 100" ++ (10 ∷ []) ++ text "1 0 ]" ++ (10 ∷ []);
    }

-- with the weight 1, at the widths that the Rust reads
abbrev files_of : ℕ → List ℕ → Files
files_of n m = files_at binary32 binary64 n one m

abbrev pub files : List ℕ → Files
files = files_of 1

abbrev tables_of : ℕ → TableLengths
tables_of n =
    record {
      gconsts = 1;
      means_invvars_t = 1;
      inv_vars_t = 1;
      sigma_inv_m = 1;
      u = 1;
      lda_t = n;
      lda_offset = 1;
      global_mean_stats = 2;
    }

abbrev pub tables : TableLengths
tables = tables_of 1

-- their model, as a load gives it: gconst is ln 1 - 0.5 ln (2 pi) + 0.5 ln 1 - 0.5, as an f32
abbrev model_of : ℕ → IvectorOptions → ℕ → Model
model_of n o m =
    record {
      info = record {
        opts = o;
        dims = record { num_gauss = 1; ext_gauss = 1; feat_dim = 1; ivector_dim = 1; base_dim = 1; lda_cols = n };
        prior_offset = as_f64 1;
        tables = tables_of n;
      };
      tables = tables_from (f32 0xbfb5_9fc7 ∷ []) (one₃₂ ∷ []) (one₃₂ ∷ []) (as_f64 m ∷ []) (as_f64 (m * m) ∷ []) (replicate n one₃₂) (zero₃₂ ∷ [])
          (as_f64 50 ∷ as_f64 100 ∷ []);
    }

abbrev pub model : IvectorOptions → ℕ → Model
model = model_of 1

abbrev pub single : ℕ → IvectorOptions
single iters = opts 0 0 quarter iters

abbrev lengths : RoomLengths
lengths =
    record {
      rings = record { frames = 100; rows = 1000; waiting_frames = 64; waiting_weights = 64 };
      estimate = record { cmvn_stats = 2; linear = 1; quadratic = 1; current = 1; scratch = 1 };
    }

-- an answer's numbers; the last is the count of likelihoods that were NaN
abbrev told : ℕ → ℕ → ℕ → ℕ → ℕ → StreamAnswer
told r f n c m = record { refusal = r; frames_held = f; rows_held = n; not_finite = c; nan_likelihoods = m }

abbrev said_with : ℕ → ℕ → ℕ → List ℕ → ℕ → ℕ → Answer
said_with r f n v c m = record { told = told r f n c m; vector = v }

abbrev pub said : ℕ → ℕ → ℕ → List ℕ → ℕ → Answer
said r f n v c = said_with r f n v c 0

abbrev pair : Float → Float → List Float
pair a b = a ∷ b ∷ []

-- P7's global row, one frame x in, from a fresh CMVN state
abbrev state : ℕ → List Float
state x = cmvn_state (single 15) 1 (pair (as_f64 50) (as_f64 100)) (all_frames ((as_f64 x ∷ []) ∷ [])) 0 (pair zero₆₄ zero₆₄)

abbrev four : List Call
four = push (as_f64 4 ∷ []) ∷ fetch 0 1 ∷ []

-- P11's options, model and stream
abbrev late : IvectorOptions
late = opts 3 0 quarter 15

abbrev late-model : Model
late-model = model_of 4 late 2

abbrev twelve : Machine
twelve =
    machine (replicate 12 (as_f64 4 ∷ [])) 8 (record { waiting = (7, as_f64 1) ∷ (9, as_f64 1) ∷ []; past_highest = 10; called = true }) false
    (record { cmvn = pair zero₆₄ zero₆₄; stats = new_stats 1 (as_f64 1); current = as_f64 1 ∷ [] }) 0 0 600 600

-- one change of frame f
abbrev changes-at : ℕ → Call
changes-at f = change (f ∷ []) (as_f64 1 ∷ [])

-- P12's table, of n frames, its rooms, and a call with 4 inputs ready: the answer's lists have 6 places
abbrev silence : ℕ → SilenceWeighting
silence n = record { silence_weight = quarter; subsampling = 3; phones = 1; table = 100; length = decoder n }

abbrev empty : TableRooms
empty = table_rooms (replicate 100 false) (replicate 100 false) (replicate 100 zero₃₂)

abbrev asks : SilenceWeighting → TableRooms → TableCall
asks s z = table_done s z (replicate 6 0) (replicate 6 one₃₂) (get_delta_weights s z (input 4) (input 0) 6 6)

abbrev first : TableCall
first = asks (silence 0) empty

abbrev second : TableCall
second = asks first.answer.silence first.rooms

abbrev changes : ℕ → SilenceAnswer
changes n = record { refusal = 0; changes = n; silence = silence 2 }

-- ---- the examples

pub record Examples : Type 0 where
  pub P1-one : ln_of (as_f64 1) ≡ zero₆₄
  pub P1-two : ln_of (as_f64 2) ≡ f64 0x3fe6_2e42_fefa_39ef
  pub P2-zero : exp_of zero₃₂ ≡ one₃₂
  pub P2-minus-zero : exp_of (neg zero₃₂) ≡ one₃₂
  pub P3-taken : number binary64 (text "9007199254740991") 0 ≡ read (as_f64 9007199254740991) 16
  pub P3-refused : number binary64 (text "9007199254740992") 0 ≡ refused 7
  pub P4-taken : number binary64 (text "1e22") 0 ≡ read (f64 0x4480_f0cf_064d_d592) 4
  pub P4-refused : number binary64 (text "1e23") 0 ≡ refused 7
  pub P5 : narrowed (as_f64 1 +₆₄ f64 0x3e70_0000_0000_0000) ≡ one₃₂
  pub P6-zero : min_post_for defaults zero₃₂ ≡ f32 0x3f7d_70a4
  pub P6-small : min_post_for defaults (f32 0x3c23_d70a) ≡ f32 0x3f7d_70a4
  pub P6-one : min_post_for defaults one₃₂ ≡ f32 0x3ccc_cccd
  pub P7-state : state 8 ≡ pair (as_f64 100) (as_f64 200)
  pub P7-view : cmvn_frame 1 (all_frames ((as_f64 8 ∷ []) ∷ [])) 0 (state 8) ≡ f32 0x40f0_0000 ∷ []
  -- again: the row of left context 1 fetches the frame twice
  pub P7-again : normalised_row (opts 1 0 quarter 15) 1 (pair (as_f64 50) (as_f64 100)) (all_frames ((as_f64 8 ∷ []) ∷ [])) 0 (pair zero₆₄ zero₆₄)
      ≡ (pair (as_f64 200) (as_f64 400), pair (f32 0x40f0_0000) (f32 0x40f0_0000))
  pub P8-loud : state 60 ≡ pair (as_f64 160) (as_f64 201)
  pub P8-quiet : state 50 ≡ pair (as_f64 100) (as_f64 200)
  pub P9-load : load (single 15) (files wide_two) tables 2 ≡ read (model (single 15) 2) 0
  pub P9-fresh : told_by (model (single 15) 2) 0 (fresh (model (single 15) 2)) 0 0 ≡ told 0 0 1 0 0
  pub P9-half : answers (model (single 15) 2) lengths.rings four ≡ said 0 1 2 [] 0 ∷ said 0 1 2 (0x3f00_0000 ∷ []) 0 ∷ []
  pub P9-none : answers (model (single 0) 2) lengths.rings four ≡ said 0 1 2 [] 0 ∷ said 0 1 2 (0 ∷ []) 0 ∷ []
  pub P10-load : load (single 15) (files wide_zero) tables 2 ≡ read (model (single 15) 0) 0
  pub P10 : answers (model (single 15) 0) lengths.rings four ≡ said 0 1 2 [] 0 ∷ said 0 1 2 (0 ∷ []) 0 ∷ []
  -- whatever the start is, up to a residual of 2^-511 (request 9); the next number above it steps
  pub P10-start : linear_cgd (as_f64 1 ∷ []) 1 (as_f64 2 ∷ []) (as_f64 2 ∷ []) 15 ≡ as_f64 2 ∷ []
  pub P10-at : linear_cgd (as_f64 1 ∷ []) 1 (f64 0x2000_0000_0000_0000 ∷ []) (zero₆₄ ∷ []) 15 ≡ zero₆₄ ∷ []
  pub P10-above : linear_cgd (as_f64 1 ∷ []) 1 (f64 0x2000_0000_0000_0001 ∷ []) (zero₆₄ ∷ []) 15 ≡ f64 0x2000_0000_0000_0001 ∷ []
  pub P11-load : load late (files_of 4 wide_two) (tables_of 4) 2 ≡ read late-model 0
  pub P11-mark : (machine_after late-model lengths.rings twelve (forget 10 ∷ [])).mark ≡ 4
  -- both changes are below the frame named (request 8)
  pub P11 : answers_from late-model lengths.rings twelve (forget 10 ∷ changes-at 6 ∷ changes-at 7 ∷ [])
      ≡ said 0 8 13 [] 0 ∷ said 30 8 13 [] 0 ∷ said 30 8 13 [] 0 ∷ []
  pub P12-new : new_table 1 quarter 3 100 ≡ Ok (silence 0)
  pub P12 : first.answer ≡ changes 6
  pub P12-frames : first.frames ≡ 0 ∷ 1 ∷ 2 ∷ 3 ∷ 4 ∷ 5 ∷ []
  pub P12-weights : first.weights ≡ replicate 6 quarter
  pub P12-again : second.answer ≡ changes 3
  pub P12-again-frames : second.frames ≡ 3 ∷ 4 ∷ 5 ∷ 0 ∷ 0 ∷ 0 ∷ []
  pub P12-again-weights : second.weights ≡ replicate 3 zero₃₂ ++ replicate 3 one₃₂

pub P1-to-P12 : Examples
unfolding computed
P1-to-P12 =
    record {
      P1-one = refl;
      P1-two = refl;
      P2-zero = refl;
      P2-minus-zero = refl;
      P3-taken = refl;
      P3-refused = refl;
      P4-taken = refl;
      P4-refused = refl;
      P5 = refl;
      P6-zero = refl;
      P6-small = refl;
      P6-one = refl;
      P7-state = refl;
      P7-view = refl;
      P7-again = refl;
      P8-loud = refl;
      P8-quiet = refl;
      P9-load = refl;
      P9-fresh = refl;
      P9-half = refl;
      P9-none = refl;
      P10-load = refl;
      P10 = refl;
      P10-start = refl;
      P10-at = refl;
      P10-above = refl;
      P11-load = refl;
      P11-mark = refl;
      P11 = refl;
      P12-new = refl;
      P12 = refl;
      P12-frames = refl;
      P12-weights = refl;
      P12-again = refl;
      P12-again-frames = refl;
      P12-again-weights = refl;
    }

-- ---- request 4

-- a frame so loud that the four of P11's splice sum to an infinite feature: its log-likelihood is NaN
abbrev loud : Call
loud = push (f32 0x7f61_b1e6 ∷ [])

-- the prior, taken off itself
abbrev plain : List ℕ
plain = 0 ∷ []

pub record Counted : Type 0 where
  -- infinities are numbers
  pub R4-inputs : nan_count (nan ∷ inf true ∷ one₃₂ ∷ inf false ∷ nan ∷ []) ≡ 2
  -- a fetch counts those of its own batch: two frames, then none at all, then one
  pub R4-fetches : answers late-model lengths.rings (loud ∷ loud ∷ fetch 1 1 ∷ fetch 1 1 ∷ loud ∷ fetch 2 1 ∷ [])
      ≡ said 0 1 2 [] 0 ∷ said 0 2 3 [] 0 ∷ said_with 0 2 3 plain 0 2 ∷ said 0 2 3 plain 0 ∷ said 0 3 4 [] 0 ∷ said_with 0 3 4 plain 0 1 ∷ []
  -- a skipped frame counts nothing; nor does a change to a frame that is in the statistics until a later fetch brings it in
  pub R4-changes : answers late-model lengths.rings (loud ∷ change (0 ∷ []) (zero₃₂ ∷ []) ∷ fetch 0 1 ∷ change (0 ∷ []) (one₃₂ ∷ []) ∷ fetch 0 1 ∷ [])
      ≡ said 0 1 2 [] 0 ∷ said 0 1 2 [] 0 ∷ said 0 1 2 plain 0 ∷ said 0 1 2 [] 0 ∷ said 0 1 2 plain 0 ∷ []

pub request-4 : Counted
unfolding computed
request-4 = record { R4-inputs = refl; R4-fetches = refl; R4-changes = refl }

-- ---- request 8

pub record Floored : Type 0 where
  -- the floor is the frame named, not where next stands; a change at it is taken
  pub R8-named : answers_from late-model lengths.rings twelve (forget 10 ∷ changes-at 9 ∷ changes-at 10 ∷ []) ≡ said 0 8 13 [] 0 ∷ said 30 8 13 [] 0 ∷ said 0 8 13 [] 0 ∷ []
  -- a lower forget leaves it; an empty change is taken, whatever the floor is
  pub R8-highest : answers_from late-model lengths.rings twelve (forget 10 ∷ forget 2 ∷ changes-at 9 ∷ change [] [] ∷ [])
      ≡ said 0 8 13 [] 0 ∷ said 0 8 13 [] 0 ∷ said 30 8 13 [] 0 ∷ said 0 8 13 [] 0 ∷ []
  -- 17 comes before it, whichever entry it is of
  pub R8-order : answers_from late-model lengths.rings twelve (forget 10 ∷ change (6 ∷ 1000000000 ∷ []) (as_f64 1 ∷ as_f64 1 ∷ []) ∷ []) ≡ said 0 8 13 [] 0 ∷ said 17 8 13 [] 0 ∷ []

pub request-8 : Floored
unfolding computed
request-8 = record { R8-named = refl; R8-highest = refl; R8-order = refl }

-- ---- request 5

-- f64 around the least f32 above 0, and around the infinite one: 2^-150, which is half the least, and the next one above it; half a place above
-- the largest f32, and the one before it
abbrev least-half : List ℕ
least-half = replicate 6 0 ++ (144 ∷ 54 ∷ [])

abbrev least-over-half : List ℕ
least-over-half = (1 ∷ replicate 5 0) ++ (144 ∷ 54 ∷ [])

abbrev over_largest : List ℕ
over_largest = replicate 3 0 ++ (240 ∷ 255 ∷ 255 ∷ 239 ∷ 71 ∷ [])

abbrev near_largest : List ℕ
near_largest = replicate 3 255 ++ (239 ∷ 255 ∷ 255 ∷ 239 ∷ 71 ∷ [])

pub record EitherWidth : Type 0 where
  -- the other width at every block, and each width throughout: the same model
  pub R5-other : load (single 15) (files_at binary64 binary32 1 wide_one two) tables 2 ≡ read (model (single 15) 2) 0
  pub R5-singles : load (single 15) (files_at binary32 binary32 1 one two) tables 2 ≡ read (model (single 15) 2) 0
  pub R5-doubles : load (single 15) (files_at binary64 binary64 1 wide_one wide_two) tables 2 ≡ read (model (single 15) 2) 0
  -- a weight is judged as it is kept: one that narrows to 0 is refused
  pub R5-weight : load (single 15) (files_at binary64 binary64 1 least-half wide_two) tables 2 ≡ refused 6
  pub R5-least : floats binary32 binary64 true 1 least-over-half 0 ≡ read (f32 1 ∷ []) 8
  pub R5-over : floats binary32 binary64 false 1 over_largest 0 ≡ refused 6
  pub R5-near : floats binary32 binary64 false 1 near_largest 0 ≡ read (f32 0x7f7f_ffff ∷ []) 8
  -- for a table of f64 it is kept as it is
  pub R5-wide : floats binary64 binary64 false 1 over_largest 0 ≡ read (f64 0x47ef_ffff_f000_0000 ∷ []) 8
  -- a tag of another kind, and a skipped block whose entries are eight bytes each
  pub R5-kind : block_width vector_tag (text "DM ") 0 ≡ refused 3
  pub R5-skipped : skipped (text "DV " ++ len 2 ++ replicate 16 0) 0 ≡ read tt 24
  pub R5-skipped-short : skipped (text "DV " ++ len 2 ++ replicate 15 0) 0 ≡ refused 2

pub request-5 : EitherWidth
unfolding computed
request-5 =
    record {
      R5-other = refl;
      R5-singles = refl;
      R5-doubles = refl;
      R5-weight = refl;
      R5-least = refl;
      R5-over = refl;
      R5-near = refl;
      R5-wide = refl;
      R5-kind = refl;
      R5-skipped = refl;
      R5-skipped-short = refl;
    }

-- ---- request 12

-- twelve frames in, next 12, no context, windows of w in force and of l as the longest, the mark at m
abbrev after-12 : ℕ → ℕ → ℕ → Machine
after-12 m w l =
    machine (replicate 12 (as_f64 4 ∷ [])) 12 (record { waiting = []; past_highest = 0; called = false }) false
    (record { cmvn = pair zero₆₄ zero₆₄; stats = new_stats 1 (as_f64 1); current = as_f64 1 ∷ [] }) m m w l

-- a loud frame, c0 60 (P8), after a quiet one
abbrev quiet_then_loud : List Call
quiet_then_loud = push (as_f64 4 ∷ []) ∷ push (as_f64 60 ∷ []) ∷ []

abbrev P9-model : Model
P9-model = model (single 15) 2

pub record Windowed : Type 0 where
  -- rows are kept for the longest window, whatever is in force, until the mark rises: then for the one in force
  pub R12-kept : answers_from P9-model lengths.rings (after-12 5 4 4) (set_window 2 ∷ forget 5 ∷ forget 6 ∷ [])
      ≡ said 0 7 11 [] 0 ∷ said 0 7 11 [] 0 ∷ said 0 6 8 [] 0 ∷ []
  -- above the longest only while no row is gone: mark + 1 is at most the longest, or it is 32; up to the longest always
  pub R12-above : answers_from P9-model lengths.rings (after-12 3 2 4) (set_window 4 ∷ set_window 5 ∷ []) ≡ said 0 9 13 [] 0 ∷ said 0 9 13 [] 0 ∷ []
  pub R12-gone : answers_from P9-model lengths.rings (after-12 4 2 4) (set_window 5 ∷ set_window 4 ∷ []) ≡ said 32 8 12 [] 0 ∷ said 0 8 12 [] 0 ∷ []
  -- 31 comes first
  pub R12-range : answers_from P9-model lengths.rings (after-12 4 2 4) (set_window 0 ∷ set_window 1001 ∷ []) ≡ said 31 8 12 [] 0 ∷ said 31 8 12 [] 0 ∷ []
  -- the window in force is that of the CMVN state: one frame of it at a loud fetch, and no smoothing
  pub R12-fetch : (machine_after P9-model lengths.rings (fresh P9-model) (quiet_then_loud ++ (set_window 1 ∷ fetch 1 1 ∷ []))).estimate.cmvn ≡ pair (as_f64 60) (as_f64 1)
  pub R12-before : (machine_after P9-model lengths.rings (fresh P9-model) (quiet_then_loud ++ (fetch 1 1 ∷ set_window 1 ∷ []))).estimate.cmvn ≡ pair (as_f64 164) (as_f64 202)

pub request-12 : Windowed
unfolding computed
request-12 = record { R12-kept = refl; R12-above = refl; R12-gone = refl; R12-range = refl; R12-fetch = refl; R12-before = refl }
