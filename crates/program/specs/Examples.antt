-- Two examples on the program's rooms, as statements: `Tight`, that the rules of Habit.antt are exact, and `Quiet`, that a quiet frame's own view depends on
-- the fetches before it (request 10). The definitions compute both.
use Rattle.std.specs.Prelude.{◌≡◌, ℕ, ◌+◌, ◌*◌, true, List, [], ◌∷◌, map, replicate, Float, Ok}
use Rattle.floats.specs.Operators.{f32, f64, as_f64, zero₃₂, zero₆₄, one₃₂}
use Rattle.definition.specs.declared.IvectorInfo.{IvectorInfo}
use Rattle.definition.specs.Model.{Tables, tables_from, table_lengths_of}
use Rattle.definition.specs.Machine.{Call, push, forget, fetch, bits_of}
use Rattle.program.specs.Rooms.{Rooms, rings_from, estimate_from, rooms_from, room_lengths_of}
use Rattle.program.specs.Calls.{call_of, fresh_stream, new_answer}
use Rattle.program.specs.Played.{Played, ended, played_answers}
use Rattle.program.specs.Loud.{view_in}
use Rattle.program.specs.Habit.{ledger, in_habit}

-- P9's tables, but for the LDA's columns
abbrev pub tables : ℕ → Tables
tables columns = tables_from (f32 0xbfb5_9fc7 ∷ []) (one₃₂ ∷ []) (one₃₂ ∷ []) (as_f64 2 ∷ []) (as_f64 4 ∷ []) (replicate columns one₃₂) (zero₃₂ ∷ []) (as_f64 50 ∷ as_f64 100 ∷ [])

-- P9's model, but for a context of so many frames on either side, and the window
abbrev pub info : (context window : ℕ) → IvectorInfo
info context window =
    record {
      opts = record {
        left_context = context;
        right_context = context;
        cmn_window = window;
        global_frames = 200;
        num_gselect = 5;
        num_cg_iters = 15;
        min_post = f32 0x3ccc_cccd;
        posterior_scale = f32 0x3e80_0000;
        max_count = f64 0x4059_0000_0000_0000;
        min_energy = f32 0x4248_0000;
      };
      dims = record { num_gauss = 1; ext_gauss = 1; feat_dim = 1; ivector_dim = 1; base_dim = 1; lda_cols = 2 * context + 1 };
      prior_offset = as_f64 1;
      tables = table_lengths_of (tables (2 * context + 1));
    }

-- rooms of zeros for F frames and R prefix rows, and one waiting change
abbrev pub rooms : (F R : ℕ) → Rooms
rooms F R = rooms_from (rings_from (replicate F zero₃₂) (replicate R zero₆₄) (0 ∷ []) (zero₃₂ ∷ [])) (estimate_from (replicate 2 zero₆₄) (zero₆₄ ∷ []) (zero₆₄ ∷ []) (zero₆₄ ∷ []))

-- a fresh stream on that model, in those rooms, is not refused
abbrev pub Made : (context window F R : ℕ) → Type 0
Made context window F R =
    new_answer (info context window) (table_lengths_of (tables (2 * context + 1))) (room_lengths_of (rooms F R) 1)
    ≡ Ok (call_of 0 (fresh_stream (info context window) (room_lengths_of (rooms F R) 1)) 0 0)

-- and calls on it
abbrev pub session : (context window F R : ℕ) → Made context window F R → List Call → Played (info context window) (tables (2 * context + 1))
session context window F R e cs =
    record { lent = rooms F R; scratch = 1; made = call_of 0 (fresh_stream (info context window) (room_lengths_of (rooms F R) 1)) 0 0; made_is = e; calls = cs }

-- ---- contexts 1 and 1, window 2, utterances of 2 frames, each begun by a fetch of the last ready frame and a forget

abbrev pub next : Call
next = push (as_f64 60 ∷ [])

-- three utterances, the last ready frame being 0 and 2 where the second and the third begin
abbrev pub utterances : List Call
utterances = next ∷ next ∷ fetch 0 1 ∷ forget 2 ∷ next ∷ next ∷ fetch 2 1 ∷ forget 4 ∷ next ∷ next ∷ []

abbrev pub uttered : (F R : ℕ) → Made 1 2 F R → Played (info 1 2) (tables 3)
uttered F R e = session 1 2 F R e utterances

-- the refusal numbers of the answers
abbrev pub numbers : (F R : ℕ) → Made 1 2 F R → List ℕ
numbers F R e = map (λ a. a.told.refusal) (played_answers (info 1 2) (tables 3) (uttered F R e))

-- With F = 2 + 1 + 1 = 4 and R = 4 + 2 = 6 every call is taken; with a frame less a push is 14, with a row less 15.
pub record Tight : Type 0 where
  pub made : Made 1 2 4 6
  pub made_frame_less : Made 1 2 3 6
  pub made_row_less : Made 1 2 4 5
  -- utterances of 2 frames
  pub habit : in_habit 2 1 (ledger 0 0 0 0) utterances (played_answers (info 1 2) (tables 3) (uttered 4 6 made)) ≡ true
  pub enough : numbers 4 6 made ≡ replicate 10 0
  pub frame_less : numbers 3 6 made_frame_less ≡ 0 ∷ 0 ∷ 0 ∷ 0 ∷ 0 ∷ 14 ∷ 21 ∷ 0 ∷ 14 ∷ 14 ∷ []
  pub row_less : numbers 4 5 made_row_less ≡ 0 ∷ 0 ∷ 0 ∷ 0 ∷ 0 ∷ 0 ∷ 0 ∷ 0 ∷ 0 ∷ 15 ∷ []
  -- the pushes refused 14 are in the habit, too, up to the first of them
  pub habit_less : in_habit 2 1 (ledger 0 0 0 0) utterances (played_answers (info 1 2) (tables 3) (uttered 3 6 made_frame_less)) ≡ true

-- ---- no context, window 600, `min_energy` 50: a frame of c0 60, one of x, and then other calls

abbrev pub seen : Made 0 600 2 3 → Float → List Call → List Float
seen e x cs = view_in (tables 1) (ended (info 0 600) (tables 1) (session 0 600 2 3 e (push (as_f64 60 ∷ []) ∷ push (x ∷ []) ∷ cs))) 1

pub record Quiet : Type 0 where
  pub made : Made 0 600 2 3
  -- of 0.6 the view is -0.048379 where frame 0 was fetched before, 0.10000002 where it was not
  pub fetched : bits_of (seen made (f32 0x3f19_999a) (fetch 0 1 ∷ [])) ≡ 0xbd46_2910 ∷ []
  pub not_fetched : bits_of (seen made (f32 0x3f19_999a) []) ≡ 0x3dcc_ccd0 ∷ []
  pub differs : seen made (f32 0x3f19_999a) (fetch 0 1 ∷ []) ≡ seen made (f32 0x3f19_999a) [] → ⊥
  -- of 51, which is loud, it is 49.955 in both
  pub loud_fetched : bits_of (seen made (as_f64 51) (fetch 0 1 ∷ [])) ≡ 0x4247_d260 ∷ []
  pub loud_not_fetched : bits_of (seen made (as_f64 51) []) ≡ 0x4247_d260 ∷ []
