-- How much memory a model and a stream need: a model's dimensions before any table is lent, the lengths of its tables and of a load's scratch, and the
-- lengths of a stream's rooms; and that no shorter ones will do.
use Rattle.std.specs.Prelude.{◌≡◌, ◌&&◌, List, [], ◌∷◌, ℕ, ◌+◌, ◌*◌, ◌<◌, get_or, if◌then◌else◌}
use Rattle.loops.specs.Ring.{rows_in}
use Rattle.definition.specs.declared.IvectorOptions.{IvectorOptions}
use Rattle.definition.specs.declared.Dimensions.{Dimensions}
use Rattle.definition.specs.declared.TableLengths.{TableLengths}
use Rattle.definition.specs.declared.IvectorInfo.{IvectorInfo}
use Rattle.definition.specs.declared.RoomLengths.{RoomLengths}
use Rattle.definition.specs.Options.{within, options_in_range, dims_in_range, dims_agree, max_frames}
use Rattle.definition.specs.Reader.{Got, read, refused, Parser, ◌>>=◌, ◌>>◌, give, need}
use Rattle.definition.specs.Kaldi.{triangle}
use Rattle.definition.specs.Model.{Files, contents_agree, dims_of, lengths_from, table_sizes, table_lengths, load_scratch, reading, load}
use Rattle.definition.specs.Machine.{waiting_room}
use Rattle.definition.specs.Stream.{stream_scratch, estimate_lengths, estimate_sizes, new_refusal}
use Rattle.model.specs.declared.memory.DimensionsAnswer.{DimensionsAnswer}
use Rattle.model.specs.declared.memory.TablesAnswer.{TablesAnswer}
use Rattle.model.specs.declared.memory.RoomsAnswer.{RoomsAnswer}

-- ---- a model's dimensions

-- those of the model in four files, which are judged as a load judges them: 1 to 7
abbrev pub sizing : IvectorOptions → Files → Parser Dimensions
sizing o f = do
  need (options_in_range o) 1
  c ← reading f
  need (contents_agree o c) 5
  give (dims_of c)

unfoldable pub dimensions_of : IvectorOptions → Files → Got Dimensions
dimensions_of o f = sizing o f [] 0

abbrev pub no_dimensions : Dimensions
no_dimensions = record { num_gauss = 0; ext_gauss = 0; feat_dim = 0; ivector_dim = 0; base_dim = 0; lda_cols = 0 }

unfoldable pub dimensions_answer : Got Dimensions → DimensionsAnswer
dimensions_answer (refused n) = record { refusal = n; dims = no_dimensions }
dimensions_answer (read d i) = record { refusal = 0; dims = d }

-- ---- tables and rooms

abbrev pub tables_answer : ℕ → TableLengths → ℕ → TablesAnswer
tables_answer n z scratch = record { refusal = n; tables = z; scratch = scratch }

abbrev pub no_tables : ℕ → TablesAnswer
no_tables n = tables_answer n (lengths_from 0 0 0 0 0 0 0 0) 0

-- for options and dimensions that a load can take
unfoldable pub tables_needed : IvectorOptions → Dimensions → TablesAnswer
tables_needed o d =
    if options_in_range o
    then (if dims_in_range d then (if dims_agree o d then tables_answer 0 (table_sizes o d) (load_scratch d) else no_tables 5) else no_tables 4)
    else no_tables 1

-- in their order, the two lists of waiting changes equally long
abbrev pub rooms_from : ℕ → ℕ → ℕ → ℕ → ℕ → ℕ → ℕ → ℕ → RoomLengths
rooms_from frames rows changes cmvn linear quadratic current scratch =
    record {
      rings = record { frames = frames; rows = rows; waiting_frames = changes; waiting_weights = changes };
      estimate = record { cmvn_stats = cmvn; linear = linear; quadratic = quadratic; current = current; scratch = scratch };
    }

-- for f frames, r prefix rows and w waiting changes
abbrev pub room_sizes : Dimensions → ℕ → ℕ → ℕ → RoomLengths
room_sizes d f r w =
    let b = d.base_dim in
    let s = d.ivector_dim in
    rooms_from (f * b) (r * b) w (b + 1) s (triangle s) s (stream_scratch d)

abbrev pub rooms_answer : ℕ → RoomLengths → RoomsAnswer
rooms_answer n z = record { refusal = n; lengths = z }

abbrev pub no_rooms : ℕ → RoomsAnswer
no_rooms n = rooms_answer n (rooms_from 0 0 0 0 0 0 0 0)

-- a stream takes 1,000,000,000 frames at most, and a fresh one holds a row
unfoldable pub rooms_needed : Dimensions → ℕ → ℕ → ℕ → RoomsAnswer
rooms_needed d f r w =
    if dims_in_range d then (if within 1 max_frames f && within 2 2000000000 r then rooms_answer 0 (room_sizes d f r w) else no_rooms 8) else no_rooms 4

-- ---- what is shown of them

abbrev pub refusal_of : {A : Type 0} → Got A → ℕ
refusal_of (refused n) = n
refusal_of (read a i) = 0

-- lent tables and scratch of a load, as a list of lengths
abbrev pub lent : TableLengths → ℕ → List ℕ
lent z n = n ∷ table_lengths z

-- a load of files with dimensions d is taken with exactly these lengths, and refused 8 with any of them shorter
pub record TablesExact (o : IvectorOptions) (f : Files) (d : Dimensions) : Type 0 where
  pub enough : refusal_of (load o f (table_sizes o d) (load_scratch d)) ≡ 0
  pub least : (z : TableLengths) (n k : ℕ) → get_or (lent z n) k 0 < get_or (lent (table_sizes o d) (load_scratch d)) k 0 → refusal_of (load o f z n) ≡ 8

-- a fresh stream on a model's record i is taken in exactly these rooms, which hold f frames, r rows and w changes; it is refused 8 where one of a fetch's
-- rooms is shorter, and a shorter ring holds fewer
pub record RoomsExact (i : IvectorInfo) (f r w : ℕ) : Type 0 where
  pub enough : new_refusal i i.tables (room_sizes i.dims f r w) ≡ 0
  pub frames_held_is : rows_in (f * i.dims.base_dim) i.dims.base_dim ≡ f
  pub rows_held_is : rows_in (r * i.dims.base_dim) i.dims.base_dim ≡ r
  pub changes_held : waiting_room (room_sizes i.dims f r w).rings ≡ w
  pub least : (z : RoomLengths) (k : ℕ) → get_or (estimate_lengths z.estimate) k 0 < get_or (estimate_sizes i.dims) k 0 → new_refusal i i.tables z ≡ 8
  pub fewer : (n m : ℕ) → n < m * i.dims.base_dim → rows_in n i.dims.base_dim < m
