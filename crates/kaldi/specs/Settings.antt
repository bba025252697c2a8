-- Request 1: the options from the maker's two settings texts, splice.conf and online_cmvn.conf, by the keys that `IvectorInfo::open` reads, their values as
-- `conf_int` and `conf_float` read them. A missing file is an empty text. `speaker-frames` is no option here: its line is passed over.
use Rattle.std.specs.Prelude.{ℕ, ◌+◌, ◌^◌, Bool, ◌&&◌, List, [], ◌∷◌, length, take, drop, leb, ltb, eqb, Float, if◌then◌else◌}
use Prim.Native.String.{String}
use Rattle.std.specs.Float.{binary32}
use Rattle.loops.specs.Lists.{all_of}
use Rattle.floats.specs.Operators.{f32, f64}
use Rattle.definition.specs.declared.IvectorOptions.{IvectorOptions}
use Rattle.definition.specs.declared.TableLengths.{TableLengths}
use Rattle.definition.specs.Reader.{Got, read, refused, Parser, after, ◌>>=◌, ◌>>◌, give, need, run, here, same, text}
use Rattle.definition.specs.Text.{digits, digits_value, number, space}
use Rattle.definition.specs.Model.{Model, Files, load}

-- ---- lines `--key=value`

-- a byte in front of the first line
abbrev pub onto : ℕ → List (List ℕ) → List (List ℕ)
onto b [] = (b ∷ []) ∷ []
onto b (l ∷ ls) = (b ∷ l) ∷ ls

-- the lines of a text: byte 10 ends one
unfoldable pub lines : List ℕ → List (List ℕ)
lines [] = [] ∷ []
lines (b ∷ s) = if eqb b 10 then [] ∷ lines s else onto b (lines s)

-- a byte in front of what is left of a line: a blank with nothing behind it is left off
abbrev pub closed : ℕ → List ℕ → List ℕ
closed b [] = if space b then [] else b ∷ []
closed b (x ∷ s) = b ∷ x ∷ s

unfoldable pub trim_end : List ℕ → List ℕ
trim_end [] = []
trim_end (b ∷ s) = closed b (trim_end s)

-- blanks at both ends left off
unfoldable pub trim : List ℕ → List ℕ
trim s = trim_end (drop (run space s) s)

-- the value on the first line that begins with the key; empty, and so unreadable, where none does
unfoldable pub value : List ℕ → List (List ℕ) → List ℕ
value key [] = []
value key (l ∷ ls) = let t = trim l in if same (take (length key) t) key then trim (drop (length key) t) else value key ls

-- ---- values

-- a plus, if any, and digits, below 2 ^ 64
unfoldable pub plus : Parser (Unit {0})
plus s i = read tt (if here (eqb 43) s i then i + 1 else i)

unfoldable pub whole : Parser ℕ
whole = do
  plus
  d ← digits
  need (ltb 0 (length d) && ltb (digits_value 0 d) (2 ^ 64)) 7
  give (digits_value 0 d)

-- what is read of n bytes, if it is all of them; else the default
abbrev pub read_or : {A : Type 0} → A → ℕ → Got A → A
read_or d n (refused r) = d
read_or d n (read a i) = if eqb i n then a else d

-- the value of a key, or the default where it cannot be read
unfoldable pub setting : {A : Type 0} → Parser A → List ℕ → String → A → A
setting p s key d = let v = value (text key) (lines s) in read_or d (length v) (p v 0)

-- ---- the options

-- the Rust's defaults; 3ccccccd is 0.025, 3dcccccd 0.1, 4059.. 100 and 42480000 50
abbrev pub options_from : ℕ → ℕ → ℕ → ℕ → Float → IvectorOptions
options_from left right window global energy =
    record {
      left_context = left;
      right_context = right;
      cmn_window = window;
      global_frames = global;
      num_gselect = 5;
      num_cg_iters = 15;
      min_post = f32 0x3ccc_cccd;
      posterior_scale = f32 0x3dcc_cccd;
      max_count = f64 0x4059_0000_0000_0000;
      min_energy = energy;
    }

unfoldable pub options_of : List ℕ → List ℕ → IvectorOptions
options_of splice cmvn =
    options_from (setting whole splice "--left-context=" 3)
    (setting whole splice "--right-context=" 3)
    (setting whole cmvn "--cmn-window=" 600)
    (setting whole cmvn "--global-frames=" 200)
    (setting (number binary32) cmvn "--cmn-min-energy=" (f32 0x4248_0000))

-- ASCII, and at most 65,536 bytes
unfoldable pub plain : List ℕ → Bool
plain s = leb (length s) 65536 && all_of (λ b. leb b 127) s

-- 25 comes before 1, which is for the load: an option that is read is given, in its range or not
unfoldable pub settings_of : List ℕ → List ℕ → Got IvectorOptions
settings_of splice cmvn = if plain splice && plain cmvn then read (options_of splice cmvn) 0 else refused 25

-- the options from the texts, then the load
abbrev pub load_with : List ℕ → List ℕ → Files → TableLengths → ℕ → Got Model
load_with splice cmvn f z scratch = after (settings_of splice cmvn) (λ o _ _. load o f z scratch) []
