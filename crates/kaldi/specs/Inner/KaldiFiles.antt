-- Parts of the files that have a function of their own, and what their answers say.
use Rattle.std.specs.Prelude.{◌≡◌, Bool, ◌&&◌, List, ℕ, ◌≤◌, Float, false}
use Rattle.std.specs.Float.{binary64}
use Rattle.loops.specs.Lists.{all_of}
use Rattle.definition.specs.Options.{max_gauss, max_feat, max_ivector}
use Rattle.definition.specs.Reader.{Got, read, refused, Parser, ◌>>=◌, ◌>>◌, give, times, text}
use Rattle.definition.specs.Kaldi.{Matrix, matrix_at, token, dim, matrix, single}
use Rattle.kaldi.specs.Inner.KaldiFilesAnswers.{means, items, sized_as}

-- ---- runs of blocks

-- of a run that was read, whether all its items pass a test, as those before did
abbrev pub tally : {A : Type 0} → Bool → (A → Bool) → Got (List A) → Got Bool
tally so_far t (read xs next) = read (so_far && all_of t xs) next
tally so_far t (refused n) = refused n

-- ---- the matrices M

pub record Counted : Type 0 where
  pub count : ℕ
  pub list : List Matrix

unfoldable pub counted : Parser Counted
counted = do
  n ← dim 1 max_gauss
  ms ← times n (matrix binary64 false max_feat max_ivector)
  give (record { count = n; list = ms })

pub record MeansIn (s : List ℕ) (count rows cols : ℕ) (alike : Bool) (from next : ℕ) : Type 0 where
  pub stands : means s count from ≡ read (items (means s count from)) next
  pub rows_are : (matrix_at (items (means s count from)) 0).rows ≡ rows
  pub cols_are : (matrix_at (items (means s count from)) 0).cols ≡ cols
  pub alike_is : all_of (sized_as rows cols) (items (means s count from)) ≡ alike
  pub count_low : 1 ≤ count
  pub count_high : count ≤ max_gauss
  pub rows_low : 1 ≤ rows
  pub rows_high : rows ≤ max_feat
  pub cols_low : 1 ≤ cols
  pub cols_high : cols ≤ max_ivector

-- ---- the file's end

unfoldable pub closing : Parser Float
closing = do
  token (text "<IvectorOffset>")
  x ← single
  token (text "</IvectorExtractor>")
  give x
