-- The numbers of refusals: `Refusal` is what the code says, a number what the definitions and the C interface do. No refusal has the number 0.
use Rattle.std.specs.Prelude.{ℕ, Result, Ok, Err}
use Rattle.definition.specs.declared.refusal.Refusal.{Refusal}
use Rattle.definition.specs.declared.refusal.Refusal.TheVariants as R

abbrev pub number_of : Refusal → ℕ
number_of R.OptionRange = 1
number_of R.CutShort = 2
number_of R.BadMark = 3
number_of R.DimensionRange = 4
number_of R.Disagree = 5
number_of R.BadNumber = 6
number_of R.CmvnForm = 7
number_of R.ShortRoom = 8
number_of R.SilenceSettings = 9
number_of R.ForeignRecord = 10
number_of R.FrameLength = 11
number_of R.FrameNumber = 12
number_of R.LastFrame = 13
number_of R.FramesFull = 14
number_of R.RowsFull = 15
number_of R.ChangeList = 16
number_of R.ChangeNumber = 17
number_of R.FrameGone = 18
number_of R.WaitingFull = 19
number_of R.OutputLength = 20
number_of R.NotReady = 21
number_of R.AboveHighest = 22
number_of R.DecoderFrames = 23
number_of R.SilenceLists = 24
number_of R.SettingsText = 25
number_of R.ShortOutput = 26
number_of R.VoiceCount = 27
number_of R.VectorLength = 28
number_of R.VectorNumber = 29
number_of R.Forgotten = 30
number_of R.WindowRange = 31
number_of R.OldWindow = 32
number_of R.TrySizes = 33
number_of R.ListTooShort = 99

-- the number of what was refused, 0 where nothing was
abbrev pub refused_by : {A : Type 0} → Result A Refusal → ℕ
refused_by (Ok a) = 0
refused_by (Err e) = number_of e

-- what a call gives where it can be refused, a refusal by its number
abbrev pub numbered : {A : Type 0} → Result A Refusal → Result A ℕ
numbered (Ok a) = Ok a
numbered (Err e) = Err (number_of e)
