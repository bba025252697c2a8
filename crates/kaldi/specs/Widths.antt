-- The format of a width, and what a run of numbers in bytes is.
use Rattle.std.specs.Prelude.{◌≡◌, ℕ, ◌*◌, true, List, length}
use Rattle.std.specs.Float.{Format, binary32, binary64}
use Rattle.std.specs.Float.Ieee.Scale.{finite}
use Rattle.loops.specs.Lists.{all_of}
use Rattle.floats.specs.Real.{byte_width}
use Rattle.definition.specs.Reader.{numbers}
use Rattle.kaldi.specs.declared.kaldi_io.widths.Width.{Width}
use Rattle.kaldi.specs.declared.kaldi_io.widths.Width.TheVariants as W

abbrev pub format_of : Width → Format
format_of W.Single = binary32
format_of W.Double = binary64

-- so many numbers of a width, and nothing else
abbrev pub Whole : Width → ℕ → List ℕ → Type 0
Whole w n bytes = length bytes ≡ n * byte_width (format_of w)

-- each of so many numbers is finite, as it is written
abbrev pub AllFinite : Format → ℕ → List ℕ → Type 0
AllFinite f n bytes = all_of finite (numbers f f n bytes) ≡ true
