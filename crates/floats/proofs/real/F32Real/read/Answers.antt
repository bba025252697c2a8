-- `read` gives the number of the bytes, by the contracts of its two calls; no search is asked.
use mathlib.Core.Path.{ap, ◌∙◌}
use lib.Ieee.{binary32, of_bits}
use Rattle.floats.proofs.real.F32Real.read.Goals as goal

pub returns : goal.returns
returns c = c.f32_from_bits_with_nan.ensures ∙ ap (of_bits binary32) c.from_le_bytes.ensures
