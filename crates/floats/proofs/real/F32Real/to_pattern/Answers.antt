-- `to_pattern` gives the pattern, by the contracts of its two calls; no search is asked.
use mathlib.Core.Path.{◌∙◌}
use Rattle.floats.proofs.real.F32Real.to_pattern.Goals as goal

pub returns : goal.returns
returns c = c.from.ensures ∙ c.f32_to_bits_with_nan.ensures
