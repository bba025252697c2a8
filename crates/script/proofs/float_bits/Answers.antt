-- The pattern, as wide as it is printed; no search is asked.
use Rattle.std.proofs.Common.{◌∙◌}
use Rattle.script.proofs.float_bits.Goals as goal

pub returns : goal.returns
returns c = c.from.ensures ∙ c.f32_to_bits_with_nan.ensures
