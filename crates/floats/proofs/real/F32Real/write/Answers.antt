-- `write` leaves the bytes of the pattern from low to high, by the contracts of its calls; no search is asked.
use mathlib.Core.Path.{ap, ◌∙◌}
use Rattle.std.specs.Int.{w32, to_le_bytes}
use Rattle.floats.proofs.real.F32Real.write.Goals as goal

pub returns : goal.returns
returns c = c.copy_from_slice.ensures.after ∙ c.to_le_bytes.ensures ∙ ap (to_le_bytes w32) c.f32_to_bits_with_nan.ensures
