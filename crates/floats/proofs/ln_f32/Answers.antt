-- `ln_f32` gives `ln_narrow x`: the contracts of the widening, of `ln` and of `narrow`, one after the other.
use Rattle.std.proofs.Common.{ap, ◌∙◌}
use lib.Ieee.{Float}
use Rattle.floats.specs.Narrow.{narrowed}
use Rattle.floats.specs.Ln.{ln_of}
use Rattle.floats.proofs.ln_f32.Goals as goal

pub returns : goal.returns
returns c = c.narrow.ensures ∙ ap (λ (x : Float). narrowed x) (c.ln.ensures ∙ ap ln_of c.f32_to_f64_with_nan.ensures)
