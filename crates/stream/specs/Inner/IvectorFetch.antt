-- ivector_fetch: words of inner contracts.
use Rattle.std.specs.Prelude.{ℕ, List, eqb, Float, if◌then◌else◌}
use Rattle.loops.specs.Lists.{build}
use Rattle.floats.specs.Operators.{◌-₃₂◌, at}
use Rattle.floats.specs.Narrow.{narrowed}

-- element i of what a fetch answers, x being that of the current vector
unfoldable pub fetched_at : Float → ℕ → Float → Float
fetched_at prior i x = if eqb i 0 then narrowed x -₃₂ narrowed prior else narrowed x

-- the n numbers that it answers from a current vector
abbrev pub vector_at : Float → List Float → ℕ → List Float
vector_at prior current n = build n (λ i. fetched_at prior i (at current i))
