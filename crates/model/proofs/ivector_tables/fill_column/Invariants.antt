-- The loop of `fill_column`: the first r numbers of the column are in their places.
use Rattle.std.proofs.Common.{◌≡◌, ℕ, ◌+◌, ◌*◌, ◌<◌}
use Rattle.std.specs.Float.{binary32}
use Rattle.floats.specs.Operators.{at}
use Rattle.definition.specs.Reader.{numbers}
use Rattle.model.proofs.ivector_tables.fill_column.Given as goal

abbrev pub invariant-loop-r : goal.invariant-loop-r
invariant-loop-r g l = (k : ℕ) → k < l.r → at l.out k ≡ at (numbers binary32 g.W.Real.format l.n l.bytes) (k * l.cols + l.c)
