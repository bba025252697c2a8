-- The loop of `column_of`: the first b numbers of the column are in their places.
use Rattle.std.proofs.Common.{◌≡◌, ℕ, ◌+◌, ◌*◌, ◌<◌}
use Rattle.floats.specs.Operators.{at}
use Rattle.model.proofs.ivector_tables.column_of.Given as goal

abbrev pub invariant-loop-b : goal.invariant-loop-b
invariant-loop-b l = (k : ℕ) → k < l.b → at l.x k ≡ at l.table (k * l.s + l.p)
