-- The loop's invariant of `matrices`: the first i blocks are written.
use mathlib.Core.Path.{◌≡◌}
use mathlib.Core.List.{map}
use Prim.Native.Nat.{◌*◌}
use Rattle.loops.specs.Lists.{flat}
use Rattle.writer.specs.Wrote.{Wrote}
use Rattle.writer.specs.Written.{matrix_bytes, part}
use Rattle.writer.proofs.model_writer.matrices.Given as goal

abbrev pub invariant-loop-i : goal.invariant-loop-i
invariant-loop-i g l =
    (l.n ≡ l.rows * l.cols) × Wrote (flat l.i (λ i. matrix_bytes g.W.Real.format l.rows l.cols (part (l.rows * l.cols) i (map g.W.Real.float l.xs)))) l.initial.w l.w
