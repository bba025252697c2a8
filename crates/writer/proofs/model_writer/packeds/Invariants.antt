-- The loop's invariant of `packeds`: the first i blocks are written.
use mathlib.Core.Path.{◌≡◌}
use mathlib.Core.List.{map}
use Rattle.loops.specs.Lists.{flat}
use Rattle.definition.specs.Kaldi.{triangle}
use Rattle.writer.specs.Wrote.{Wrote}
use Rattle.writer.specs.Written.{packed_bytes, part}
use Rattle.writer.proofs.model_writer.packeds.Given as goal

abbrev pub invariant-loop-i : goal.invariant-loop-i
invariant-loop-i g l =
    (l.n ≡ triangle l.rows) × Wrote (flat l.i (λ i. packed_bytes g.W.Real.format l.rows (part (triangle l.rows) i (map g.W.Real.float l.xs)))) l.initial.w l.w
