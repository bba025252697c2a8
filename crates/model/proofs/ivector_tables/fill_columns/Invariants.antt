-- The loop of `fill_columns`: the first c columns stand in the room as rows.
use Rattle.std.proofs.Common.{◌≡◌, ◌+◌, ◌*◌}
use Rattle.std.specs.Float.{binary32}
use Rattle.loops.specs.Lists.{build, flat, over}
use Rattle.floats.specs.Operators.{at}
use Rattle.kaldi.specs.Inner.KaldiIoGot.{matrix_in}
use Rattle.model.proofs.ivector_tables.fill_columns.Given as goal

abbrev pub invariant-loop-c : goal.invariant-loop-c
invariant-loop-c g l = l.out ≡ over (flat l.c (λ c. build l.block.rows (λ r. at (matrix_in binary32 l.block).nums (r * l.block.cols + c)))) l.initial.out
