-- `fill_columns` meets its contract, by the laws of rows that make a table (crate loops); that this is the definition's `transposed` is
-- `transposed-whole` (Rows.antt).
use Rattle.std.proofs.Common.{ℕ, ◌+◌, ◌-◌, ◌*◌, List, length, ap, ◌∙◌, arith}
use lib.Ieee.{Float, binary32}
use Rattle.loops.specs.Lists.{build}
use Rattle.loops.proofs.Build.{length_build}
use Rattle.loops.proofs.Flat.{rows_none, rows_turn, rows_end, length_cells}
use Rattle.floats.specs.Operators.{at}
use Rattle.kaldi.specs.Inner.KaldiIoGot.{matrix_in}
use Rattle.kaldi.specs.declared.kaldi_io.blocks.Matrix as Declared
use Rattle.model.proofs.Rows.{transposed-whole}
use Rattle.model.proofs.ivector_tables.fill_columns.Goals as goal

abbrev column : Declared.Matrix → ℕ → List Float
column m c = build m.rows (λ r. at (matrix_in binary32 m).nums (r * m.cols + c))

pub loop-c-init : goal.loop-c-init
loop-c-init g c = rows_none (column c.args.block.now) _

pub loop-c-preserved : goal.loop-c-preserved
loop-c-preserved g c =
    let m = c.args.block.now in
    let i = c.loop-c.c in
    rows_turn (column m) i _ {k = i * m.rows + m.rows - i * m.rows} (length_cells i m.rows _) c.loop-c.invariant c.fill_column.ensures
    (ap length c.fill_column.ensures ∙ length_build m.rows _ ∙ omega arith)

pub returns : goal.returns
returns g c =
    let m = c.args.block.now in
    rows_end (column m) c.loop-c.c _ _ (omega arith) c.loop-c-test.false c.loop-c.invariant ∙ transposed-whole c.args.kept (matrix_in binary32 m) _
