-- `matrices` meets its contract: the first i blocks are written, each of the part that is lent (`lent_part`).
use mathlib.Core.Path.{refl, sym, ap}
use mathlib.Core.List.{map}
use Prim.Native.Nat.{◌*◌}
use Rattle.loops.proofs.Flat.{flat_none, flat_more}
use Rattle.writer.proofs.Chain.{together, next_room, room_as, wrote_none, wrote_as}
use Rattle.writer.specs.Written.{matrix_bytes, part}
use Rattle.writer.proofs.Bytes.{lent_part, part_finite}
use Rattle.writer.proofs.model_writer.matrices.Goals as goal

pub loop-i-init : goal.loop-i-init
loop-i-init g c = (refl, wrote_as (sym (flat_none _)) (wrote_none _))

pub matrix-requires-clause-room : goal.matrix-requires-clause-room
matrix-requires-clause-room g c =
    room_as (ap (matrix_bytes g.W.Real.format c.args.rows c.args.cols) (lent_part g.W.Real.float (c.args.rows * c.args.cols) c.loop-i.i c.args.xs.now))
    (next_room c.args.count (λ i. matrix_bytes g.W.Real.format c.args.rows c.args.cols (part (c.args.rows * c.args.cols) i (map g.W.Real.float c.args.xs.now))) c.requires.room c.loop-i.invariant.1 c.loop-i-test.true)

pub matrix-requires-clause-judged : goal.matrix-requires-clause-judged
matrix-requires-clause-judged g c = part_finite g.W.Real.float (c.args.rows * c.args.cols) c.loop-i.i c.args.xs.now c.requires.judged

pub loop-i-preserved : goal.loop-i-preserved
loop-i-preserved g c =
    (c.loop-i.invariant.0, wrote_as (sym (flat_more _ _)) (together c.loop-i.invariant.1 (wrote_as (ap (matrix_bytes g.W.Real.format c.args.rows c.args.cols) (lent_part g.W.Real.float (c.args.rows * c.args.cols) c.loop-i.i c.args.xs.now)) c.matrix.ensures)))
