-- `matrix` meets its contract: the tag, the two sizes and the numbers, one after the other.
use mathlib.Core.Path.{◌∙◌}
use Rattle.writer.proofs.Chain.{together, first, rest, room_as, wrote_as}
use Rattle.writer.proofs.Bytes.{matrix_head}
use Rattle.writer.proofs.model_writer.matrix.Goals as goal

pub bytes-requires : goal.bytes-requires
bytes-requires g c = room_as (matrix_head g.W.Real.format c.MARK.result (c.MARK.ensures ∙ g.met.W.Real.mark)) (first _ _ _ c.requires.room)

pub size-requires : goal.size-requires
size-requires g c = first _ _ _ (rest _ _ c.requires.room (wrote_as (matrix_head g.W.Real.format c.MARK.result (c.MARK.ensures ∙ g.met.W.Real.mark)) c.bytes.ensures))

pub size-requires-2 : goal.size-requires-2
size-requires-2 g c = first _ _ _ (rest _ _ (rest _ _ c.requires.room (wrote_as (matrix_head g.W.Real.format c.MARK.result (c.MARK.ensures ∙ g.met.W.Real.mark)) c.bytes.ensures)) c.size.ensures)

pub numbers-requires-clause-room : goal.numbers-requires-clause-room
numbers-requires-clause-room g c = rest _ _ (rest _ _ (rest _ _ c.requires.room (wrote_as (matrix_head g.W.Real.format c.MARK.result (c.MARK.ensures ∙ g.met.W.Real.mark)) c.bytes.ensures)) c.size.ensures) c.size-2.ensures

pub returns : goal.returns
returns g c = together (wrote_as (matrix_head g.W.Real.format c.MARK.result (c.MARK.ensures ∙ g.met.W.Real.mark)) c.bytes.ensures) (together c.size.ensures (together c.size-2.ensures c.numbers.ensures))
