-- `packed` meets its contract: the tag, the size and the numbers, one after the other.
use mathlib.Core.Path.{◌∙◌}
use Rattle.writer.proofs.Chain.{together, first, rest, room_as, wrote_as}
use Rattle.writer.proofs.Bytes.{packed_head}
use Rattle.writer.proofs.model_writer.packed.Goals as goal

pub bytes-requires : goal.bytes-requires
bytes-requires g c = room_as (packed_head g.W.Real.format c.MARK.result (c.MARK.ensures ∙ g.met.W.Real.mark)) (first _ _ _ c.requires.room)

pub size-requires : goal.size-requires
size-requires g c = first _ _ _ (rest _ _ c.requires.room (wrote_as (packed_head g.W.Real.format c.MARK.result (c.MARK.ensures ∙ g.met.W.Real.mark)) c.bytes.ensures))

pub numbers-requires-clause-room : goal.numbers-requires-clause-room
numbers-requires-clause-room g c = rest _ _ (rest _ _ c.requires.room (wrote_as (packed_head g.W.Real.format c.MARK.result (c.MARK.ensures ∙ g.met.W.Real.mark)) c.bytes.ensures)) c.size.ensures

pub returns : goal.returns
returns g c = together (wrote_as (packed_head g.W.Real.format c.MARK.result (c.MARK.ensures ∙ g.met.W.Real.mark)) c.bytes.ensures) (together c.size.ensures c.numbers.ensures)
