-- `size` meets its contract: the first four of the eight bytes of a number (`front`).
use mathlib.Core.Path.{ap, ◌∙◌}
use native.Mathlib.Omega.{arith}
use lib.ListN.{take}
use Rattle.writer.proofs.Chain.{together, rest, room_as, wrote_as}
use Rattle.writer.proofs.Bytes.{front}
use Rattle.writer.proofs.model_writer.size.Goals as goal

pub bytes-requires-2 : goal.bytes-requires-2
bytes-requires-2 c = room_as (ap (take 4) c.to_le_bytes-bytes.ensures ∙ front 4 c.args.n (omega arith)) (rest _ _ c.requires c.bytes.ensures)

pub returns : goal.returns
returns c = together c.bytes.ensures (wrote_as (ap (take 4) c.to_le_bytes-bytes.ensures ∙ front 4 c.args.n (omega arith)) c.bytes-2.ensures)
