-- `Writer::repeated` meets its contract: where all of them have room, the next one has (`next_room`), and it stands after those before it (`together`).
use mathlib.Core.Path.{sym}
use Rattle.loops.proofs.Flat.{flat_none, flat_more}
use Rattle.writer.proofs.Chain.{together, next_room, wrote_none, wrote_as}
use Rattle.writer.proofs.byte_writer.Writer.repeated.Goals as goal

pub loop-init : goal.loop-init
loop-init c = wrote_as (sym (flat_none _)) (wrote_none _)

pub bytes-requires : goal.bytes-requires
bytes-requires c = next_room c.args.n (λ _. c.args.src.now) c.requires c.loop.invariant c.loop-test.true

pub loop-preserved : goal.loop-preserved
loop-preserved c = wrote_as (sym (flat_more _ _)) (together c.loop.invariant c.bytes.ensures)
