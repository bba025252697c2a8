-- `number` meets its contract: the first four or eight of the eight bytes of its pattern (`front`).
use mathlib.Core.Path.{sym, ap, ◌∙◌}
use Prim.Native.Nat.{ℕ}
use lib.ListN.{take}
use lib.Ieee.{to_bits}
use Rattle.std.specs.Int.{w64, to_le_bytes}
use Rattle.writer.proofs.Chain.{room_as, wrote_as}
use Rattle.writer.specs.Written.{low_bytes}
use Rattle.writer.proofs.Lengths.{few_bytes}
use Rattle.writer.proofs.Bytes.{front, numbers_one}
use Rattle.writer.proofs.model_writer.number.Goals as goal

pub bytes-requires : goal.bytes-requires
bytes-requires g c =
    room_as (ap (take c.BYTES.result) (c.to_le_bytes-bytes.ensures ∙ ap (to_le_bytes w64) c.finite_pattern.ensures)
    ∙ front c.BYTES.result (to_bits g.W.Real.format (g.W.Real.float c.args.x)) (few_bytes g.W.Real.format (c.BYTES.ensures ∙ g.met.W.Real.bytes))
    ∙ ap (λ (k : ℕ). low_bytes k (to_bits g.W.Real.format (g.W.Real.float c.args.x))) (c.BYTES.ensures ∙ g.met.W.Real.bytes) ∙ sym (numbers_one g.W.Real.format (g.W.Real.float c.args.x)))
    c.requires.room

pub returns : goal.returns
returns g c =
    wrote_as (ap (take c.BYTES.result) (c.to_le_bytes-bytes.ensures ∙ ap (to_le_bytes w64) c.finite_pattern.ensures)
    ∙ front c.BYTES.result (to_bits g.W.Real.format (g.W.Real.float c.args.x)) (few_bytes g.W.Real.format (c.BYTES.ensures ∙ g.met.W.Real.bytes))
    ∙ ap (λ (k : ℕ). low_bytes k (to_bits g.W.Real.format (g.W.Real.float c.args.x))) (c.BYTES.ensures ∙ g.met.W.Real.bytes) ∙ sym (numbers_one g.W.Real.format (g.W.Real.float c.args.x)))
    c.bytes.ensures
