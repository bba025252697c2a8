-- `extractor` meets its contract: its pieces, one after the other.
use mathlib.Core.Path.{ap, ◌∙◌}
use mathlib.Core.List.{[], ◌∷◌}
use Prim.Native.Nat.{ℕ}
use Rattle.writer.proofs.Chain.{together, wrote_as}
use Rattle.writer.specs.Written.{extractor_bytes}
use Rattle.writer.proofs.model_writer.extractor.Goals as goal

pub returns : goal.returns
unfolding extractor_bytes
returns g c =
    let size_byte = wrote_as (ap (λ (k : ℕ). k ∷ []) (c.BYTES.ensures ∙ g.met.W.Real.bytes)) c.bytes-6.ensures in
    together c.bytes.ensures (together c.matrix.ensures (together c.bytes-2.ensures (together c.vector.ensures (together c.bytes-3.ensures
    (together c.size.ensures (together c.matrices.ensures (together c.bytes-4.ensures (together c.packeds.ensures (together c.bytes-5.ensures (together size_byte (together c.number.ensures (c.bytes-7.ensures))))))))))))
