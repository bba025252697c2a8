-- `gmm` meets its contract: its pieces, one after the other.
use Rattle.writer.proofs.Chain.{together}
use Rattle.writer.specs.Written.{gmm_bytes}
use Rattle.writer.proofs.model_writer.gmm.Goals as goal

pub returns : goal.returns
unfolding gmm_bytes
returns g c =
    together c.bytes.ensures (together c.vector.ensures (together c.bytes-2.ensures (together c.vector-2.ensures (together c.bytes-3.ensures (together c.matrix.ensures (together c.bytes-4.ensures (together c.matrix-2.ensures (c.bytes-5.ensures))))))))
