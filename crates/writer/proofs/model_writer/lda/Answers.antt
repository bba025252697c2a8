-- `lda` meets its contract: the mark and the matrix.
use Rattle.writer.proofs.Chain.{together}
use Rattle.writer.specs.Written.{lda_bytes}
use Rattle.writer.proofs.model_writer.lda.Goals as goal

pub returns : goal.returns
unfolding lda_bytes
returns g c = together c.bytes.ensures c.matrix.ensures
