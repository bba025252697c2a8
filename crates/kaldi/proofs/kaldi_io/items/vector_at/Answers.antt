-- `vector_at` meets its contract: the width, the length and the numbers are read as the definition reads them (`goes` in Chain.antt).
use Rattle.std.proofs.Common.{sym}
use Rattle.definition.specs.Kaldi.{vector}
use Rattle.kaldi.proofs.Chain.{goes}
use Rattle.kaldi.proofs.kaldi_io.items.vector_at.Goals as goal

pub returns-clause-value : goal.returns-clause-value
unfolding vector
returns-clause-value g c = goes _ _ (sym c.in_ok-width.ensures) (goes _ _ (sym c.in_ok-n.ensures.value) c.numbers_at.ensures.value)
