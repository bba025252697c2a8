-- `packed_at` meets its contract: the width, the dimension and the triangle's numbers are read as the definition reads them (`goes` in Chain.antt).
use Rattle.std.proofs.Common.{sym, refl}
use Rattle.definition.specs.Kaldi.{packed_matrix}
use Rattle.kaldi.proofs.Chain.{goes}
use Rattle.kaldi.proofs.kaldi_io.items.packed_at.Goals as goal

pub returns-clause-value : goal.returns-clause-value
unfolding packed_matrix
returns-clause-value c = goes _ _ (sym c.in_ok-width.ensures) (goes _ _ (sym c.in_ok-dim.ensures.value) (goes _ _ (sym c.in_ok-numbers.ensures.value) refl))
