-- `matrix_at` meets its contract: the width, both lengths and the numbers are read as the definition reads them (`goes` in Chain.antt).
use Rattle.std.proofs.Common.{sym, refl}
use Rattle.definition.specs.Kaldi.{matrix}
use Rattle.kaldi.proofs.Chain.{goes}
use Rattle.kaldi.proofs.kaldi_io.items.matrix_at.Goals as goal

pub returns-clause-value : goal.returns-clause-value
unfolding matrix
returns-clause-value g c =
    goes _ _ (sym c.in_ok-width.ensures) (goes _ _ (sym c.in_ok-rows.ensures.value) (goes _ _ (sym c.in_ok-cols.ensures.value) (goes _ _ (sym c.in_ok-numbers.ensures.value) refl)))
