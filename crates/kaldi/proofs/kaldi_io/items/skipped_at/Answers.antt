-- `skipped_at` meets its contract: the width and the length are read as the definition reads them, and so many bytes are passed (`goes` in Chain.antt).
use Rattle.std.proofs.Common.{sym, refl}
use Rattle.definition.specs.Kaldi.{skipped}
use Rattle.kaldi.proofs.Chain.{goes}
use Rattle.kaldi.proofs.kaldi_io.items.skipped_at.Goals as goal

pub returns : goal.returns
unfolding skipped
returns c =
    goes _ _ (sym c.in_ok-width.ensures) (goes _ _ (sym c.in_ok-n.ensures.value) (goes _ _ (sym (rw c.bytes.ensures.value at c.in_ok-next.ensures.value)) refl))
