-- `put_lda` meets its contract: the head, and after it the ones, from the front on (`together`, `whole`).
use mathlib.Core.Path.{refl}
use mathlib.Core.List.{[], ◌∷◌}
use native.Mathlib.Omega.{arith}
use Rattle.writer.proofs.Chain.{together, whole}
use Rattle.lists.specs.Files.{lda_file}
use Rattle.lists.proofs.Lengths.{long}
use Rattle.lists.proofs.try_model.put_lda.Goals as goal

pub repeated-requires : goal.repeated-requires
repeated-requires c = record { fits = omega (arith, c.bytes.ensures.next_is, c.bytes.ensures.long, long c.args.dim (0 ∷ 0 ∷ 128 ∷ 63 ∷ []), c.requires, c.told-out) }

pub returns-clause-length : goal.returns-clause-length
unfolding lda_file
returns-clause-length c = (whole refl (together c.bytes.ensures c.repeated.ensures)).0

pub returns-clause-bytes : goal.returns-clause-bytes
unfolding lda_file
returns-clause-bytes c = (whole refl (together c.bytes.ensures c.repeated.ensures)).1
