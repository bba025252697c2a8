-- `put_cmvn` meets its contract: the two rows, piece after piece, from the front on (`together`, `whole`).
use mathlib.Core.Path.{refl}
use mathlib.Core.List.{[], ◌∷◌}
use native.Mathlib.Omega.{arith}
use Rattle.writer.proofs.Chain.{together, whole}
use Rattle.lists.specs.Files.{cmvn_file}
use Rattle.lists.proofs.Lengths.{long}
use Rattle.lists.proofs.try_model.put_cmvn.Goals as goal

pub repeated-requires : goal.repeated-requires
repeated-requires c = record { fits = omega (arith, c.bytes.ensures.next_is, c.bytes.ensures.long, long c.args.dim (53 ∷ 48 ∷ 32 ∷ []), c.requires, c.told-out) }

pub bytes-requires-2 : goal.bytes-requires-2
bytes-requires-2 c = record { fits = omega (arith, c.bytes.ensures.next_is, c.bytes.ensures.long, c.repeated.ensures.next_is, c.repeated.ensures.long, long c.args.dim (53 ∷ 48 ∷ 32 ∷ []), c.requires, c.told-out) }

pub repeated-requires-2 : goal.repeated-requires-2
repeated-requires-2 c = record {
  fits = omega (
    arith,
    c.bytes.ensures.next_is,
    c.bytes.ensures.long,
    c.repeated.ensures.next_is,
    c.repeated.ensures.long,
    c.bytes-2.ensures.next_is,
    c.bytes-2.ensures.long,
    long c.args.dim (53 ∷ 48 ∷ 32 ∷ []),
    c.requires,
    c.told-out,
  );
}

pub bytes-requires-3 : goal.bytes-requires-3
bytes-requires-3 c = record {
  fits = omega (
    arith,
    c.bytes.ensures.next_is,
    c.bytes.ensures.long,
    c.repeated.ensures.next_is,
    c.repeated.ensures.long,
    c.bytes-2.ensures.next_is,
    c.bytes-2.ensures.long,
    c.repeated-2.ensures.next_is,
    c.repeated-2.ensures.long,
    long c.args.dim (53 ∷ 48 ∷ 32 ∷ []),
    c.requires,
    c.told-out,
  );
}

pub returns-clause-length : goal.returns-clause-length
unfolding cmvn_file
returns-clause-length c = (whole refl (together c.bytes.ensures (together c.repeated.ensures (together c.bytes-2.ensures (together c.repeated-2.ensures c.bytes-3.ensures))))).0

pub returns-clause-bytes : goal.returns-clause-bytes
unfolding cmvn_file
returns-clause-bytes c = (whole refl (together c.bytes.ensures (together c.repeated.ensures (together c.bytes-2.ensures (together c.repeated-2.ensures c.bytes-3.ensures))))).1
