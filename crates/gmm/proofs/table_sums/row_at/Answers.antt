-- `table_sums::row_at` meets its contract: the part that is lent is row k, and g long (`lent_is`, `length_lent` in loops/proofs/Parts.antt).
use mathlib.Core.Path.{refl}
use Prim.Native.Nat.{◌+◌, ◌*◌}
use Rattle.loops.proofs.Parts.{lent_is, length_lent}
use Rattle.gmm.specs.Factor.{row}
use Rattle.gmm.proofs.table_sums.row_at.Goals as goal

pub returns : goal.returns
unfolding row
returns c =
    let a = c.args in
    let s = a.k * a.n in
    (lent_is s a.n (s + a.n) a.table.now refl, length_lent s a.n (s + a.n) a.table.now refl c.requires)
