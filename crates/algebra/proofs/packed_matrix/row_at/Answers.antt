-- `packed_matrix::row_at` meets its contract: the part that is lent is the front of row k, and w long (`lent_is`, `length_lent` in loops/proofs/Parts.antt).
use mathlib.Core.Path.{refl}
use Prim.Native.Nat.{◌+◌, ◌*◌}
use Rattle.loops.proofs.Parts.{lent_is, length_lent}
use Rattle.algebra.specs.Inner.PackedMatrix.{table_row}
use Rattle.algebra.proofs.packed_matrix.row_at.Goals as goal

pub returns : goal.returns
unfolding table_row
returns c =
    let a = c.args in
    let from = a.k * a.s in
    (lent_is from a.w (from + a.w) a.table.now refl, length_lent from a.w (from + a.w) a.table.now refl c.requires)
