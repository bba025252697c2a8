-- `packed_matrix::begin_sums` meets its contract: zeros where fewer than four rows are left, else four rows (`sums_none`, `four_first` in Square.antt).
use mathlib.Core.Path.{refl}
use Rattle.std.proofs.lemmas.Grind.{common_steps}
use native.Mathlib.Omega.{arith}
use lib.ListN.{length}
use Rattle.algebra.proofs.Square.{sums_none, four_first}
use Rattle.algebra.proofs.packed_matrix.begin_sums.Goals as goal

pub returns-then-x-lt4-clause-sums : goal.returns-then-x-lt4-clause-sums
returns-then-x-lt4-clause-sums c =
    let a = c.args in
    sums_none a.s (length a.out.now) a.rows.now a.x.now (grind (arith, common_steps, c.fill.ensures))

pub returns-clause-sums : goal.returns-clause-sums
returns-clause-sums c =
    let a = c.args in
    four_first a.s (length a.out.now) a.rows.now a.x.now a.out.now refl c.row_at-r0.ensures.0 c.row_at-r1.ensures.0 c.row_at-r2.ensures.0 c.row_at-r3.ensures.0 c.set_four.ensures
