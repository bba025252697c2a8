-- `packed_matrix::weighted_rows` meets its contract: a pass by `four_turn`, a row by `one_turn`; what is read of a row lies in the table (`front_in`, all in
-- Square.antt).
use mathlib.Core.Path.{sym, ◌∙◌}
use Prim.Native.Nat.{◌+◌}
use native.Mathlib.Nat.{le_of_eq}
use native.Mathlib.Omega.{arith}
use lib.ListN.{length}
use Rattle.loops.specs.Lists.{build}
use Rattle.loops.proofs.Loop.{at_end}
use Rattle.algebra.proofs.Square.{sum_of, front_in, length_sums, one_turn, four_turn}
use Rattle.algebra.proofs.packed_matrix.weighted_rows.Goals as goal

pub loop-k-init : goal.loop-k-init
loop-k-init c =
    let a = c.args in
    let e = c.begin_sums-k.ensures in
    record { most = e.few; long = length_sums a.s (length a.out.now) a.rows.now a.x.now c.begin_sums-k.result e.sums; sums = e.sums }

pub row_at-r2-requires : goal.row_at-r2-requires
row_at-r2-requires c = front_in (c.loop-k.k + 2) (length c.args.x.now) c.args.s (length c.args.out.now) _ c.requires.apart c.requires.rows_in (omega arith)

pub row_at-r3-requires : goal.row_at-r3-requires
row_at-r3-requires c = front_in (c.loop-k.k + 3) (length c.args.x.now) c.args.s (length c.args.out.now) _ c.requires.apart c.requires.rows_in (omega arith)

pub add_four-requires : goal.add_four-requires
add_four-requires c =
    let e = sym c.loop-k.invariant.long in
    (c.row_at-r0.ensures.1 ∙ e, c.row_at-r1.ensures.1 ∙ e, c.row_at-r2.ensures.1 ∙ e, c.row_at-r3.ensures.1 ∙ e)

pub loop-k-preserved : goal.loop-k-preserved
loop-k-preserved c =
    let a = c.args in
    let w = length a.out.now in
    let e = four_turn a.s w a.rows.now a.x.now c.loop-k.k c.loop-k.invariant.sums c.row_at-r0.ensures.0 c.row_at-r1.ensures.0
    c.row_at-r2.ensures.0 c.row_at-r3.ensures.0 c.add_four.ensures in
    record { most = omega arith; long = length_sums a.s w a.rows.now a.x.now (c.loop-k.k + 4) e; sums = e }

pub add_scaled-requires : goal.add_scaled-requires
add_scaled-requires c = le_of_eq (c.loop-i.invariant.long ∙ sym c.row_at-r.ensures.1)

pub loop-i-preserved : goal.loop-i-preserved
loop-i-preserved c =
    let a = c.args in
    let w = length a.out.now in
    let e = one_turn a.s w a.rows.now a.x.now c.loop-i.i c.loop-i.invariant.sums c.row_at-r.ensures.0 c.add_scaled.ensures in
    record { most = omega arith; long = length_sums a.s w a.rows.now a.x.now (c.loop-i.i + 1) e; sums = e }

pub shape_of-out : goal.shape_of-out
shape_of-out c = c.loop-i.invariant.long

pub returns : goal.returns
returns c =
    let a = c.args in
    let h = c.loop-i.invariant in
    at_end (λ k. build (length a.out.now) (sum_of a.s a.rows.now a.x.now k)) _ _ h.most (omega arith) h.sums
