-- `posteriors::largest_of_rest` meets its contract: the parts lie within the list, and joined in their order behind the largest so far they give the largest
-- (`parts-rest` in Maximum.antt).
use mathlib.Core.Path.{sym, ap, ◌∙◌}
use Prim.Native.Nat.{◌/◌}
use native.Mathlib.Omega.{arith}
use lib.ListN.{length}
use Rattle.loops.proofs.Cells.{row_in_lem}
use Rattle.gmm.specs.Inner.Posteriors.{top}
use Rattle.gmm.proofs.Maximum.{parts-rest}
use Rattle.gmm.proofs.posteriors.largest_of_rest.Goals as goal

pub largest_of_parts-front-requires : goal.largest_of_parts-front-requires
largest_of_parts-front-requires c =
    let e = sym c.part.ensures.1 in
    (c.part-2.ensures.1 ∙ e, c.part-3.ensures.1 ∙ e, c.part-4.ensures.1 ∙ e, c.part-5.ensures.1 ∙ e, c.part-6.ensures.1 ∙ e, c.part-7.ensures.1 ∙ e, c.part-8.ensures.1 ∙ e)

pub returns : goal.returns
returns c =
    let ls = c.args.loglikes.now in
    parts-rest c.args.m (length ls / 8) ls c.requires c.part.ensures.0 c.part-2.ensures.0 c.part-3.ensures.0 c.part-4.ensures.0 c.part-5.ensures.0 c.part-6.ensures.0
    c.part-7.ensures.0 c.part-8.ensures.0 c.largest_of_parts-front.ensures c.above-so_far.ensures (c.largest_in_turn.ensures ∙ ap (top c.above-so_far.result) c.behind.ensures)

pub part-requires : goal.part-requires
part-requires c = row_in_lem 0 8 _ _ (omega arith) (omega arith)

pub part-requires-2 : goal.part-requires-2
part-requires-2 c = row_in_lem 1 8 _ _ (omega arith) (omega arith)

pub part-requires-3 : goal.part-requires-3
part-requires-3 c = row_in_lem 2 8 _ _ (omega arith) (omega arith)

pub part-requires-4 : goal.part-requires-4
part-requires-4 c = row_in_lem 3 8 _ _ (omega arith) (omega arith)

pub part-requires-5 : goal.part-requires-5
part-requires-5 c = row_in_lem 4 8 _ _ (omega arith) (omega arith)

pub part-requires-6 : goal.part-requires-6
part-requires-6 c = row_in_lem 5 8 _ _ (omega arith) (omega arith)

pub part-requires-7 : goal.part-requires-7
part-requires-7 c = row_in_lem 6 8 _ _ (omega arith) (omega arith)

pub part-requires-8 : goal.part-requires-8
part-requires-8 c = row_in_lem 7 8 _ _ (omega arith) (omega arith)
