-- `past_highest_of` meets its contract, by the invariant in Invariants.antt (`fold_turn` in loops/proofs/Folds.antt).
use native.Mathlib.Omega.{arith}
use borrow.Author.Tests.{leb-false}
use lib.Dec.{leb}
use lib.ListN.{get_or}
use Rattle.loops.proofs.Folds.{fold_turn, fold_end}
use Rattle.loops.proofs.Tests.{none_at}
use Rattle.stream.proofs.delta_weights.past_highest_of.Goals as goal

pub overflow_add-f : goal.overflow_add-f
overflow_add-f c =
    let xs = c.args.delta_frames.now in
    let i = c.loop-f.f-index in
    omega (arith, leb-false 1000000000 (get_or xs i 0) (none_at (leb 1000000000) 0 xs i c.requires c.loop-f-test.true))

pub loop-f-preserved : goal.loop-f-preserved
loop-f-preserved c = fold_turn _ 0 _ _ c.loop-f-test.true c.max-past.ensures c.loop-f.invariant

pub returns : goal.returns
returns c = fold_end _ _ _ c.loop-f-test.false c.loop-f.invariant
