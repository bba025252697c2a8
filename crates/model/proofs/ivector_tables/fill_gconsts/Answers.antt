-- `fill_gconsts` meets its contract: its loop fills the front of the room, and what is past it stays.
use Rattle.std.proofs.Common.{arith}
use lib.Ieee.{nan}
use Rattle.loops.proofs.Build.{build_is}
use Rattle.model.proofs.Rows.{front_over}
use Rattle.model.proofs.ivector_tables.fill_gconsts.Goals as goal

pub returns : goal.returns
returns c =
    let split = c.split_at_mut-front.ensures in
    let gmm = c.args.gmm.now in
    front_over gmm.weights.count _ _ _ (omega arith) split.back (build_is nan gmm.inv_vars.rows _ _ (omega arith) (λ k h. c.loop-g.invariant k (omega arith)))
