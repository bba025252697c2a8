-- `add` meets its contract, by the invariant in Invariants.antt.
use lib.Ieee.{Float, nan}
use Rattle.floats.specs.Operators.{◌+₆₄◌, at}
use Rattle.loops.proofs.Fill.{updated}
use Rattle.ivector_stats.proofs.add.Goals as goal

pub returns : goal.returns
returns c =
    let h = c.loop-c.invariant in
    updated nan (λ k (v : Float). v +₆₄ at c.args.row.now k) _ _ _ h.0 c.loop-c-test.false h.1 h.3
