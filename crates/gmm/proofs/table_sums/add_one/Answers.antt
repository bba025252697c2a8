-- `add_one` meets its contract, by the invariant in Invariants.antt (`place_done` in Passes.antt).
use lib.Ieee.{Float}
use Rattle.floats.specs.Operators.{◌+₃₂◌, ◌*₃₂◌, at}
use Rattle.gmm.proofs.Passes.{place_done}
use Rattle.gmm.proofs.table_sums.add_one.Goals as goal

pub loop-m-preserved : goal.loop-m-preserved
loop-m-preserved c = let a = c.args in place_done (λ m (s : Float). s +₃₂ at a.row.now m *₃₂ a.v) c.loop-m.m a.sum.now c.loop-m-test.true c.loop-m.invariant
