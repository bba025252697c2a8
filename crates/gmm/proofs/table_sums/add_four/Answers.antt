-- `add_four` meets its contract, by the invariant in Invariants.antt (`place_done` in Passes.antt).
use lib.Ieee.{Float}
use Rattle.floats.specs.Operators.{◌+₃₂◌, ◌*₃₂◌, at}
use Rattle.gmm.proofs.Passes.{place_done}
use Rattle.gmm.proofs.table_sums.add_four.Goals as goal

pub loop-m-preserved : goal.loop-m-preserved
loop-m-preserved c = let a = c.args in place_done (λ m (s : Float). s +₃₂ at a.r0.now m *₃₂ a.v0 +₃₂ at a.r1.now m *₃₂ a.v1 +₃₂ at a.r2.now m *₃₂ a.v2 +₃₂ at a.r3.now m *₃₂ a.v3) c.loop-m.m a.sum.now c.loop-m-test.true c.loop-m.invariant
