-- `leading::find_bound` meets its contract: what is above another is a number, and `staying` counts those that are not behind it.
use mathlib.Core.Path.{sym, ◌∙◌}
use native.Mathlib.Nat.{le_of_eq}
use native.Mathlib.Omega.{arith}
use Rattle.floats.proofs.Order.{lt-no_nan}
use Rattle.gmm.proofs.leading.find_bound.Goals.{then-low-x+then-x-high+else-looks-eq6+else-count-num_gselect+then-count-num_gselect-2, then-low-x+then-x-high+else-looks-eq6+else-count-num_gselect+else-count-num_gselect-2, then-low-x+else-x-high, else-low-x}
use Rattle.gmm.proofs.leading.find_bound.Goals as goal

pub staying-count-requires-clause-number : goal.staying-count-requires-clause-number
staying-count-requires-clause-number c = lt-no_nan _ _ c.if-low-x.true

pub returns-then-count-num_gselect : goal.returns-then-count-num_gselect
returns-then-count-num_gselect c = λ gauss h. le_of_eq (sym c.if-count-num_gselect.true ∙ c.staying-count.ensures gauss h)

pub loop-t-preserved : goal.loop-t-preserved
loop-t-preserved c =
    elim c.if-low-x.branch [
      | then-low-x+then-x-high+else-looks-eq6+else-count-num_gselect+then-count-num_gselect-2 w ↦ (omega (arith, w.looks-is, w.if-looks-eq6.false, c.loop-t.invariant.0), rw w.bound-is (λ gauss h. omega (arith, w.staying-count.ensures gauss h, w.if-count-num_gselect-2.true)))
      | then-low-x+then-x-high+else-looks-eq6+else-count-num_gselect+else-count-num_gselect-2 w ↦ (omega (arith, w.looks-is, w.if-looks-eq6.false, c.loop-t.invariant.0), rw w.bound-is c.loop-t.invariant.1)
      | then-low-x+else-x-high w ↦ (omega (arith, w.looks-is, c.loop-t.invariant.0), rw w.bound-is c.loop-t.invariant.1)
      | else-low-x w ↦ (omega (arith, w.looks-is, c.loop-t.invariant.0), rw w.bound-is c.loop-t.invariant.1)
    ]
