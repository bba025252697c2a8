-- `count_changes` meets its contract, by the invariant in Invariants.antt.
use mathlib.Core.Path.{refl, ap, ◌∙◌}
use native.Mathlib.Omega.{arith}
use lib.ListN.{length}
use Rattle.rounds.proofs.Walk.{carried_on, blind_is, walk_start, walk_frame, walk_turn, walk_difference, walk_end, number_le, count_none, count_turn}
use Rattle.rounds.proofs.silence_weighting.count_changes.Goals as goal

pub loop-offset-init : goal.loop-offset-init
loop-offset-init c =
    record {
      walking = walk_start _ _ _ _ _ _ _ _ _ _ c.walk_begin-begin.ensures refl (blind_is _ _ _ _ c.status.ensures c.is_none-blind.ensures) (c.before_weight-weight.ensures _ _);
      counted = λ first. count_none _ _ first _ _;
      few = omega arith;
    }

pub overflow_add-count : goal.overflow_add-count
overflow_add-count c = omega (arith, number_le _ _ _ _ c.number_of-count.ensures, c.loop-offset.invariant.few)

pub loop-offset-preserved : goal.loop-offset-preserved
loop-offset-preserved c =
    let v = c.loop-offset.invariant in
    let q = carried_on _ _ _ _ _ _ _ _ c.next_weight-w.ensures refl refl c.status-in-loop-offset.ensures in
    let r = c.number_of-count.ensures in
    let d = walk_difference v.walking q c.weight.ensures in
    record {
      walking = walk_turn v.walking q c.loop-offset-test.true;
      counted = λ first. count_turn _ _ first _ _ _ _ _ _ _ (walk_frame v.walking q) (v.counted first) d r;
      few = omega (arith, number_le _ _ _ _ r);
    }

pub returns : goal.returns
returns c =
    let args = c.args in
    λ first. c.loop-offset.invariant.counted first ∙ ap length (walk_end c.loop-offset.invariant.walking args.s.subsampling first c.loop-offset-test.false)
