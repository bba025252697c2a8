-- `posteriors::collect` meets its contract: a turn by `collect_turn`, from none on (`collect_none`); where no more are found, by `collect_end` (Gathering.antt).
use mathlib.Core.Path.{refl, ◌∙◌}
use native.Mathlib.Omega.{arith}
use Rattle.std.proofs.lemmas.List.{length-set}
use Rattle.floats.specs.Operators.{◌-₃₂◌}
use Rattle.gmm.proofs.Gathering.{collect_none, collect_turn, collect_end}
use Rattle.gmm.proofs.posteriors.collect.Goals as goal

pub loop-n-init : goal.loop-n-init
loop-n-init c =
    let q = c.requires in
    record {
      from = omega arith;
      upto = q.0;
      long = refl;
      long2 = q.1;
      in_list = q.2;
      on = omega arith;
      collected = collect_none _ _ _ _ _ _ _;
    }

pub returns-in_default-clause-collected : goal.returns-in_default-clause-collected
returns-in_default-clause-collected c = collect_end _ _ _ _ _ _ _ (rw c.in_default.is at c.next.ensures.first) c.loop-n.invariant.collected

pub loop-n-preserved : goal.loop-n-preserved
loop-n-preserved c =
    let a = c.args in
    let l = c.loop-n in
    let v = l.invariant in
    let t = c.loop-n-test.true in
    let next = rw c.in-Some.is at c.next.ensures.first in
    let in_list = rw c.in-Some.is at c.next.ensures.in_list in
    record {
      from = omega (arith, v.from);
      upto = omega (arith, t, length-set l.gauss l.n c.in-Some.found);
      long = length-set l.gauss l.n _ ∙ v.long;
      long2 = length-set l.likes l.n _ ∙ v.long2;
      in_list = omega (arith, in_list);
      on = omega (arith, v.on, next.from);
      collected = collect_turn a.cutoff (λ x. x -₃₂ a.max_like) a.loglikes.now a.g a.first a.gauss.now a.likes.now c.in-Some.found in_list t (omega (arith, t, v.long, v.long2)) next v.collected;
    }
