-- `posteriors::gather_few` meets its contract: each that passes is put in (`few_none`, `few_turn`, `few_stay`, `gather_end` in Gathering.antt). What is held falls, as
-- `insert` asks (`few_fall`).
use mathlib.Core.Path.{refl, sym, ◌∙◌}
use native.Mathlib.Omega.{arith}
use Rattle.gmm.proofs.Gathering.{few_none, few_turn, few_stay, few_fall, gather_end}
use Rattle.gmm.proofs.posteriors.gather_few.Goals.{then-is_above, else-is_above}
use Rattle.gmm.proofs.posteriors.gather_few.Goals as goal

pub loop-g-init : goal.loop-g-init
loop-g-init c =
    let a = c.args in
    record { most = omega arith; same = (refl, refl, refl, refl); are_held = few_none a.num_gselect a.cutoff a.max_like a.loglikes.now a.chosen.now.gauss.now a.chosen.now.posts.now }

pub insert-n-requires-clause-in_order : goal.insert-n-requires-clause-in_order
insert-n-requires-clause-in_order c =
    let a = c.args in
    let l = c.loop-g in
    let v = l.invariant in
    let q = c.requires in
    few_fall a.num_gselect a.cutoff a.max_like a.loglikes.now l.g l.n l.chosen.gauss.now l.chosen.posts.now (omega (arith, q, v.same, v.most)) (omega (arith, q, v.same, v.most)) v.are_held

pub loop-g-preserved : goal.loop-g-preserved
loop-g-preserved c =
    let a = c.args in
    let l = c.loop-g in
    let v = l.invariant in
    let passes = c.is_above.ensures in
    elim c.if-is_above.branch [
      | then-is_above w ↦
          let e = w.insert-n.ensures in
          rw (w.chosen-is, w.n-is) (record {
            most = e.most;
            same = (e.loans.0 ∙ v.same.0, e.loans.1 ∙ v.same.1, e.loans.2 ∙ v.same.2, e.loans.3 ∙ v.same.3);
            are_held = few_turn a.num_gselect a.cutoff a.max_like a.loglikes.now l.g (omega arith) (sym passes ∙ w.if-is_above.true) w.likelihood-p.ensures v.are_held e.inserted;
          })
      | else-is_above w ↦
          rw (w.chosen-is, w.n-is) (record {
            most = v.most;
            same = v.same;
            are_held = few_stay a.num_gselect a.cutoff a.max_like a.loglikes.now l.g (omega arith) (sym passes ∙ w.if-is_above.false) v.are_held;
          })
    ]

pub returns-clause-gathered : goal.returns-clause-gathered
returns-clause-gathered c =
    let a = c.args in
    gather_end a.num_gselect a.cutoff a.max_like a.loglikes.now (omega (arith, c.loop-g-test.false)) c.loop-g.invariant.are_held
