-- `leading::order` meets its contract: a turn is `order_turn`, from none on (`order_none`); what is put in stays in order (`order_falls`, all in Ordering.antt).
use mathlib.Core.Path.{refl, ◌∙◌}
use mathlib.Core.List.{List}
use Prim.Native.Nat.{◌+◌}
use native.Mathlib.Omega.{arith}
use Rattle.definition.specs.Posteriors.{Post}
use Rattle.gmm.specs.Inner.Leading.{posts_in}
use Rattle.gmm.proofs.Ordering.{falls_ordered, order_none, order_turn, order_falls}
use Rattle.gmm.proofs.leading.order.Goals as goal

pub loop-j-init : goal.loop-j-init
loop-j-init c =
    let q = c.requires in
    record {
      most = q.few;
      same = (refl, refl, refl, refl);
      in_order = q.in_order;
      put_in = order_none _ _ _ _ _ _ q.few (omega (arith, q.few, q.places)) (omega (arith, q.few, q.places));
    }

pub insert-count-requires : goal.insert-count-requires
insert-count-requires c =
    let v = c.loop-j.invariant in
    let q = c.requires in
    record { few = v.most; places = (omega (arith, q.places, v.same), omega (arith, q.places, v.same)); in_order = v.in_order }

pub loop-j-preserved : goal.loop-j-preserved
loop-j-preserved c =
    let a = c.args in
    let v = c.loop-j.invariant in
    let q = c.requires in
    let e = c.insert-count.ensures in
    let l : List Post = posts_in a.already a.chosen.now.gauss.now a.chosen.now.posts.now in
    let i = order_turn a.num_gselect l c.loop-j.j a.gauss.now a.posts.now (omega (arith, q)) (omega (arith, q)) v.put_in e.inserted in
    record {
      most = e.most;
      same = (e.loans.0 ∙ v.same.0, e.loans.1 ∙ v.same.1, e.loans.2 ∙ v.same.2, e.loans.3 ∙ v.same.3);
      in_order = order_falls a.num_gselect l (posts_in (c.loop-j.j + 1) a.gauss.now a.posts.now) _ _ _
          (falls_ordered a.already a.chosen.now.gauss.now a.chosen.now.posts.now (omega (arith, q.few, q.places)) (omega (arith, q.few, q.places)) q.in_order)
          (omega (arith, e.most, e.loans, v.same, q.places)) (omega (arith, e.most, e.loans, v.same, q.places)) i;
      put_in = i;
    }
