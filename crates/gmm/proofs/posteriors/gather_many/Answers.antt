-- `posteriors::gather_many` meets its contract: a turn is `gather_turn`, from the few on (`gather_first`), the end `gather_end` (Gathering.antt).
use mathlib.Core.Path.{refl, ap, ◌∙◌}
use mathlib.Core.List.{List}
use native.Mathlib.Omega.{arith}
use lib.ListN.{take}
use Rattle.definition.specs.Posteriors.{Post}
use Rattle.gmm.specs.Inner.Leading.{posts_in, into}
use Rattle.gmm.proofs.Rooms.{held_none}
use Rattle.gmm.proofs.Ordering.{falls_ordered}
use Rattle.gmm.proofs.Gathering.{gather_first, gather_turn, gather_end}
use Rattle.gmm.proofs.posteriors.gather_many.Goals as goal

pub loop-g-init : goal.loop-g-init
loop-g-init c =
    let a = c.args in
    let q = c.requires in
    record {
      upto = q.few.3;
      room = omega (arith, q.few.0);
      long = c.copy.auto.gauss;
      long2 = c.copy.auto.likes;
      same = (refl, refl, refl, refl);
      holds = record {
        candidates = (omega (arith, q.few.0, c.copy.auto.gauss), omega (arith, q.few.0, c.copy.auto.likes));
        few = omega arith;
        in_order = record { behind = λ i j s t. absurd (omega arith) };
        enough = tt;
      };
      leading = ap (λ (r : List Post). take a.num_gselect (into r (posts_in a.few.count c.copy.new.gauss c.copy.new.likes))) (held_none a.chosen.now.gauss.now a.chosen.now.posts.now)
          ∙ gather_first a.num_gselect a.cutoff a.max_like a.loglikes.now a.few.next (c.copy.ensures ∙ q.met);
    }

pub make_room-holding-requires-clause-holds : goal.make_room-holding-requires-clause-holds
make_room-holding-requires-clause-holds c =
    let a = c.args in
    let q = c.requires in
    let l = c.loop-g in
    let v = l.invariant in
    let h = v.holds in
    let e = c.candidates-more.ensures in
    let g = c.candidates-more.auto.gauss in
    let k = c.candidates-more.auto.likes in
    let kept = c.keep-kept.ensures in
    let ordered : List Post = posts_in l.holding.ordered l.chosen.gauss.now l.chosen.posts.now in
    let o = falls_ordered l.holding.ordered l.chosen.gauss.now l.chosen.posts.now (omega (arith, h.few, q.places, v.same)) (omega (arith, h.few, q.places, v.same)) h.in_order in
    let step = gather_turn a.num_gselect a.cutoff a.max_like a.loglikes.now l.holding.bound ordered c.keep-kept.result c.keep-kept.new.gauss c.keep-kept.new.posts o e.places.0
    (omega (arith, e.places, g)) (omega (arith, e.places, v.long, v.long2, k)) h.candidates.0 h.candidates.1 h.enough v.leading e.collected kept.kept in
    record {
      candidates = (omega (arith, kept.fewer, e.places, g, c.keep-kept.auto.gauss), omega (arith, kept.fewer, e.places, v.long, v.long2, k, c.keep-kept.auto.posts));
      few = h.few;
      in_order = h.in_order;
      enough = step.1;
    }

pub loop-g-preserved : goal.loop-g-preserved
loop-g-preserved c =
    let a = c.args in
    let q = c.requires in
    let l = c.loop-g in
    let v = l.invariant in
    let h = v.holds in
    let e = c.candidates-more.ensures in
    let g = c.candidates-more.auto.gauss in
    let k = c.candidates-more.auto.likes in
    let kept = c.keep-kept.ensures in
    let room = c.make_room-holding.ensures in
    let ordered : List Post = posts_in l.holding.ordered l.chosen.gauss.now l.chosen.posts.now in
    let o = falls_ordered l.holding.ordered l.chosen.gauss.now l.chosen.posts.now (omega (arith, h.few, q.places, v.same)) (omega (arith, h.few, q.places, v.same)) h.in_order in
    let step = gather_turn a.num_gselect a.cutoff a.max_like a.loglikes.now l.holding.bound ordered c.keep-kept.result c.keep-kept.new.gauss c.keep-kept.new.posts o e.places.0
    (omega (arith, e.places, g)) (omega (arith, e.places, v.long, v.long2, k)) h.candidates.0 h.candidates.1 h.enough v.leading e.collected kept.kept in
    record {
      upto = e.places.2;
      room = room.room;
      long = c.make_room-holding.auto.gauss ∙ c.keep-kept.auto.gauss ∙ g ∙ v.long;
      long2 = c.make_room-holding.auto.posts ∙ c.keep-kept.auto.posts ∙ k ∙ v.long2;
      same = (room.loans.0 ∙ v.same.0, room.loans.1 ∙ v.same.1, room.loans.2 ∙ v.same.2, room.loans.3 ∙ v.same.3);
      holds = room.holds;
      leading = room.leading ∙ step.0;
    }

pub returns-clause-gathered : goal.returns-clause-gathered
returns-clause-gathered c =
    let a = c.args in
    gather_end a.num_gselect a.cutoff a.max_like a.loglikes.now (omega (arith, c.loop-g-test.false)) (c.finish.ensures.finished ∙ c.loop-g.invariant.leading)
