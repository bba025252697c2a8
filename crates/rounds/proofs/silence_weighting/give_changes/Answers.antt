-- `give_changes` meets its contract, by the invariant in Invariants.antt.
use mathlib.Core.Path.{refl, ap, ◌∙◌}
use native.Mathlib.Omega.{arith}
use lib.ListN.{length, length-set}
use mathlib.Core.List.{List, map}
use Rattle.loops.specs.Lists.{over}
use Rattle.loops.proofs.Fill.{put_none, put_turn, put_end}
use Rattle.definition.specs.Changes.{Change}
use Rattle.rounds.proofs.Walk.{carried_on, blind_is, walk_start, walk_frame, walk_turn, walk_weight, walk_difference, walk_end, room_for, count_none, count_turn, give_none, give_turn, unwritten, written}
use Rattle.rounds.proofs.silence_weighting.give_changes.Goals as goal

pub loop-offset-init : goal.loop-offset-init
loop-offset-init c =
    record {
      walking = walk_start _ _ _ _ _ _ _ _ _ _ c.walk_begin-begin.ensures refl (blind_is _ _ _ _ c.status.ensures c.is_none-blind.ensures) (c.before_weight-weight.ensures _ _);
      count = count_none _ _ _ _ _;
      weights_long = refl;
      frames_long = refl;
      changes_long = refl;
      known = refl;
      is_silence = refl;
      same_known = refl;
      same_silence = refl;
      same_weight = refl;
      written = put_none _ _ _;
      frames = give_none _ _ _ _ _ (λ (x : Change). x.0) _;
      weights = give_none _ _ _ _ _ (λ (x : Change). x.1) _;
    }

pub give-at-requires-clause-frames : goal.give-at-requires-clause-frames
give-at-requires-clause-frames c =
    let v = c.loop-offset.invariant in
    let q = carried_on _ _ _ _ _ _ _ _ c.next_weight-w.ensures v.known v.is_silence c.status-in-loop-offset.ensures in
    let d = walk_difference v.walking q (unwritten _ _ v.walking c.requires.longer c.requires.rooms.current_weight v.written c.weight.ensures) in
    let r = room_for v.walking _ _ _ _ c.loop-offset-test.true (count_turn _ _ _ _ _ _ _ _ _ _ (walk_frame v.walking q) v.count d refl) c.requires.enough in
    omega arith

pub give-at-requires-clause-weights : goal.give-at-requires-clause-weights
give-at-requires-clause-weights c =
    let v = c.loop-offset.invariant in
    let q = carried_on _ _ _ _ _ _ _ _ c.next_weight-w.ensures v.known v.is_silence c.status-in-loop-offset.ensures in
    let d = walk_difference v.walking q (unwritten _ _ v.walking c.requires.longer c.requires.rooms.current_weight v.written c.weight.ensures) in
    let r = room_for v.walking _ _ _ _ c.loop-offset-test.true (count_turn _ _ _ _ _ _ _ _ _ _ (walk_frame v.walking q) v.count d refl) c.requires.enough in
    omega arith

pub loop-offset-preserved : goal.loop-offset-preserved
loop-offset-preserved c =
    let v = c.loop-offset.invariant in
    let q = carried_on _ _ _ _ _ _ _ _ c.next_weight-w.ensures v.known v.is_silence c.status-in-loop-offset.ensures in
    let d = walk_difference v.walking q (unwritten _ _ v.walking c.requires.longer c.requires.rooms.current_weight v.written c.weight.ensures) in
    let g = c.give-at.ensures in
    record {
      walking = walk_turn v.walking q c.loop-offset-test.true;
      count = g.after ∙ count_turn _ _ _ _ _ _ _ _ _ _ (walk_frame v.walking q) v.count d refl;
      weights_long = simp length-set v.weights_long;
      frames_long = omega arith;
      changes_long = omega arith;
      known = v.known;
      is_silence = v.is_silence;
      same_known = v.same_known;
      same_silence = v.same_silence;
      same_weight = v.same_weight;
      written = put_turn _ _ _ _ (omega (arith, v.walking.out_is, v.walking.begin_is, c.loop-offset-test.true)) v.written (walk_weight v.walking q);
      frames = give_turn _ _ _ _ _ _ _ _ 0 _ (walk_frame v.walking q) v.count d (λ (x : Change). x.0) _ _ _ v.frames g.frames;
      weights = give_turn _ _ _ _ _ _ _ _ 0 _ (walk_frame v.walking q) v.count d (λ (x : Change). x.1) _ _ _ v.weights g.weights;
    }

pub returns-clause-count : goal.returns-clause-count
returns-clause-count c = c.loop-offset.invariant.count ∙ ap length (walk_end c.loop-offset.invariant.walking c.args.clock.subsampling c.args.clock.first c.loop-offset-test.false)

pub returns-clause-current_weight : goal.returns-clause-current_weight
returns-clause-current_weight c =
    let v = c.loop-offset.invariant in
    put_end _ _ _ _ _ v.walking.within c.loop-offset-test.false v.written ∙ written _ _ _ _ _ _ _ _ c.requires.longer v.walking.begin_is v.walking.out_is c.requires.rooms.current_weight

pub returns-clause-frames : goal.returns-clause-frames
returns-clause-frames c =
    c.loop-offset.invariant.frames
    ∙ ap (λ (z : List Change). over (map (λ (x : Change). x.0) z) c.args.frames.now) (walk_end c.loop-offset.invariant.walking c.args.clock.subsampling c.args.clock.first c.loop-offset-test.false)

pub returns-clause-weights : goal.returns-clause-weights
returns-clause-weights c =
    c.loop-offset.invariant.weights
    ∙ ap (λ (z : List Change). over (map (λ (x : Change). x.1) z) c.args.weights.now) (walk_end c.loop-offset.invariant.walking c.args.clock.subsampling c.args.clock.first c.loop-offset-test.false)
