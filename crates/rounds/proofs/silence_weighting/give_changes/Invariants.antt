-- The loop's invariant: after i frames of the walk the weights of the first i are written, and their changes stand at the fronts of the two
-- lists.
use mathlib.Core.Path.{◌≡◌}
use Prim.Native.Nat.{suc}
use lib.ListN.{length}
use mathlib.Core.List.{map}
use Rattle.loops.specs.Lists.{build, over}
use Rattle.loops.specs.Ring.{put}
use Rattle.definition.specs.Changes.{Change}
use Rattle.definition.specs.Silence.{walked}
use Rattle.rounds.specs.Inner.SilenceWeighting.{table_of, changes_to}
use Rattle.rounds.proofs.Walk.{Walking}
use Rattle.rounds.proofs.silence_weighting.give_changes.Given as goal

abbrev pub invariant-loop-offset : goal.invariant-loop-offset
invariant-loop-offset l =
    let z = l.initial.rooms in
    let t = table_of l.s.length.0 z.known.now z.is_silence.now z.current_weight.now in
    let given = changes_to l.s.silence_weight l.clock.subsampling l.clock.first l.n.0 t l.offset in
    record {
      walking : Walking l.s.length.0 z.known.now z.is_silence.now z.current_weight.now l.s.silence_weight l.n.0 l.begin.0 l.frames_out l.blind l.weight l.offset;
      count : l.at ≡ length given;
      weights_long : length l.rooms.current_weight.now ≡ length z.current_weight.now;
      frames_long : length l.frames ≡ length l.initial.frames;
      changes_long : length l.weights ≡ length l.initial.weights;
      known : l.rooms.known.now ≡ z.known.now;
      is_silence : l.rooms.is_silence.now ≡ z.is_silence.now;
      same_known : l.rooms.known.ghost_name ≡ z.known.ghost_name;
      same_silence : l.rooms.is_silence.ghost_name ≡ z.is_silence.ghost_name;
      same_weight : l.rooms.current_weight.ghost_name ≡ z.current_weight.ghost_name;
      written : l.rooms.current_weight.now ≡ put l.begin.0 (build l.offset (λ j. walked l.s.silence_weight t (suc j))) z.current_weight.now;
      frames : l.frames ≡ over (map (λ (x : Change). x.0) given) l.initial.frames;
      weights : l.weights ≡ over (map (λ (x : Change). x.1) given) l.initial.weights;
    }
