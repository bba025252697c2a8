-- The loop's invariant: after i frames of the walk the count is the number of changes that the first i give.
use mathlib.Core.Path.{◌≡◌}
use Prim.Native.Nat.{◌*◌, ◌≤◌}
use lib.ListN.{length}
use Rattle.definition.specs.declared.InputFrame.{InputFrame}
use Rattle.rounds.specs.Inner.SilenceWeighting.{table_of, changes_to}
use Rattle.rounds.proofs.Walk.{Walking}
use Rattle.rounds.proofs.silence_weighting.count_changes.Given as goal

abbrev pub invariant-loop-offset : goal.invariant-loop-offset
invariant-loop-offset l =
    let z = l.rooms in
    record {
      walking : Walking l.s.length.0 z.known.now z.is_silence.now z.current_weight.now l.s.silence_weight l.n.0 l.begin.0 l.frames_out l.blind l.weight l.offset;
      counted : (first : InputFrame)
          → l.count ≡ length (changes_to l.s.silence_weight l.s.subsampling first l.n.0 (table_of l.s.length.0 z.known.now z.is_silence.now z.current_weight.now) l.offset);
      few : l.count ≤ 16 * l.offset;
    }
