-- The changes of a decoder frame in the answer's list of frames: after j turns the first j of them stand there.
use mathlib.Core.Path.{◌≡◌}
use lib.ListN.{length}
use Rattle.loops.specs.Lists.{build}
use Rattle.loops.specs.Ring.{put}
use Rattle.definition.specs.Silence.{input_frame}
use Rattle.rounds.proofs.silence_weighting.give.Given as goal

abbrev pub invariant-loop-j : goal.invariant-loop-j
invariant-loop-j l = record {
  long : length l.frames ≡ length l.initial.frames;
  so_far : l.frames ≡ put l.at (build l.j (λ i. (input_frame l.clock.subsampling l.clock.first l.k i).0)) l.initial.frames;
}
