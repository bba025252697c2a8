-- The loop's invariant of `stream_refusals::put_frame`: after d turns the first d numbers are put.
use mathlib.Core.Path.{◌≡◌}
use lib.ListN.{length}
use Rattle.floats.specs.Operators.{at}
use Rattle.loops.specs.Lists.{build}
use Rattle.loops.specs.Ring.{put}
use Rattle.stream.proofs.stream_refusals.put_frame.Given as goal

abbrev pub invariant-loop-d : goal.invariant-loop-d
invariant-loop-d l = (length l.frames ≡ length l.initial.frames) × (l.frames ≡ put l.a (build l.d (at l.frame)) l.initial.frames)
