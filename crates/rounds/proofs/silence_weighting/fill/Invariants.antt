-- The loop's invariant: after i turns the first i places from `a` on hold the value.
use mathlib.Core.Path.{◌≡◌}
use Prim.Native.Nat.{◌≤◌}
use lib.ListN.{length}
use Rattle.loops.specs.Lists.{build}
use Rattle.loops.specs.Ring.{put}
use Rattle.rounds.proofs.silence_weighting.fill.Given as goal

abbrev pub invariant-loop-i : goal.invariant-loop-i
invariant-loop-i g l = record {
  upto : l.i ≤ l.n;
  long : length l.room ≡ length l.initial.room;
  filled : l.room ≡ put l.a (build l.i (λ j. l.v)) l.initial.room;
}
