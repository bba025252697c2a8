-- The loop's invariant of `posteriors::gather_many`: what is held leads to the first of those that pass in front of g.
use mathlib.Core.Path.{◌≡◌}
use Prim.Native.Nat.{◌-◌, ◌≤◌}
use lib.ListN.{length}
use Rattle.gmm.specs.Inner.LeadingRooms.{SameChosen, HoldingIn, leading_of}
use Rattle.gmm.proofs.Gathering.{gathered}
use Rattle.gmm.proofs.posteriors.gather_many.Given as goal

abbrev pub invariant-loop-g : goal.invariant-loop-g
invariant-loop-g l = record {
  upto : l.g ≤ length l.loglikes;
  room : l.holding.candidates ≤ 48;
  long : length l.gauss ≡ 64;
  long2 : length l.likes ≡ 64;
  same : SameChosen l.initial.chosen l.chosen;
  holds : HoldingIn l.num_gselect l.holding l.gauss l.likes l.chosen;
  leading : leading_of l.num_gselect l.holding l.gauss l.likes l.chosen ≡ gathered l.num_gselect l.cutoff l.max_like l.loglikes l.g;
}

abbrev pub decreases-loop-g : goal.decreases-loop-g
decreases-loop-g l = length l.loglikes - l.g
