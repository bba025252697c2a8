-- The loop's invariant of `posteriors::gather_few`: held are the first of those that pass in front of g.
use mathlib.Core.Path.{◌≡◌}
use Prim.Native.Nat.{◌≤◌}
use Rattle.gmm.specs.Inner.LeadingRooms.{SameChosen}
use Rattle.gmm.specs.Inner.Leading.{posts_in}
use Rattle.gmm.proofs.Gathering.{gathered}
use Rattle.gmm.proofs.posteriors.gather_few.Given as goal

abbrev pub invariant-loop-g : goal.invariant-loop-g
invariant-loop-g l = record {
  most : l.n ≤ l.num_gselect;
  same : SameChosen l.initial.chosen l.chosen;
  are_held : posts_in l.n l.chosen.gauss.now l.chosen.posts.now ≡ gathered l.num_gselect l.cutoff l.max_like l.loglikes l.g;
}
