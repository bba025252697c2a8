-- The loop's invariant of `leading::order`: the first j candidates are put in.
use mathlib.Core.Path.{◌≡◌}
use Prim.Native.Nat.{◌≤◌}
use lib.ListN.{take}
use Rattle.gmm.specs.Inner.LeadingRooms.{SameChosen}
use Rattle.gmm.specs.Inner.Leading.{posts_in, into, Falling}
use Rattle.gmm.proofs.leading.order.Given as goal

abbrev pub invariant-loop-j : goal.invariant-loop-j
invariant-loop-j l = record {
  most : l.count ≤ l.num_gselect;
  same : SameChosen l.initial.chosen l.chosen;
  in_order : Falling l.count l.chosen.posts.now;
  put_in : posts_in l.count l.chosen.gauss.now l.chosen.posts.now ≡ take l.num_gselect (into (posts_in l.already l.initial.chosen.gauss.now l.initial.chosen.posts.now) (posts_in l.j l.gauss l.posts));
}
