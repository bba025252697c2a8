-- The loop's invariant of `posteriors::largest_in_turn`: the largest so far, folded over what is left, is the fold over all.
use mathlib.Core.Path.{◌≡◌}
use lib.ListN.{drop}
use Rattle.gmm.specs.Inner.Posteriors.{top}
use Rattle.gmm.proofs.posteriors.largest_in_turn.Given as goal

abbrev pub invariant-loop-g : goal.invariant-loop-g
invariant-loop-g l = top l.max_like (drop l.g l.loglikes) ≡ top l.m l.loglikes
