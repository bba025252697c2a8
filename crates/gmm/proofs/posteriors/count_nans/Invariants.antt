-- The loop's invariant of `posteriors::count_nans`: what is counted, and what is left from g on, are together the list's count.
use mathlib.Core.Path.{◌≡◌}
use Prim.Native.Nat.{◌+◌, ◌≤◌}
use lib.ListN.{drop}
use Rattle.definition.specs.Posteriors.{nan_count}
use Rattle.gmm.proofs.posteriors.count_nans.Given as goal

abbrev pub invariant-loop-g : goal.invariant-loop-g
invariant-loop-g l = (l.nans ≤ l.g) × (l.nans + nan_count (drop l.g l.loglikes) ≡ nan_count l.loglikes)
