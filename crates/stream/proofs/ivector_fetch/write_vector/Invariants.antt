-- The loop's invariant: the first i places of the output have their bits, and `bad` counts those of the first i elements that are not
-- finite.
use mathlib.Core.Path.{◌≡◌}
use Prim.Native.Nat.{◌-◌, ◌≤◌}
use lib.ListN.{length}
use lib.Ieee.{binary32, to_bits}
use Rattle.loops.specs.Lists.{build}
use Rattle.loops.specs.Inner.{fill}
use Rattle.floats.specs.Operators.{at}
use Rattle.definition.specs.Machine.{not_finite}
use Rattle.stream.specs.Inner.IvectorFetch.{fetched_at}
use Rattle.stream.proofs.ivector_fetch.write_vector.Given as goal

abbrev pub invariant-loop-i : goal.invariant-loop-i
invariant-loop-i l = (l.i ≤ length l.initial.out)
    × (length l.out ≡ length l.initial.out)
    × (l.out ≡ fill l.i (λ k. to_bits binary32 (fetched_at l.prior_offset k (at l.current k))) l.initial.out)
    × (l.bad ≡ not_finite (build l.i (λ k. fetched_at l.prior_offset k (at l.current k))))
    × (l.bad ≤ l.i)

abbrev pub decreases-loop-i : goal.decreases-loop-i
decreases-loop-i l = length l.initial.out - l.i
