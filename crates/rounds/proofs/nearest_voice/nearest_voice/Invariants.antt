-- The loop's invariant: before index i, `index` is the lowest of least distance among those up to i - 1.
use mathlib.Core.Path.{◌≡◌}
use Prim.Native.Nat.{◌-◌, ◌≤◌}
use Rattle.rounds.specs.Voice.{distance, least}
use Rattle.rounds.proofs.nearest_voice.nearest_voice.Given as goal

abbrev pub invariant-loop-i : goal.invariant-loop-i
invariant-loop-i l = let f = distance l.dim l.vector l.enrolled in (1 ≤ l.i) × (l.i ≤ l.count) × (l.index ≡ least f (l.i - 1)) × (l.shortest ≡ f l.index)

abbrev pub decreases-loop-i : goal.decreases-loop-i
decreases-loop-i l = l.count - l.i
