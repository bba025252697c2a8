-- The loop's invariant: the sum of k squared differences, turn by turn.
use mathlib.Core.Path.{◌≡◌}
use mathlib.Core.List.{List}
use Prim.Native.Nat.{ℕ, ◌+◌, ◌-◌, ◌*◌, ◌≤◌}
use lib.ListN.{get_or}
use lib.Ieee.{Float}
use Rattle.loops.specs.Loop.{iter}
use Rattle.floats.specs.Operators.{◌+₃₂◌, ◌-₃₂◌, ◌*₃₂◌, f32, zero₃₂}
use Rattle.rounds.proofs.nearest_voice.distance.Given as goal

abbrev pub turn : ℕ → List ℕ → List ℕ → ℕ → ℕ → Float → Float
turn n v e i k a = let d = f32 (get_or v k 0) -₃₂ f32 (get_or e (i * n + k) 0) in a +₃₂ d *₃₂ d

abbrev pub invariant-loop-k : goal.invariant-loop-k
invariant-loop-k l = (l.k ≤ l.dim) × (l.from ≡ l.i * l.dim) × (l.sum ≡ iter l.k (turn l.dim l.vector l.enrolled l.i) zero₃₂)

abbrev pub decreases-loop-k : goal.decreases-loop-k
decreases-loop-k l = l.dim - l.k
