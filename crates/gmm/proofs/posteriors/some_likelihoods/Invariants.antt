-- The loops' invariants of `posteriors::some_likelihoods`: the arguments of the first i, what the exponentials of the first j are narrowed from, and the
-- likelihoods of the first k.
use mathlib.Core.Path.{◌≡◌}
use Prim.Native.Nat.{ℕ, ◌+◌, ◌≤◌, ◌<◌}
use lib.ListN.{length}
use Rattle.floats.specs.Operators.{◌/₆₄◌, at, as_f64}
use Rattle.floats.specs.Exp.{wide_exp}
use Rattle.gmm.specs.Inner.PosteriorsRooms.{Likely}
use Rattle.gmm.proofs.posteriors.some_likelihoods.Given as goal

abbrev pub invariant-loop-i : goal.invariant-loop-i
invariant-loop-i l = (length l.wide ≡ 16) × ((m : ℕ) → m < l.i → at l.wide m ≡ at l.likes (l.first + m) /₆₄ as_f64 128)

abbrev pub invariant-loop-j : goal.invariant-loop-j
invariant-loop-j l = (length l.wide ≡ 16) × ((m : ℕ) → m < l.j → at l.wide m ≡ wide_exp (at l.likes (l.first + m) /₆₄ as_f64 128))
    × ((m : ℕ) → l.j ≤ m → m < l.n → at l.wide m ≡ at l.likes (l.first + m) /₆₄ as_f64 128)

abbrev pub invariant-loop-k : goal.invariant-loop-k
invariant-loop-k l = (l.k ≤ l.n) × (length l.likes ≡ length l.initial.likes) × Likely l.first (l.first + l.k) l.initial.likes l.likes
