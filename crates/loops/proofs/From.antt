-- A counted loop from a start: after the turns below it, it ends where the whole loop ends.
use mathlib.Core.Path.{◌≡◌, sym, ap, ◌∙◌}
use Prim.Native.Nat.{ℕ, ◌+◌, ◌-◌, ◌≤◌}
use native.Mathlib.Omega.{arith}
use Rattle.loops.specs.Loop.{iter}
use Rattle.loops.specs.Inner.{from}
use Rattle.loops.proofs.Loop.{iter_add}

-- the turns below a, then those from a on
pub from-after : {S : Type 0} (a : ℕ) (f : ℕ → S → S) (s : S) (n : ℕ) → a ≤ n → from a n f (iter a f s) ≡ iter n f s
unfolding from
from-after a f s n h = let e : a + (n - a) ≡ n = omega arith in sym (iter_add f s a (n - a)) ∙ ap (λ (k : ℕ). iter k f s) e
