-- What loops in code leave: words of contracts, on which no promise rests.
use Rattle.std.specs.Prelude.{Bool, true, false, List, ◌++◌, ℕ, ◌+◌, ◌-◌, drop}
use Rattle.loops.specs.Loop.{iter, Out, on, off}
use Rattle.loops.specs.Lists.{build}

-- a room with f 0, f 1, .., f (n - 1) in its first n places
unfoldable pub fill : {A : Type 0} → ℕ → (ℕ → A) → List A → List A
fill n f x = build n f ++ drop n x

-- `for i in a..e { s = f(i, s) }`
unfoldable pub from : {S : Type 0} → ℕ → ℕ → (ℕ → S → S) → S → S
from a e f s = iter (e - a) (λ t. f (a + t)) s

-- `on` or `off` by a Bool, as code returns it
abbrev pub done : {S : Type 0} → Bool → S → Out S
done true s = on s
done false s = off s
