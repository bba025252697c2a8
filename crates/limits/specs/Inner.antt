-- What inner functions leave.
use Rattle.std.specs.Prelude.{ℕ, ◌-◌, Bool, not, ◌||◌, List, ltb, drop}
use Rattle.loops.specs.Lists.{any_of, any_true}
use Rattle.definition.specs.declared.IvectorStream.{IvectorStream}
use Rattle.definition.specs.Stream.{rising, breaks}

-- the last two of `breaks`
unfoldable pub waiting_broken : List ℕ → ℕ → ℕ → Bool
waiting_broken held left mark = not (rising 0 held) || any_of (λ f. ltb (f - left) mark) held

-- all of `breaks` but the first two
unfoldable pub counts_broken : IvectorStream → List ℕ → Bool
counts_broken s waiting = any_true (drop 2 (breaks s waiting))
