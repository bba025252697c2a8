-- How a call that may be refused is written.
use Rattle.std.specs.Prelude.{Bool, List, [], ◌∷◌, ℕ, zero, suc, if◌then◌else◌}

-- the number of the first test that holds, in checking order; 0 where none does
unfoldable pub first_of : List (Bool × ℕ) → ℕ
first_of [] = 0
first_of (t ∷ ts) = let rest = first_of ts in if t.0 then t.1 else rest

-- what a call leaves: the new value where its refusal number is 0, else the old one
abbrev pub taken : {A : Type 0} → ℕ → A → A → A
taken zero new old = new
taken (suc r) new old = old
