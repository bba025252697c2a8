-- What the contracts say besides the definition: `Fair` of the rooms that a caller lends, and the walks over log-likelihoods.
use Rattle.std.specs.Prelude.{◌≡◌, Option, None, Some, Bool, true, false, ℕ, ◌<◌, ◌≤◌, get_or, Float, if◌then◌else◌}
use mathlib.Core.List.{List, [], ◌∷◌, map, foldl}
use Rattle.std.specs.Float.{inf}
use Rattle.std.specs.Float.Ieee.{lt}
use Rattle.floats.specs.Operators.{◌-₃₂◌}
use Rattle.floats.specs.Exp.{exp_of}
use Rattle.definition.specs.Posteriors.{Post}

-- of log-likelihoods, the likelihoods
abbrev pub likelihoods : Float → List Post → List Post
likelihoods largest ps = map (λ p. (p.0, exp_of (p.1 -₃₂ largest))) ps

-- the first r places of a room hold numbers below n, none of them twice
pub record Fair (n r : ℕ) (chosen : List ℕ) : Type 0 where
  pub below : (k : ℕ) → k < r → get_or chosen k 0 < n
  pub once : (j k : ℕ) → j < k → k < r → get_or chosen j 0 ≡ get_or chosen k 0 → ⊥

-- whether a log-likelihood passes: all do where there is no cutoff
abbrev pub passes : Option Float → Float → Bool
passes None l = true
passes (Some cutoff) l = lt cutoff l

-- the place that was found, or the end
abbrev pub place_or : ℕ → Option ℕ → ℕ
place_or end None = end
place_or end (Some k) = k

-- r is the first place from g on where a test holds, or n where none does below it
pub record Next (test : ℕ → Bool) (g n r : ℕ) : Type 0 where
  pub from : g ≤ r
  pub most : r ≤ n
  pub none : (k : ℕ) → k < r → g ≤ k → test k ≡ false
  pub here : r < n → test r ≡ true

-- the larger of two, of equal ones the first
abbrev pub above : Float → Float → Float
above m l = if lt m l then l else m

abbrev pub least : Float
least = inf true

-- the largest of m and a list: of equal ones the first, and a NaN is passed over
unfoldable pub top : Float → List Float → Float
top m ls = foldl above m ls

-- the larger of m and each list's largest, list by list
unfoldable pub joined : Float → List (List Float) → Float
unfolding top
joined m [] = m
joined m (xs ∷ rest) = joined (above m (top least xs)) rest
