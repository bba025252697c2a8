-- Laws of a sum over a list.
use Rattle.std.proofs.Common.{◌≡◌, ℕ, List, [], ◌∷◌, ◌++◌, sym, refl, ◌∙◌}
use mathlib.Core.List.{foldl}
use lib.Ieee.{Float}
use Rattle.loops.specs.Lists.{build}
use Rattle.loops.proofs.Folds.{iter_foldl}
use Rattle.floats.specs.Operators.{◌+₆₄◌, sum₆₄, total₆₄}

pub total_append : (s : Float) (xs ys : List Float) → total₆₄ s (xs ++ ys) ≡ total₆₄ (total₆₄ s xs) ys
total_append s [] ys = refl
total_append s (x ∷ xs) ys = total_append (s +₆₄ x) xs ys

total_foldl : (s : Float) (xs : List Float) → total₆₄ s xs ≡ foldl ◌+₆₄◌ s xs
total_foldl s [] = refl
total_foldl s (x ∷ xs) = total_foldl (s +₆₄ x) xs

-- a sum by index
pub sum_total : (s : Float) (n : ℕ) (f : ℕ → Float) → sum₆₄ s n f ≡ total₆₄ s (build n f)
sum_total s n f = iter_foldl ◌+₆₄◌ f n s ∙ sym (total_foldl s (build n f))
