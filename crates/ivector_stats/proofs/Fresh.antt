-- What rooms of zeros become where statistics or a vector are made.
use mathlib.Core.Path.{◌≡◌, ap, ◌∙◌}
use mathlib.Core.List.{List}
use Prim.Native.Nat.{ℕ, ◌<◌}
use lib.ListN.{set, replicate}
use lib.Ieee.{Float, nan}
use Rattle.loops.proofs.Build.{build_same, at_build}
use Rattle.floats.specs.Operators.{◌+₆₄◌, zero₆₄, one₆₄, at}
use Rattle.definition.specs.Kaldi.{triangle}
use Rattle.definition.specs.Statistics.{add_diagonal, new_stats}
use Rattle.definition.specs.Solve.{prior_vector}

zeros_at : (n k : ℕ) → k < n → at (replicate n zero₆₄) k ≡ zero₆₄
zeros_at n k h = rw (← build_same n zero₆₄) (at_build nan n _ k h)

module _ (s : ℕ) (prior : Float) {x : List Float} {n : ℕ} (e : x ≡ replicate n zero₆₄) where
  pub fresh_linear : 0 < s → n ≡ s → set x 0 (at x 0 +₆₄ prior) ≡ (new_stats s prior).linear
  unfolding new_stats
  fresh_linear h l = rw (e, l, zeros_at s 0 h)

  pub fresh_quadratic : {y : List Float} → n ≡ triangle s → y ≡ add_diagonal s one₆₄ x → y ≡ (new_stats s prior).quadratic
  unfolding new_stats
  fresh_quadratic l f = f ∙ ap (add_diagonal s one₆₄) (e ∙ ap (λ (n : ℕ). replicate n zero₆₄) l)

  pub fresh_vector : n ≡ s → set x 0 prior ≡ prior_vector s prior
  unfolding prior_vector
  fresh_vector l = rw (e, l)
