-- The solve, by its tests.
use Rattle.std.specs.Prelude.{if◌then◌else◌}
use mathlib.Core.Path.{◌≡◌, ap, ◌∙◌}
use mathlib.Core.Bool.{true, false}
use mathlib.Core.List.{List}
use Prim.Native.Nat.{ℕ}
use lib.ListN.{set}
use lib.Ieee.{Float, lt, eq}
use Rattle.loops.proofs.Choose.{choose_true, choose_false}
use Rattle.floats.specs.Operators.{zero₆₄, at}
use Rattle.definition.specs.Solve.{linear_cgd, prior_vector, get_ivector}
use Rattle.ivector_stats.specs.Inner.{stats_in}

module _ (n : ℕ) (prior : Float) (iters : ℕ) (count : Float) (linear quadratic current : List Float) {y : List Float} where
  pub solved : {x : List Float} → lt zero₆₄ count ≡ true → x ≡ (if eq (at current 0) zero₆₄ then set current 0 prior else current) → y ≡ linear_cgd quadratic n linear x iters
      → y ≡ get_ivector n prior iters (stats_in count linear quadratic) current
  unfolding get_ivector
  solved p e f = choose_true _ p (f ∙ ap (λ (x : List Float). linear_cgd quadratic n linear x iters) e)

  pub not_solved : lt zero₆₄ count ≡ false → y ≡ prior_vector n prior → y ≡ get_ivector n prior iters (stats_in count linear quadratic) current
  unfolding get_ivector
  not_solved p e = choose_false _ p e
