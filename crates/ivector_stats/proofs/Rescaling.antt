-- The prior's scaling, by its tests.
use mathlib.Core.Path.{◌≡◌}
use mathlib.Core.Bool.{true, false}
use mathlib.Core.List.{List}
use Prim.Native.Nat.{ℕ}
use lib.ListN.{set}
use lib.Ieee.{Float, lt, ne}
use Rattle.floats.specs.Operators.{◌+₆₄◌, ◌-₆₄◌, ◌*₆₄◌, ◌/₆₄◌, zero₆₄, at}
use Rattle.floats.specs.Extremes.{larger}
use Rattle.definition.specs.Statistics.{add_diagonal, rescaled}
use Rattle.ivector_stats.specs.Inner.{stats_in}

module _ (s : ℕ) (prior max_count tot n : Float) (linear quadratic : List Float) where
  pub rescaled_never : lt zero₆₄ max_count ≡ false → stats_in (n +₆₄ tot) linear quadratic ≡ rescaled s prior max_count tot (stats_in n linear quadratic)
  unfolding rescaled
  rescaled_never p = rw p

  -- the scales, as code has them
  module _ (new old : Float) (e : new ≡ larger (n +₆₄ tot) max_count /₆₄ max_count) (f : old ≡ larger n max_count /₆₄ max_count) (p : lt zero₆₄ max_count ≡ true) where
    pub rescaled_same : ne (new -₆₄ old) zero₆₄ ≡ false → stats_in (n +₆₄ tot) linear quadratic ≡ rescaled s prior max_count tot (stats_in n linear quadratic)
    unfolding rescaled
    rescaled_same q = rw (← e, ← f, p, q)

    pub rescaled_more : {y : List Float} → ne (new -₆₄ old) zero₆₄ ≡ true → y ≡ add_diagonal s (new -₆₄ old) quadratic
        → stats_in (n +₆₄ tot) (set linear 0 (at linear 0 +₆₄ prior *₆₄ (new -₆₄ old))) y ≡ rescaled s prior max_count tot (stats_in n linear quadratic)
    unfolding rescaled
    rescaled_more q h = rw (← e, ← f, p, q, h)
