-- Words of inner contracts: the two terms after some slots.
use Rattle.std.specs.Prelude.{ℕ, ◌+◌, ◌*◌, List, get_or, Float}
use Rattle.loops.specs.Lists.{build}
use Rattle.floats.specs.Operators.{◌*₆₄◌, zero₆₄, at, sum₆₄}
use Rattle.definition.specs.Statistics.{Stats}

-- what the weighted features x of Gaussian g add to element c of the linear statistics
abbrev pub linear_term : ℕ → ℕ → List Float → ℕ → (ℕ → Float) → ℕ → Float
linear_term d s sigma_inv_m g x c = sum₆₄ zero₆₄ d (λ a. at sigma_inv_m ((g * d + a) * s + c) *₆₄ x a)

-- the statistics after the first m slots
abbrev pub linear_over : ℕ → ℕ → List Float → List ℕ → List Float → List Float → ℕ → List Float
linear_over d s sigma_inv_m gs sum linear m = build s (λ c. sum₆₄ (at linear c) m (λ k. linear_term d s sigma_inv_m (get_or gs k 0) (λ a. at sum (k * d + a)) c))

abbrev pub quadratic_over : ℕ → List Float → List ℕ → List Float → List Float → ℕ → List Float
quadratic_over n u gs tot quadratic m = build n (λ i. sum₆₄ (at quadratic i) m (λ k. at tot k *₆₄ at u (get_or gs k 0 * n + i)))

-- what the frame count and two rooms hold
abbrev pub stats_in : Float → List Float → List Float → Stats
stats_in n linear quadratic = record { num_frames = n; linear = linear; quadratic = quadratic }
