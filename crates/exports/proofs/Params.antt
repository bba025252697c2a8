-- The parameters of a model at f32 and at f64: each number stands for itself.
use mathlib.Core.Path.{◌≡◌}
use mathlib.Core.List.{List, map, map-id}
use lib.Ieee.{Float}
use Rattle.writer.specs.declared.model_bytes.ModelSizes.{ModelSizes}
use Rattle.writer.specs.Written.{params_from}

pub as_they_are : (z : ModelSizes) (weights means_invvars inv_vars m sigma_inv : List Float) (prior_offset : Float) (lda : List Float)
    → params_from z (map (λ x. x) weights) (map (λ x. x) means_invvars) (map (λ x. x) inv_vars) (map (λ x. x) m) (map (λ x. x) sigma_inv) prior_offset (map (λ x. x) lda)
    ≡ params_from z weights means_invvars inv_vars m sigma_inv prior_offset lda
as_they_are z weights means_invvars inv_vars m sigma_inv prior_offset lda =
    rw (map-id weights, map-id means_invvars, map-id inv_vars, map-id m, map-id sigma_inv, map-id lda)
