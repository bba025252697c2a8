-- How many NaNs a batch can have: no more than Gaussians for each of its frames.
use mathlib.Core.Path.{◌≡◌}
use mathlib.Core.Bool.{Bool}
use mathlib.Core.List.{List, [], ◌∷◌}
use Prim.Native.Nat.{ℕ, ◌*◌, ◌≤◌}
use native.Mathlib.Nat.{mul-le-mul}
use native.Mathlib.Omega.{arith}
use lib.ListN.{length}
use lib.Ieee.{Float, is_nan}
use Rattle.loops.specs.Lists.{those}
use Rattle.loops.proofs.Choose.{by-test}
use Rattle.loops.proofs.Build.{length_build}
use Rattle.definition.specs.declared.FrameWeight.{FrameWeight}
use Rattle.definition.specs.declared.FrameWeight.TheVariants.{Skipped, Weighed}
use Rattle.definition.specs.Model.{Model}
use Rattle.definition.specs.Views.{Frames}
use Rattle.definition.specs.Posteriors.{loglikes, nan_count, nans_of}
use Rattle.definition.specs.Changes.{Batch}
use Rattle.definition.specs.Estimate.{heard, nans_over}

those-few : {A : Type 0} (p : A → Bool) (xs : List A) → length (those p xs) ≤ length xs
unfolding those
those-few p [] = omega arith
those-few p (x ∷ xs) = by-test (p x) (λ e. rw e (omega (arith, those-few p xs))) (λ e. rw e (omega (arith, those-few p xs)))

frame-few : (w : FrameWeight) (ls : List Float) → nans_of w ls ≤ length ls
unfolding nans_of nan_count
frame-few Skipped ls = omega arith
frame-few (Weighed floor scale) ls = those-few is_nan ls

module _ (M : Model) (F : Frames) where
  abbrev g : ℕ
  g = M.info.dims.num_gauss

  likes_long : (t : ℕ) (c : List Float) → length (heard M F t c).1 ≡ g
  unfolding loglikes
  likes_long t c = length_build g _

  batch_few : (bs : Batch) (c : List Float) → nans_over M F bs c ≤ g * length bs
  unfolding nans_over
  batch_few [] c = omega arith
  batch_few (b ∷ bs) c =
      let now = frame-few b.1 (heard M F b.0 c).1 in
      let later = batch_few bs (heard M F b.0 c).0 in
      omega (arith, now, later, likes_long b.0 c)

  -- of at most 1,024 Gaussians and 10^9 frames
  pub nans_few : (bs : Batch) (c : List Float) → g ≤ 1024 → length bs ≤ 1000000000 → nans_over M F bs c ≤ 1024000000000
  nans_few bs c p q = omega (arith, batch_few bs c, mul-le-mul p q)
