-- Laws of the list of changes that two rooms hold.
use mathlib.Core.Path.{◌≡◌, refl, sym, ◌∙◌}
use mathlib.Core.List.{List}
use Prim.Native.Nat.{ℕ, ◌≤◌, ◌<◌}
use lib.ListN.{length, get_or, take, length-map, get_or-map}
use lib.Ieee.{Float, nan}
use Rattle.loops.specs.Lists.{over}
use Rattle.loops.proofs.Build.{length_build, build_is, take_build, build_take, map-build}
use Rattle.loops.proofs.Fill.{over_at}
use Rattle.floats.specs.Operators.{at}
use Rattle.definition.specs.Changes.{Change}
use Rattle.program.specs.Rooms.{waiting_in, frames_of, weights_of}

module _ (n : ℕ) (fs : List ℕ) (ws : List Float) where
  pub length_waiting : length (waiting_in n fs ws) ≡ n
  unfolding waiting_in
  length_waiting = length_build n _

  pub frames_waiting : n ≤ length fs → frames_of (waiting_in n fs ws) ≡ take n fs
  unfolding waiting_in
  frames_waiting h = map-build _ n _ ∙ build_take 0 n fs h

  pub weights_waiting : n ≤ length ws → weights_of (waiting_in n fs ws) ≡ take n ws
  unfolding waiting_in
  weights_waiting h = map-build _ n _ ∙ build_take nan n ws h

  -- the first k of them
  pub take_waiting : (k : ℕ) → k ≤ n → take k (waiting_in n fs ws) ≡ waiting_in k fs ws
  unfolding waiting_in
  take_waiting k h = take_build k n _ h

-- what was laid over the rooms stands there
pub waiting_over : (xs : List Change) (fs : List ℕ) (ws : List Float) → waiting_in (length xs) (over (frames_of xs) fs) (over (weights_of xs) ws) ≡ xs
unfolding waiting_in
waiting_over xs fs ws =
    sym (build_is (0, nan) (length xs) _ xs refl
    (λ k p.
    let f : k < length (frames_of xs) = rw length-map p in
    let g : k < length (weights_of xs) = rw length-map p in
    let e : get_or (over (frames_of xs) fs) k 0 ≡ (get_or xs k (0, nan)).0 = over_at 0 (frames_of xs) fs k f ∙ get_or-map _ xs k (0, nan) in
    let h : at (over (weights_of xs) ws) k ≡ (get_or xs k (0, nan)).1 = over_at nan (weights_of xs) ws k g ∙ get_or-map _ xs k (0, nan) in
    rw (e, h)))
