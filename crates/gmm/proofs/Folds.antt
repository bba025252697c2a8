-- A fold of the library, sums by index, and what stands in a front part.
use Rattle.std.specs.List.{fold}
use mathlib.Core.Path.{◌≡◌, refl, sym, ap, ◌∙◌}
use mathlib.Core.List.{List, [], ◌∷◌, ◌++◌, foldl}
use Prim.Native.Nat.{ℕ, ◌≤◌}
use lib.ListN.{length, take, drop}
use lib.Seq.{length-take-le, get_or-take}
use lib.Ieee.{Float, nan}
use Rattle.loops.specs.Lists.{build}
use Rattle.loops.specs.Inner.{fill}
use Rattle.loops.proofs.Build.{build_list, build_ext}
use Rattle.loops.proofs.Fill.{fill_whole}
use Rattle.loops.proofs.Folds.{iter_foldl}
use Rattle.loops.proofs.Loop.{iter_ext}
use Rattle.floats.specs.Operators.{◌+₃₂◌, ◌*₃₂◌, at, sum₃₂}

pub fold_is : {A B : Type 0} (f : B → A → B) (b : B) (xs : List A) → fold f b xs ≡ foldl f b xs
fold_is f b [] = refl
fold_is f b (x ∷ xs) = fold_is f (f b x) xs

pub fold_sum : (s : Float) (xs : List Float) → fold ◌+₃₂◌ s xs ≡ sum₃₂ s (length xs) (at xs)
fold_sum s xs = fold_is ◌+₃₂◌ s xs ∙ sym (iter_foldl ◌+₃₂◌ (at xs) (length xs) s ∙ ap (foldl ◌+₃₂◌ s) (build_list nan xs))

-- of the first n
pub front_sum : (s : Float) (n : ℕ) (xs : List Float) {t : Float} → n ≤ length xs → t ≡ sum₃₂ s (length (take n xs)) (at (take n xs)) → t ≡ sum₃₂ s n (at xs)
front_sum s n xs h e =
    e ∙ ap (λ (m : ℕ). sum₃₂ s m (at (take n xs))) (length-take-le n xs h) ∙ iter_ext n _ _ s (λ k p v. ap (λ (x : Float). v +₃₂ x) (get_or-take n xs k nan p))

-- the first n scaled, as their part is
pub front_scaled : (v : Float) (n : ℕ) (xs : List Float) {ys : List Float} → n ≤ length xs → ys ≡ fill (length (take n xs)) (λ k. at (take n xs) k *₃₂ v) (take n xs)
    → ys ++ drop n xs ≡ fill n (λ k. at xs k *₃₂ v) xs
unfolding fill
front_scaled v n xs h e =
    let l = length-take-le n xs h in
    ap (λ (ys : List Float). ys ++ drop n xs)
    (e ∙ fill_whole _ _ (take n xs) refl ∙ ap (λ (m : ℕ). build m (λ k. at (take n xs) k *₃₂ v)) l ∙ build_ext n _ _ (λ k p. ap (λ (x : Float). x *₃₂ v) (get_or-take n xs k nan p)))
