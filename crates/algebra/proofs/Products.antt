-- Two lists side by side, by index, as an iterator goes over them; and sums over them.
use Rattle.std.specs.Prelude.{min}
use Rattle.std.specs.List.{zip, fold}
use Rattle.std.proofs.lemmas.List.Folds.{fold-map}
use mathlib.Core.Path.{◌≡◌, refl, sym, ap, ◌∙◌}
use mathlib.Core.List.{List, [], ◌∷◌, foldl, map}
use Prim.Native.Nat.{ℕ, zero, suc}
use native.Mathlib.Omega.{arith}
use lib.ListN.{length, get_or}
use lib.Ieee.{Float, Format, nan, add, mul}
use Rattle.loops.specs.Loop.{iter}
use Rattle.loops.specs.Lists.{build}
use Rattle.loops.proofs.Folds.{iter_foldl}

pub fold_is : {A B : Type 0} (f : B → A → B) (b : B) (xs : List A) → fold f b xs ≡ foldl f b xs
fold_is f b [] = refl
fold_is f b (x ∷ xs) = fold_is f (f b x) xs

module _ {A B : Type 0} (a : A) (b : B) where
  pub zip_is : (n : ℕ) (xs : List A) (ys : List B) → min (length xs) (length ys) ≡ n → zip xs ys ≡ build n (λ k. (get_or xs k a, get_or ys k b))
  unfolding build
  zip_is zero [] ys e = refl
  zip_is zero (x ∷ xs) [] e = refl
  zip_is zero (x ∷ xs) (y ∷ ys) e = absurd (omega arith)
  zip_is (suc n) [] ys e = absurd (omega arith)
  zip_is (suc n) (x ∷ xs) [] e = absurd (omega arith)
  zip_is (suc n) (x ∷ xs) (y ∷ ys) e = ap (λ (s : List (A × B)). (x, y) ∷ s) (zip_is n xs ys (omega arith))

  -- a fold over both is a loop that counts
  pub fold_zip : {S : Type 0} (f : S → A → B → S) (s : S) (n : ℕ) (xs : List A) (ys : List B) → min (length xs) (length ys) ≡ n
      → fold (λ s p. f s p.0 p.1) s (zip xs ys) ≡ iter n (λ k s. f s (get_or xs k a) (get_or ys k b)) s
  fold_zip {S} f s n xs ys e =
      let g : S → A × B → S = λ s p. f s p.0 p.1 in
      fold_is g s (zip xs ys) ∙ ap (foldl g s) (zip_is n xs ys e) ∙ sym (iter_foldl g (λ k. (get_or xs k a, get_or ys k b)) n s)

-- the sum of the products of two vectors
pub sum_products : (f : Format) (s : Float) (xs ys : List Float)
    → fold (add f) s (map (λ p. mul f p.0 p.1) (zip xs ys)) ≡ iter (min (length xs) (length ys)) (λ k a. add f a (mul f (get_or xs k nan) (get_or ys k nan))) s
sum_products f s xs ys = fold-map (add f) (λ p. mul f p.0 p.1) s (zip xs ys) ∙ fold_zip nan nan (λ a x y. add f a (mul f x y)) s _ xs ys refl
