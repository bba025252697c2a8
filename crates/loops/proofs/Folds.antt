-- A counted loop over the elements of a list is a fold.
use mathlib.Core.Path.{◌≡◌, refl, sym, ap, ◌∙◌}
use mathlib.Core.List.{List, [], ◌∷◌, foldl, foldl-append}
use Prim.Native.Nat.{ℕ, zero, suc, ◌+◌, ◌≤◌, ◌<◌}
use lib.ListN.{length, get_or, drop, drop_of_length-le}
use Rattle.loops.specs.Loop.{iter}
use Rattle.loops.specs.Lists.{build}
use Rattle.loops.proofs.Build.{build_snoc}
use Rattle.loops.proofs.Parts.{drop_next}

module _ {A B : Type 0} (f : B → A → B) where
  pub iter_foldl : (g : ℕ → A) (n : ℕ) (b : B) → iter n (λ i s. f s (g i)) b ≡ foldl f b (build n g)
  unfolding iter build
  iter_foldl g zero b = refl
  iter_foldl g (suc n) b = ap (λ (s : B). f s (g n)) (iter_foldl g n b) ∙ sym (ap (foldl f b) (build_snoc n g) ∙ foldl-append f b (build n g) (g n ∷ []))

  -- a loop over the list, by what is left from i
  pub fold_turn : (d : A) (xs : List A) (i : ℕ) {s t b : B} → i < length xs → t ≡ f s (get_or xs i d) → foldl f s (drop i xs) ≡ b → foldl f t (drop (i + 1) xs) ≡ b
  fold_turn d xs i {s} {t} l e h = let g : foldl f s (drop i xs) ≡ foldl f t (drop (i + 1) xs) = rw (drop_next d xs i l, e) in sym g ∙ h

  pub fold_end : (xs : List A) (i : ℕ) {s b : B} → length xs ≤ i → foldl f s (drop i xs) ≡ b → s ≡ b
  fold_end xs i {s} l h = let g : foldl f s (drop i xs) ≡ s = rw (drop_of_length-le xs l) in sym g ∙ h

  -- what holds at the start and is kept by each element holds at the end
  pub foldl_keeps : (P : B → Type 0) (b : B) (xs : List A) → ((s : B) (x : A) → P s → P (f s x)) → P b → P (foldl f b xs)
  foldl_keeps P b [] k p = p
  foldl_keeps P b (x ∷ xs) k p = foldl_keeps P (f b x) xs k (k b x p)
