-- Lists made by index or by a test.
use Rattle.std.specs.Prelude.{Bool, true, false, ◌&&◌, List, [], ◌∷◌, ◌++◌, ℕ, zero, suc, length, drop}
use Rattle.std.specs.List.{list_any, list_all, filter}

-- the list f 0, f 1, .., f (n - 1)
unfoldable pub build : {A : Type 0} → ℕ → (ℕ → A) → List A
build zero f = []
build (suc n) f = f 0 ∷ build n (λ k. f (suc k))

-- the lists f 0, f 1, .., f (n - 1), one after the other
unfoldable pub flat : {A : Type 0} → ℕ → (ℕ → List A) → List A
flat zero f = []
flat (suc n) f = f 0 ++ flat n (λ k. f (suc k))

-- those of a list that pass a test, in their order
unfoldable pub those : {A : Type 0} → (A → Bool) → List A → List A
those = filter

unfoldable pub any_of : {A : Type 0} → (A → Bool) → List A → Bool
any_of = list_any

unfoldable pub all_of : {A : Type 0} → (A → Bool) → List A → Bool
all_of = list_all

-- whether all, or any, of a list of tests hold
abbrev pub all_true : List Bool → Bool
all_true = all_of (λ t. t)

abbrev pub any_true : List Bool → Bool
any_true = any_of (λ t. t)

-- whether two lists are equally long, and a test holds of each pair
abbrev pub pairwise : {A B : Type 0} → (A → B → Bool) → List A → List B → Bool
pairwise p [] [] = true
pairwise p [] (y ∷ ys) = false
pairwise p (x ∷ xs) [] = false
pairwise p (x ∷ xs) (y ∷ ys) = p x y && pairwise p xs ys

-- a lent room with xs at its front: the places past the end of xs keep their values
unfoldable pub over : {A : Type 0} → List A → List A → List A
over xs room = xs ++ drop (length xs) room
