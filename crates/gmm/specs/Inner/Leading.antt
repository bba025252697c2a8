-- What the contracts say besides the definition: `posts_in` of the rooms that a caller lends, and the order in them.
use Rattle.std.specs.Prelude.{◌≡◌, Option, None, Some, Bool, true, false, not, ℕ, zero, suc, ◌+◌, ◌<◌, ◌≤◌, get_or, take, Float}
use mathlib.Core.List.{List, [], ◌∷◌, foldl, zip_with}
use Rattle.floats.specs.Operators.{at}
use Rattle.definition.specs.Posteriors.{Post, ahead, insert}

abbrev pub post : ℕ → Float → Post
post g p = (g, p)

-- the posteriors that the first n places of two rooms hold: Gaussians in one, values in the other
unfoldable pub posts_in : ℕ → List ℕ → List Float → List Post
posts_in n chosen posts = take n (zip_with post chosen posts)

-- whether a candidate stays: it is not behind the bound, if there is one
abbrev pub stays : Option Float → Post → Bool
stays None p = true
stays (Some v) p = not (ahead (0, v) p)

-- those of ps inserted into l, one after the other
abbrev pub into : List Post → List Post → List Post
into l ps = foldl (λ qs p. insert p qs) l ps

-- p put down at place j, what stood there at the next place, and so on up to n: the last falls off
unfoldable pub slid : {A : Type 0} → ℕ → ℕ → A → List A → List A
slid zero zero p z = z
slid zero (suc n) p [] = []
slid zero (suc n) p (q ∷ z) = p ∷ slid zero n q z
slid (suc j) zero p z = z
slid (suc j) (suc n) p [] = []
slid (suc j) (suc n) p (q ∷ z) = q ∷ slid j n p z

-- of the first n places of a room of posteriors none is ahead of one in front of it
pub record Falling (n : ℕ) (posts : List Float) : Type 0 where
  pub behind : (i j : ℕ) → i < j → j < n → ahead (0, at posts j) (0, at posts i) ≡ false

-- r is the place of p among the first n, behind those that it is not ahead of
pub record Place (p : Float) (n : ℕ) (posts : List Float) (r : ℕ) : Type 0 where
  pub most : r ≤ n
  pub front : (k : ℕ) → k < r → ahead (0, p) (0, at posts k) ≡ false
  pub here : r < n → ahead (0, p) (0, at posts r) ≡ true

-- those behind place r, up to `last`, have moved up by one, and p is ahead of the one at r, if it is one of the first `last`
pub record Moved (p : Float) (last r : ℕ) (chosen : List ℕ) (posts : List Float) (chosen₁ : List ℕ) (posts₁ : List Float) : Type 0 where
  pub most : r ≤ last
  pub gauss : chosen₁ ≡ slid r (last + 1) (get_or chosen r 0) chosen
  pub values : posts₁ ≡ slid r (last + 1) (at posts r) posts
  pub here : r < last → ahead (0, p) (0, at posts r) ≡ true
