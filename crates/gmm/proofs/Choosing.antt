-- Those above the cutoff, or all where none is.
use mathlib.Core.Path.{◌≡◌, refl, ap}
use mathlib.Core.Bool.{true, false}
use mathlib.Core.List.{List, [], ◌∷◌}
use Prim.Native.Nat.{ℕ, zero, suc, ◌≤◌, ◌<◌}
use native.Mathlib.Omega.{arith}
use lib.ListN.{length, length-take}
use lib.Ieee.{Float, nan, lt, ne}
use Rattle.loops.specs.Lists.{those}
use Rattle.loops.proofs.Tests.{those_all, at_each}
use Rattle.floats.specs.Operators.{◌+₃₂◌, zero₃₂}
use Rattle.floats.specs.Ln.{ln_narrow}
use Rattle.definition.specs.Posteriors.{Post, sorted, or_else, every, max_like, ranked, best_of}
use Rattle.gmm.specs.Inner.Leading.{posts_in}
use Rattle.gmm.specs.Inner.Posteriors.{likelihoods}
use Rattle.gmm.proofs.Comparing.{differs, same}
use Rattle.gmm.proofs.Rooms.{length_held}
use Rattle.gmm.proofs.Sorting.{length_sort}

module _ (largest : Float) (all : List Post) where
  some_left : (k : ℕ) (likely : List Post) {h : List Post} → h ≡ ranked k largest likely → 0 < length h → h ≡ ranked k largest (or_else likely all)
  unfolding ranked sorted
  some_left zero likely e l = e
  some_left (suc k) [] e l = absurd (omega (arith, ap length e))
  some_left (suc k) (p ∷ likely) e l = e

  none_left : (k : ℕ) (likely : List Post) {h x : List Post} → h ≡ ranked k largest likely → length h ≡ 0 → x ≡ ranked k largest all → x ≡ ranked k largest (or_else likely all)
  unfolding ranked sorted
  none_left zero likely e l d = d
  none_left (suc k) [] e l d = d
  none_left (suc k) (p ∷ likely) e l d =
      let ps = likelihoods largest (p ∷ likely) in
      absurd (omega (arith, ap length e, length-take (suc k) (sorted ps), length_sort [] ps))

every-all : (ls : List Float) → those (λ p. true) (every ls) ≡ every ls
every-all ls = those_all (λ p. true) (every ls) (at_each (λ p. true) (0, nan) (every ls) (λ i s. refl))

module _ (ls : List Float) (k : ℕ) (min_post : Float) {largest : Float} (m : largest ≡ max_like ls) where
  -- the rooms hold n that are above the cutoff
  module _ {ln : Float} (t : ne min_post zero₃₂ ≡ true) (l : ln ≡ ln_narrow min_post) (n : ℕ) (chosen : List ℕ) (posts : List Float)
      (e : posts_in n chosen posts ≡ ranked k largest (those (λ p. lt (largest +₃₂ ln) p.1) (every ls))) (h : n ≤ length chosen) (h2 : n ≤ length posts) where
    pub best_some : 0 < n → posts_in n chosen posts ≡ best_of ls k min_post
    unfolding best_of
    best_some g = rw (differs min_post zero₃₂ t, ← m, ← l) (some_left largest (every ls) k _ e (omega (arith, length_held n chosen posts h h2)))

    pub best_none : {x : List Post} → n ≤ 0 → x ≡ ranked k largest (those (λ p. true) (every ls)) → x ≡ best_of ls k min_post
    unfolding best_of
    best_none g d =
        rw (differs min_post zero₃₂ t, ← m, ← l) (none_left largest (every ls) k _ e (omega (arith, length_held n chosen posts h h2)) (rw (every-all ls) at d))

  pub best_all : {x : List Post} → ne min_post zero₃₂ ≡ false → x ≡ ranked k largest (those (λ p. true) (every ls)) → x ≡ best_of ls k min_post
  unfolding best_of
  best_all t d = rw (same min_post zero₃₂ t, ← m) (rw (every-all ls) at d)
