-- A room after a loop over its places: filled so far, and of just n places.
use mathlib.Core.Path.{◌≡◌, refl, sym, ap, ◌∙◌}
use mathlib.Core.List.{List, ◌++◌}
use Prim.Native.Nat.{ℕ, ◌+◌, ◌-◌, ◌≤◌, ◌<◌}
use native.Mathlib.Omega.{arith}
use lib.ListN.{length, get_or, take, drop}
use Rattle.loops.specs.Lists.{build}
use Rattle.loops.specs.Inner.{fill}
use Rattle.loops.proofs.Build.{build_part, build_ext}
use Rattle.loops.proofs.Parts.{lent_is}
use Rattle.loops.proofs.Fill.{fill_again, fill_end, fill_whole}

module _ {A : Type 0} where
  -- what was filled so far stands as if filled again
  pub held : (f : ℕ → A) (n : ℕ) (x : List A) {s : List A} → s ≡ fill n f x → s ≡ fill n f s
  held f n x e = e ∙ sym (fill_again n n f f x (omega arith)) ∙ ap (fill n f) (sym e)

  pub filled : (f : ℕ → A) (i n : ℕ) (x : List A) {s : List A} → i ≤ n → n ≤ i → length x ≡ n → s ≡ fill i f x → s ≡ build n f
  filled f i n x p q l e = fill_end f i n x p q e ∙ fill_whole f n x l

  -- the n elements from a on, copied to the front
  pub front_is : (a n : ℕ) (l x : List A) (d : A) {s : List A} {f : ℕ → A} → a + n ≤ length l → s ≡ take (a + n - a) (drop a l)
      → ((k : ℕ) → k < n → get_or l (a + k) d ≡ f k) → s ++ drop n x ≡ fill n f x
  unfolding fill
  front_is a n l x d {f = f} h e g =
      ap (λ (s : List A). s ++ drop n x) (e ∙ lent_is a n (a + n) l refl ∙ sym (build_part d a n l h) ∙ build_ext n _ f g)
