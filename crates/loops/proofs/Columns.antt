-- A room of n places, each with a counted loop of its own: code does turn k at all places before turn k + 1.
use mathlib.Core.Path.{◌≡◌, sym, ap, ◌∙◌}
use mathlib.Core.List.{List}
use Prim.Native.Nat.{ℕ, ◌+◌}
use lib.ListN.{length, get_or}
use Rattle.loops.specs.Loop.{iter}
use Rattle.loops.specs.Lists.{build}
use Rattle.loops.specs.Inner.{fill}
use Rattle.loops.proofs.Loop.{iter_more}
use Rattle.loops.proofs.Build.{length_build, at_build, build_ext}
use Rattle.loops.proofs.Fill.{fill_whole}

-- place r starts at s r, and turn k takes it through f r k
module _ {A : Type 0} (d : A) (n : ℕ) (f : ℕ → ℕ → A → A) (s : ℕ → A) where
  pub columns_turn : (k : ℕ) {x y : List A} → x ≡ build n (λ r. iter k (f r) (s r)) → y ≡ fill n (λ r. f r k (get_or x r d)) x → y ≡ build n (λ r. iter (k + 1) (f r) (s r))
  columns_turn k {x} e h =
      h ∙ fill_whole _ n x (ap length e ∙ length_build n _)
      ∙ build_ext n _ _ (λ r l. ap (λ (x : List A). f r k (get_or x r d)) e ∙ ap (f r k) (at_build d n _ r l) ∙ sym (iter_more (f r) (s r) k))
