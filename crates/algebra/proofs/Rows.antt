-- A room of just n places after a loop that fills it, and the product of two floats either way round.
use mathlib.Core.Path.{◌≡◌, refl, ap, ◌∙◌}
use mathlib.Core.Bool.{Bool, true, false}
use mathlib.Core.List.{List}
use Prim.Native.Nat.{ℕ, ◌*◌}
use native.Mathlib.Nat.{mul_comm}
use lib.ListN.{length}
use lib.Ieee.{Float, nan, inf, fin, Format, mul, up, down, unlike}
use Rattle.loops.specs.Lists.{build}
use Rattle.loops.specs.Inner.{fill}
use Rattle.loops.proofs.Fill.{fill_whole}

unlike_comm : (s t : Bool) → unlike s t ≡ unlike t s
unlike_comm true true = refl
unlike_comm true false = refl
unlike_comm false true = refl
unlike_comm false false = refl

pub times_comm : (f : Format) (x y : Float) → mul f x y ≡ mul f y x
unfolding mul
times_comm f nan nan = refl
times_comm f nan (inf t) = refl
times_comm f nan (fin t n d) = refl
times_comm f (inf s) nan = refl
times_comm f (inf s) (inf t) = ap inf (unlike_comm s t)
times_comm f (inf s) (fin t n d) = rw (unlike_comm s t)
times_comm f (fin s m e) nan = refl
times_comm f (fin s m e) (inf t) = rw (unlike_comm s t)
times_comm f (fin s m e) (fin t n d) = rw (unlike_comm s t, mul_comm (m * up e) (n * up d), mul_comm (down e) (down d))

module _ {A : Type 0} where
  -- all places of a room, which are n
  pub whole : (f : ℕ → A) (n : ℕ) (x : List A) {s : List A} → length x ≡ n → s ≡ fill (length x) f x → s ≡ build n f
  whole f n x l e = e ∙ fill_whole f (length x) x refl ∙ ap (λ (k : ℕ). build k f) l
