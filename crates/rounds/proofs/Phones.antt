-- Whether a phone is one of the silence phones, as std's `contains` answers it and as the definition does.
use mathlib.Core.Path.{◌≡◌, refl, sym, ap, ◌∙◌}
use mathlib.Core.Bool.{Bool, true, false, ◌||◌}
use mathlib.Core.List.{List, [], ◌∷◌}
use borrow.Author.Tests.{eq-eqb, ne_eqb}
use lib.IntN.{ℤ, pos, negsuc}
use Rattle.std.specs.List.{list_any}
use Rattle.std.specs.Ordering.{int_eq}
use Rattle.std.proofs.lemmas.Bool.{false≢true}
use Rattle.std.proofs.lemmas.Bool.Decides.{Decides-int_eq}
use Rattle.loops.specs.Lists.{any_of}
use Rattle.loops.proofs.Choose.{by-test}
use Rattle.definition.specs.Silence.{same_phone}

same_true : (p q : ℤ) → p ≡ q → same_phone p q ≡ true
unfolding same_phone
same_true (pos m) q e = rw (sym e) (eq-eqb m m refl)
same_true (negsuc m) q e = rw (sym e) (eq-eqb m m refl)

same_false : (p q : ℤ) → (p ≡ q → ⊥) → same_phone p q ≡ false
unfolding same_phone
same_false (pos m) (pos n) h = ne_eqb m n (λ e. h (ap pos e))
same_false (pos m) (negsuc n) h = refl
same_false (negsuc m) (pos n) h = refl
same_false (negsuc m) (negsuc n) h = ne_eqb m n (λ e. h (ap negsuc e))

phone_is : (p q : ℤ) → int_eq q p ≡ same_phone p q
phone_is p q =
    by-test (int_eq q p) (λ e. e ∙ sym (same_true p q (sym ((Decides-int_eq q p).0 e))))
    (λ e. e ∙ sym (same_false p q (λ h. absurd (false≢true (sym e ∙ (Decides-int_eq q p).1 (sym h))))))

pub contains_is : (p : ℤ) (phones : List ℤ) → list_any (λ q. int_eq q p) phones ≡ any_of (same_phone p) phones
unfolding any_of
contains_is p [] = refl
contains_is p (q ∷ qs) = ap (λ (b : Bool). b || list_any (λ q. int_eq q p) qs) (phone_is p q) ∙ ap (λ (b : Bool). same_phone p q || b) (contains_is p qs)
