-- What a range of numbers answers of a number is the definition's `within`.
use mathlib.Core.Path.{◌≡◌, refl, sym, ◌∙◌}
use mathlib.Core.Bool.{Bool, true, false}
use Prim.Native.Nat.{ℕ, ◌≤◌}
use native.Mathlib.Omega.{arith}
use lib.Dec.{leb}
use borrow.Author.Tests.{le-leb}
use Rattle.std.specs.Prelude.{Some}
use Rattle.std.specs.Ordering.{is_le, nat_cmp}
use Rattle.std.specs.Range.{range_inclusive_start, range_inclusive_end, range_inclusive_exhausted, range_inclusive_contains}
use Rattle.std.specs.declared.ops.RangeInclusive.{RangeInclusive}
use Rattle.std.proofs.Common.{rules, tests}
use Rattle.definition.specs.Options.{within}

le_is : (a b : ℕ) → is_le (nat_cmp a b) ≡ leb a b
le_is a b = search (rules, tests)

pub inside : {s : RangeInclusive ℕ} (a b x : ℕ) {r : Bool} → range_inclusive_start s ≡ a → range_inclusive_end s ≡ b → range_inclusive_exhausted s ≡ false
    → r ≡ range_inclusive_contains (λ x y. Some (nat_cmp x y)) s x → r ≡ within a b x
inside a b x p q t e = e ∙ rw (p, q, t, le_is a x, le_is x b) refl

-- the same, where code joins the answer r with those before it, and the joined one is true
pub held_inside : {s : RangeInclusive ℕ} (a b x : ℕ) {r v : Bool} → range_inclusive_start s ≡ a → range_inclusive_end s ≡ b → range_inclusive_exhausted s ≡ false
    → r ≡ range_inclusive_contains (λ x y. Some (nat_cmp x y)) s x → v ≡ r → v ≡ true → within a b x ≡ true
held_inside a b x p q t e f h = sym (inside a b x p q t e) ∙ sym f ∙ h

-- 0 is no limit
pub at_most : (b x : ℕ) → x ≤ b → within 0 b x ≡ true
at_most b x h = rw (le-leb x b h, le-leb 0 x (omega arith)) refl
