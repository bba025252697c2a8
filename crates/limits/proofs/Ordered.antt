-- Laws of waiting frames in order: the first is the lowest.
use mathlib.Core.Path.{◌≡◌, refl, sym, ap, ◌∙◌}
use mathlib.Core.Bool.{Bool, true, false, not}
use mathlib.Core.List.{List, [], ◌∷◌, foldl}
use Prim.Native.Nat.{ℕ, zero, suc, ◌+◌, ◌-◌, ◌≤◌, ◌<◌, min}
use native.Mathlib.Nat.{not-suc-le-zero, le_of_suc-le-suc}
use native.Mathlib.Numerals.{add-one}
use native.Mathlib.Omega.{arith}
use lib.ListN.{length, get_or}
use lib.Dec.{leb, ltb}
use borrow.Author.Tests.{leb-true, le-leb, le-ltb, ltb-false}
use Rattle.std.specs.Ordering.{is_le, is_some_and, nat_cmp}
use Rattle.std.specs.Prelude.{Some, None}
use Rattle.std.specs.List.{IsAllAdjacentAnswer, slice_get}
use Rattle.std.specs.List.Sorted.{IsNonDecreasing}
use Rattle.std.proofs.lemmas.Option.{get_or_from_slice_get, slice_get_within}
use Rattle.std.proofs.lemmas.List.Sorted.{non_decreasing_from_is_sorted}
use Rattle.loops.specs.Lists.{any_of}
use Rattle.loops.proofs.Choose.{by-test, and_holds, or_first}
use Rattle.loops.proofs.Tests.{at_none, at_some}
use Rattle.definition.specs.Stream.{rising}
use Rattle.limits.specs.Inner.{waiting_broken}

-- ---- std's order is `rising`

next_above : (n : ℕ) (xs : List ℕ) → rising n xs ≡ true → (k : ℕ) → suc k < length xs → get_or xs k 0 ≤ get_or xs (suc k) 0
unfolding rising
next_above n [] e k l = absurd (not-suc-le-zero l)
next_above n (x ∷ []) e k l = absurd (omega arith)
next_above n (x ∷ y ∷ ys) e zero l = leb-true x y (and_holds (leb x y) (rising y ys) (and_holds (leb n x) (rising x (y ∷ ys)) e).1).0
next_above n (x ∷ y ∷ ys) e (suc k) l = next_above x (y ∷ ys) (and_holds (leb n x) (rising x (y ∷ ys)) e).1 k (le_of_suc-le-suc l)

neighbours : (n : ℕ) (xs : List ℕ) → rising n xs ≡ true → (k : ℕ) → k + 1 < length xs → get_or xs k 0 ≤ get_or xs (k + 1) 0
neighbours n xs e k l = rw add-one (next_above n xs e k (omega arith))

rising_from : (n : ℕ) (xs : List ℕ) → (0 < length xs → n ≤ get_or xs 0 0) → IsNonDecreasing xs → rising n xs ≡ true
unfolding rising
rising_from n [] f h = refl
rising_from n (x ∷ xs) f h = rw (le-leb n x (f (omega arith))) (rising_from x xs (λ l. h 0 1 0 (omega arith) (omega arith)) (λ i j d m l. h (suc i) (suc j) d (omega arith) (omega arith)))

pub sorted_rising : (xs : List ℕ) (r : Bool) → IsAllAdjacentAnswer (λ x y b. is_some_and is_le (Some (nat_cmp x y)) ≡ b) xs r → r ≡ rising 0 xs
sorted_rising xs true a = sym (rising_from 0 xs (λ l. omega arith) (non_decreasing_from_is_sorted xs true a))
sorted_rising xs false a =
    let h = non_decreasing_from_is_sorted xs false a in
    by-test (rising 0 xs) (λ t. absurd (omega (arith, h.2 0, neighbours 0 xs t h.0 h.1))) (λ f. sym f)

-- ---- the lowest

pub rising-above : (n : ℕ) (xs : List ℕ) → rising n xs ≡ true → (k : ℕ) → k < length xs → n ≤ get_or xs k 0
unfolding rising
rising-above n [] e k l = absurd (not-suc-le-zero l)
rising-above n (x ∷ xs) e zero l = leb-true n x (and_holds (leb n x) (rising x xs) e).0
rising-above n (x ∷ xs) e (suc k) l =
    let h = and_holds (leb n x) (rising x xs) e in
    let a = rising-above x xs h.1 k (le_of_suc-le-suc l) in
    omega (arith, leb-true n x h.0)

pub first_lowest : (n : ℕ) (xs : List ℕ) → rising n xs ≡ true → (k : ℕ) → k < length xs → get_or xs 0 0 ≤ get_or xs k 0
unfolding rising
first_lowest n [] e k l = absurd (not-suc-le-zero l)
first_lowest n (x ∷ xs) e zero l = omega arith
first_lowest n (x ∷ xs) e (suc k) l = rising-above x xs (and_holds (leb n x) (rising x xs) e).1 k (le_of_suc-le-suc l)

min-none : (m n : ℕ) (xs : List ℕ) → m ≤ n → rising n xs ≡ true → foldl min m xs ≡ m
unfolding rising
min-none m n [] l e = refl
min-none m n (x ∷ xs) l e =
    let h = and_holds (leb n x) (rising x xs) e in
    let a : n ≤ x = leb-true n x h.0 in
    let b : min m x ≡ m = omega arith in
    ap (λ (k : ℕ). foldl min k xs) b ∙ min-none m x xs (omega arith) h.1

-- the lowest of m and of frames in order
pub min-first : (m n : ℕ) (xs : List ℕ) → 0 < length xs → rising n xs ≡ true → foldl min m xs ≡ min m (get_or xs 0 0)
unfolding rising
min-first m n [] l e = absurd (not-suc-le-zero l)
min-first m n (x ∷ xs) l e = min-none (min m x) x xs (omega arith) (and_holds (leb n x) (rising x xs) e).1

-- ---- waiting frames that a mark may not pass

any_below : (xs : List ℕ) (left mark : ℕ) → 0 < length xs → rising 0 xs ≡ true → ltb (get_or xs 0 0 - left) mark ≡ any_of (λ f. ltb (f - left) mark) xs
any_below xs left mark l e =
    by-test (ltb (get_or xs 0 0 - left) mark)
    (λ h. h ∙ sym (at_some (λ f. ltb (f - left) mark) 0 xs 0 l h))
    (λ h.
    h
    ∙ sym
    (at_none (λ f. ltb (f - left) mark) 0 xs (λ k p.
    le-ltb (get_or xs k 0 - left) mark (omega (arith, first_lowest 0 xs e k p, ltb-false (get_or xs 0 0 - left) mark h)))))

module _ (held : List ℕ) (left mark : ℕ) where
  pub waiting_unordered : rising 0 held ≡ false → true ≡ waiting_broken held left mark
  unfolding waiting_broken
  waiting_unordered e = sym (or_first _ _ (ap not e))

  pub waiting_none : length held ≡ 0 → rising 0 held ≡ true → false ≡ waiting_broken held left mark
  unfolding waiting_broken
  waiting_none l e = sym (rw e (at_none (λ f. ltb (f - left) mark) 0 held (λ k p. absurd (omega arith))))

  pub waiting_first : 0 < length held → rising 0 held ≡ true → ltb (get_or held 0 0 - left) mark ≡ waiting_broken held left mark
  unfolding waiting_broken
  waiting_first l e = any_below held left mark l e ∙ sym (rw e)

  -- the first, as `first` gives it
  pub first_decides : (x : ℕ) → Some x ≡ slice_get held 0 → rising 0 held ≡ true → ltb (x - left) mark ≡ waiting_broken held left mark
  first_decides x e r =
      ap (λ (n : ℕ). ltb (n - left) mark) (sym (get_or_from_slice_get held 0 x 0 (sym e))) ∙ waiting_first (slice_get_within held 0 x (sym e)) r

pub no_first : (held : List ℕ) → None ≡ slice_get held 0 → length held ≡ 0
no_first [] e = refl
no_first (x ∷ xs) e = cc
