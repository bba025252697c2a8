-- The program's input. Code has each number up to 2^32: the limits tell no more.
use mathlib.Core.Path.{◌≡◌, refl, sym, ap, ◌∙◌}
use mathlib.Core.Bool.{true, false}
use mathlib.Core.List.{List}
use Prim.Native.Nat.{ℕ, ◌^◌, ◌≤◌, ◌<◌, min}
use native.Mathlib.Omega.{arith}
use native.Mathlib.Decide.{dec_le}
use lib.ListN.{length}
use lib.Dec.{eqb, ltb, leb}
use borrow.Author.Tests.{lt-ltb, le-ltb, ne_eqb}
use Rattle.std.proofs.Common.{eqb-true}
use Rattle.std.specs.Prelude.{if◌then◌else◌}
use Rattle.loops.proofs.Choose.{by-test}
use Rattle.definition.specs.Reader.{Got, read, refused, after, need, give, ◌>>◌}
use Rattle.lists.specs.Draws.{size_refusal}
use Rattle.lists.specs.Input.{a_number, closing, Asked, asked_for, three_numbers, asked, asked_of}
use Rattle.lists.specs.Inner.TryLoad.{capped, capped_numbers, capped_of}
use Rattle.lists.proofs.Steps.{size_taken}

-- ---- the limits, by the numbers up to 2^32

abbrev cap : ℕ → ℕ
cap n = min n (2 ^ 32)

zero-capped : (n : ℕ) → eqb (cap n) 0 ≡ eqb n 0
zero-capped n = go (dec_le n 0)
  where
    go : Dec (n ≤ 0) → eqb (cap n) 0 ≡ eqb n 0
    go (yes h) = let e : n ≡ 0 = omega arith in rw e
    go (no h) = let g : cap n ≡ 0 → ⊥ = λ e. omega arith in let f : n ≡ 0 → ⊥ = λ e. omega arith in ne_eqb (cap n) 0 g ∙ sym (ne_eqb n 0 f)

above-capped : (most n : ℕ) → most < 2 ^ 32 → ltb most (cap n) ≡ ltb most n
above-capped most n l = go (dec_le n most)
  where
    go : Dec (n ≤ most) → ltb most (cap n) ≡ ltb most n
    go (yes h) = le-ltb most (cap n) (omega arith) ∙ sym (le-ltb most n h)
    go (no h) = lt-ltb most (cap n) (omega arith) ∙ sym (lt-ltb most n (omega arith))

size-capped : (a b c : ℕ) → size_refusal (cap a) (cap b) (cap c) ≡ size_refusal a b c
unfolding size_refusal
size-capped a b c =
    rw (zero-capped a, above-capped 4294967295 a (omega arith), zero-capped b, above-capped 64 b (omega arith), zero-capped c, above-capped 10000 c (omega arith))

-- ---- the whole input

-- numbers that are taken are not cut
last_test : (s : List ℕ) (a b c p : ℕ)
    → (need (eqb (size_refusal (cap a) (cap b) (cap c)) 0) 33 >> give (asked_for 0 (cap a) (cap b) (cap c))) s p ≡ (need (eqb (size_refusal a b c) 0) 33 >> give (asked_for 0 a b c)) s p
last_test s a b c p = by-test (eqb (size_refusal a b c) 0) some none
  where
    some : eqb (size_refusal a b c) 0 ≡ true
        → (need (eqb (size_refusal (cap a) (cap b) (cap c)) 0) 33 >> give (asked_for 0 (cap a) (cap b) (cap c))) s p ≡ (need (eqb (size_refusal a b c) 0) 33 >> give (asked_for 0 a b c)) s p
    some t =
        let l : (cap a ≤ 4294967295) × (cap b ≤ 64) × (cap c ≤ 10000) = size_taken (cap a) (cap b) (cap c) (size-capped a b c ∙ eqb-true _ _ t) in
        let x : cap a ≡ a = omega (arith, l.0) in
        let y : cap b ≡ b = omega (arith, l.1) in
        let z : cap c ≡ c = omega (arith, l.2) in
        rw (x, y, z)

    none : eqb (size_refusal a b c) 0 ≡ false
        → (need (eqb (size_refusal (cap a) (cap b) (cap c)) 0) 33 >> give (asked_for 0 (cap a) (cap b) (cap c))) s p ≡ (need (eqb (size_refusal a b c) 0) 33 >> give (asked_for 0 a b c)) s p
    none t = rw (size-capped a b c, t)

module _ (s : List ℕ) where
  ended : (a b c : ℕ) (g : Got (Unit {0})) → after g (λ _. need (eqb (size_refusal (cap a) (cap b) (cap c)) 0) 33 >> give (asked_for 0 (cap a) (cap b) (cap c))) s
      ≡ after g (λ _. need (eqb (size_refusal a b c) 0) 33 >> give (asked_for 0 a b c)) s
  ended a b c (refused e) = refl
  ended a b c (read u p) = last_test s a b c p

  third : (a b : ℕ) (g : Got ℕ)
      → after (capped g) (λ c v r. after (closing v r) (λ _. need (eqb (size_refusal (cap a) (cap b) c) 0) 33 >> give (asked_for 0 (cap a) (cap b) c)) v) s
      ≡ after g (λ c v r. after (closing v r) (λ _. need (eqb (size_refusal a b c) 0) 33 >> give (asked_for 0 a b c)) v) s
  third a b (refused e) = refl
  third a b (read c r) = ended a b c (closing s r)

  second : (a : ℕ) (g : Got ℕ)
      → after (capped g) (λ b u q. after (capped (a_number u q)) (λ c v r. after (closing v r) (λ _. need (eqb (size_refusal (cap a) b c) 0) 33 >> give (asked_for 0 (cap a) b c)) v) u) s
      ≡ after g (λ b u q. after (a_number u q) (λ c v r. after (closing v r) (λ _. need (eqb (size_refusal a b c) 0) 33 >> give (asked_for 0 a b c)) v) u) s
  second a (refused e) = refl
  second a (read b q) = third a b (a_number s q)

  first : (g : Got ℕ)
      → after (capped g) (λ a t p. after (capped (a_number t p)) (λ b u q. after (capped (a_number u q)) (λ c v r. after (closing v r) (λ _. need (eqb (size_refusal a b c) 0) 33 >> give (asked_for 0 a b c)) v) u) t) s
      ≡ after g (λ a t p. after (a_number t p) (λ b u q. after (a_number u q) (λ c v r. after (closing v r) (λ _. need (eqb (size_refusal a b c) 0) 33 >> give (asked_for 0 a b c)) v) u) t) s
  first (refused e) = refl
  first (read a p) = second a (a_number s p)

  pub capped_is : capped_of s ≡ asked_of s
  unfolding capped_of asked_of capped_numbers three_numbers
  capped_is = ap (λ (g : Got Asked). if leb (length s) 100 then asked g else asked_for 33 0 0 0) (first (a_number s 0))
