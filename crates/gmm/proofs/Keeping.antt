-- The loops that count the candidates that stay, and that move them together: one more candidate.
use Rattle.std.specs.Prelude.{Option, None, Some}
use mathlib.Core.Path.{◌≡◌, refl, sym, ap, ◌∙◌}
use mathlib.Core.Bool.{Bool, true, false, not}
use mathlib.Core.List.{List, [], ◌∷◌, ◌++◌, append-nil, append_assoc}
use Prim.Native.Nat.{ℕ, ◌+◌, ◌≤◌, ◌<◌}
use native.Mathlib.Nat.{add-zero}
use native.Mathlib.Omega.{arith}
use mir.Val.{bool_byte}
use Rattle.std.proofs.lemmas.List.{drop-append-le}
use lib.ListN.{length, get_or, set, drop, length-append, drop_of_length-le}
use lib.Ieee.{Float}
use Rattle.loops.specs.Lists.{those}
use Rattle.loops.proofs.Choose.{by-test}
use Rattle.loops.proofs.Tests.{those_all, those_append, at_each}
use Rattle.floats.specs.Operators.{at}
use Rattle.definition.specs.Posteriors.{Post, ahead}
use Rattle.gmm.specs.Inner.Leading.{posts_in, stays}
use Rattle.gmm.proofs.Rooms.{length_held, held_parts, held_next, held_before, held_put}

-- one at most
pub byte-few : (b : Bool) → bool_byte b ≤ 1
byte-few true = omega arith
byte-few false = omega arith

pub count_none : (t : Post → Bool) (gauss : List ℕ) (posts : List Float) → 0 ≡ length (those t (posts_in 0 gauss posts))
unfolding those posts_in
count_none t gauss posts = refl

those_one : (t : Post → Bool) (p : Post) → length (those t (p ∷ [])) ≡ bool_byte (t p)
unfolding those
those_one t p = by-test (t p) (λ e. rw e) (λ e. rw e)

module _ (v : Float) (j : ℕ) (gauss : List ℕ) (posts : List Float) (h : j < length gauss) (l : j < length posts) where
  one_more : those (stays (Some v)) (posts_in (j + 1) gauss posts) ≡ those (stays (Some v)) (posts_in j gauss posts) ++ those (stays (Some v)) ((get_or gauss j 0, at posts j) ∷ [])
  one_more = ap (those (stays (Some v))) (held_next j gauss posts h l) ∙ those_append (stays (Some v)) (posts_in j gauss posts) ((get_or gauss j 0, at posts j) ∷ [])

  pub count_turn : {c : ℕ} {b : Bool} → b ≡ not (ahead (0, v) (0, at posts j)) → c ≡ length (those (stays (Some v)) (posts_in j gauss posts))
      → c + bool_byte b ≡ length (those (stays (Some v)) (posts_in (j + 1) gauss posts))
  count_turn {c} {b} e i =
      let x : Post = (get_or gauss j 0, at posts j) in
      let one : length (those (stays (Some v)) (x ∷ [])) ≡ bool_byte b = those_one (stays (Some v)) x ∙ sym (ap bool_byte e) in
      omega (arith, i, one, ap length one_more, length-append (those (stays (Some v)) (posts_in j gauss posts)) (those (stays (Some v)) (x ∷ [])))

-- with no bound all are kept where they stand
pub kept_all : (bound : Option Float) (first end : ℕ) (gauss : List ℕ) (posts : List Float) → bound ≡ None → first ≤ end → end ≤ length gauss → end ≤ length posts
    → posts_in end gauss posts ≡ posts_in first gauss posts ++ those (stays bound) (drop first (posts_in end gauss posts))
kept_all bound first end gauss posts e s h l =
    let x : List Post = drop first (posts_in end gauss posts) in
    let all : those (stays bound) x ≡ x = rw e (those_all (stays None) x (at_each (stays None) (0, at posts 0) x (λ i s. refl))) in
    held_parts end gauss posts h l first s ∙ ap (λ (r : List Post). posts_in first gauss posts ++ r) (sym all)

-- none looked at yet
pub kept_none : (t : Post → Bool) (first : ℕ) (gauss : List ℕ) (posts : List Float) → first ≤ length gauss → first ≤ length posts
    → posts_in first gauss posts ≡ posts_in first gauss posts ++ those t (drop first (posts_in first gauss posts))
unfolding those
kept_none t first gauss posts h l =
    let none : those t (drop first (posts_in first gauss posts)) ≡ [] = ap (those t) (drop_of_length-le (posts_in first gauss posts) (omega (arith, length_held first gauss posts h l))) in
    sym (append-nil (posts_in first gauss posts)) ∙ ap (λ (r : List Post). posts_in first gauss posts ++ r) (sym none)

-- one more looked at, and put down at place n whether it stays or not
module _ (v : Float) (first j n : ℕ) (gauss gauss₁ : List ℕ) (posts posts₁ : List Float) (from : first ≤ j) (most : n ≤ j) (h : j < length gauss) (l : j < length posts)
    (long : length gauss₁ ≡ length gauss) (long2 : length posts₁ ≡ length posts) where
  more_kept : those (stays (Some v)) (drop first (posts_in (j + 1) gauss posts))
      ≡ those (stays (Some v)) (drop first (posts_in j gauss posts)) ++ those (stays (Some v)) ((get_or gauss j 0, at posts j) ∷ [])
  more_kept =
      ap (λ (r : List Post). those (stays (Some v)) (drop first r)) (held_next j gauss posts h l)
      ∙ ap (those (stays (Some v))) (drop-append-le first (posts_in j gauss posts) ((get_or gauss j 0, at posts j) ∷ []) (omega (arith, length_held j gauss posts (omega arith) (omega arith))))
      ∙ those_append (stays (Some v)) (drop first (posts_in j gauss posts)) ((get_or gauss j 0, at posts j) ∷ [])

  pub kept_turn : {b : Bool} → get_or gauss₁ j 0 ≡ get_or gauss j 0 → at posts₁ j ≡ at posts j → b ≡ not (ahead (0, v) (0, at posts₁ j))
      → posts_in n gauss₁ posts₁ ≡ posts_in first gauss posts ++ those (stays (Some v)) (drop first (posts_in j gauss posts))
      → posts_in (n + bool_byte b) (set gauss₁ n (get_or gauss₁ j 0)) (set posts₁ n (at posts₁ j)) ≡ posts_in first gauss posts ++ those (stays (Some v)) (drop first (posts_in (j + 1) gauss posts))
  unfolding those
  kept_turn {b} e f g i =
      let x : Post = (get_or gauss j 0, at posts j) in
      let front : List Post = posts_in first gauss posts in
      let back : List Post = those (stays (Some v)) (drop first (posts_in j gauss posts)) in
      let test : b ≡ not (ahead (0, v) x) = g ∙ ap (λ (p : Float). not (ahead (0, v) (0, p))) f in
      let n1 : n < length gauss₁ = omega arith in
      let n2 : n < length posts₁ = omega arith in
      by-test (ahead (0, v) x)
      (λ t. let s : n + bool_byte b ≡ n = rw (test ∙ ap not t) (add-zero n) in
      let one : those (stays (Some v)) (x ∷ []) ≡ [] = rw t in
      ap (λ (m : ℕ). posts_in m (set gauss₁ n (get_or gauss₁ j 0)) (set posts₁ n (at posts₁ j))) s ∙ held_before n gauss₁ posts₁ n1 n2 (get_or gauss₁ j 0) (at posts₁ j) ∙ i
      ∙ sym (ap (λ (r : List Post). front ++ r) (more_kept ∙ ap (λ (r : List Post). back ++ r) one ∙ append-nil back)))
      (λ t. let s : n + bool_byte b ≡ n + 1 = rw (test ∙ ap not t) in
      let one : those (stays (Some v)) (x ∷ []) ≡ x ∷ [] = rw t in
      ap (λ (m : ℕ). posts_in m (set gauss₁ n (get_or gauss₁ j 0)) (set posts₁ n (at posts₁ j))) s ∙ held_put n gauss₁ posts₁ n1 n2 (get_or gauss₁ j 0) (at posts₁ j)
      ∙ ap (λ (r : List Post). r ++ ((get_or gauss₁ j 0, at posts₁ j) ∷ [])) i ∙ append_assoc front back ((get_or gauss₁ j 0, at posts₁ j) ∷ [])
      ∙ ap (λ (g : ℕ). front ++ (back ++ ((g, at posts₁ j) ∷ []))) e ∙ ap (λ (p : Float). front ++ (back ++ ((get_or gauss j 0, p) ∷ []))) f
      ∙ sym (ap (λ (r : List Post). front ++ r) (more_kept ∙ ap (λ (r : List Post). back ++ r) one)))
