-- The vector that a fetch answers, element by element.
use Rattle.std.specs.Prelude.{if◌then◌else◌}
use mathlib.Core.Path.{◌≡◌, refl, sym, ap, ◌∙◌}
use mathlib.Core.Bool.{true, not}
use mathlib.Core.List.{List, [], ◌∷◌, map}
use Prim.Native.Nat.{ℕ, suc, ◌+◌, ◌≤◌, ◌<◌}
use native.Mathlib.Nat.{not-suc-le-zero, suc-ne-zero}
use native.Mathlib.Numerals.{add-one}
use native.Mathlib.Omega.{arith}
use lib.ListN.{length, length-append}
use lib.Ieee.{Float, nan, ne, binary32, to_bits}
use Rattle.floats.proofs.Patterns.{is_nan_lem}
use lib.Ieee.Scale.{finite}
use borrow.Author.Tests.{eq-eqb, ne_eqb}
use Rattle.loops.specs.Lists.{build, those, over}
use Rattle.loops.specs.Inner.{fill}
use Rattle.loops.proofs.Build.{build_snoc, build_ext, build_list, map-build}
use Rattle.loops.proofs.Choose.{by-test, choose_true, choose_false}
use Rattle.loops.proofs.Tests.{those_append}
use Rattle.loops.proofs.Fill.{fill_end, fill_over}
use Rattle.loops.proofs.Loop.{at_end}
use Rattle.floats.specs.Operators.{◌-₃₂◌, at}
use Rattle.floats.specs.Narrow.{narrowed}
use Rattle.definition.specs.Model.{Model}
use Rattle.definition.specs.Machine.{fetched, bits_of, not_finite}
use Rattle.stream.specs.Inner.IvectorFetch.{fetched_at}

-- one element, as code comes to it
module _ (prior : Float) (i : ℕ) (x : Float) where
  pub first_element : {v w : Float} → i ≡ 0 → v ≡ narrowed x → w ≡ narrowed prior → v -₃₂ w ≡ fetched_at prior i x
  unfolding fetched_at
  first_element {v} {w} e h g = ap (λ (v : Float). v -₃₂ w) h ∙ ap (λ (w : Float). narrowed x -₃₂ w) g ∙ choose_true _ (eq-eqb i 0 e) refl

  pub later_element : {v : Float} → (i ≡ 0 → ⊥) → v ≡ narrowed x → v ≡ fetched_at prior i x
  unfolding fetched_at
  later_element e h = choose_false _ (ne_eqb i 0 e) h

-- the vector by its elements
pub fetched_is : (M : Model) (v : List Float) → 0 < length v → fetched M v ≡ build (length v) (λ i. fetched_at M.info.prior_offset i (at v i))
unfolding fetched fetched_at build
fetched_is M [] p = absurd (not-suc-le-zero p)
fetched_is M (x ∷ xs) p =
    ap (λ (l : List Float). fetched_at M.info.prior_offset 0 x ∷ l) (ap (map narrowed) (sym (build_list nan xs)) ∙ map-build narrowed (length xs) (at xs)
    ∙ build_ext (length xs) (λ k. narrowed (at xs k)) (λ k. fetched_at M.info.prior_offset (suc k) (at xs k)) (λ k l. later_element M.info.prior_offset (suc k) (at xs k) (suc-ne-zero k) refl))

-- ---- written one after the other

module _ (g : ℕ → Float) where
  pub bad_none : 0 ≡ not_finite (build 0 g)
  unfolding not_finite those build
  bad_none = refl

  bad_last : (i : ℕ) → not_finite (build (suc i) g) ≡ (if finite (g i) then not_finite (build i g) else not_finite (build i g) + 1)
  unfolding not_finite those
  bad_last i =
      ap (λ (l : List Float). length (those (λ x. not (finite x)) l)) (build_snoc i g)
      ∙ ap length (those_append (λ x. not (finite x)) (build i g) (g i ∷ []))
      ∙ length-append (those (λ x. not (finite x)) (build i g)) (those (λ x. not (finite x)) (g i ∷ []))
      ∙ by-test (finite (g i)) (λ t. rw t (omega arith)) (λ t. rw t refl)

  pub bad_turn : (i : ℕ) {n m : ℕ} {x : Float} → n ≡ not_finite (build i g) → x ≡ g i → m ≡ (if finite x then n else n + 1) → m ≡ not_finite (build (i + 1) g)
  bad_turn i {n} {m} {x} e h k =
      k ∙ ap (λ (x : Float). if finite x then n else n + 1) h ∙ ap (λ (n : ℕ). if finite (g i) then n else n + 1) e ∙ sym (bad_last i) ∙ ap (λ (j : ℕ). not_finite (build j g)) (sym (add-one i))

  pub bad_end : (i n : ℕ) {m : ℕ} → i ≤ n → n ≤ i → m ≡ not_finite (build i g) → m ≡ not_finite (build n g)
  bad_end i n p q e = at_end (λ j. not_finite (build j g)) i n p q e

  pub bits_end : (i n : ℕ) (room : List ℕ) {s : List ℕ} → i ≤ n → n ≤ i → s ≡ fill i (λ k. to_bits binary32 (g k)) room → s ≡ over (bits_of (build n g)) room
  bits_end i n room p q e = fill_end _ i n room p q e ∙ fill_over _ n room ∙ ap (λ (l : List ℕ). over l room) (sym (map-build (to_bits binary32) n g))

pub nan_bits_lem : (x : Float) → ne x x ≡ true → 0x7fc0_0000 ≡ to_bits binary32 x
unfolding to_bits
nan_bits_lem x h = sym (ap (to_bits binary32) (is_nan_lem x h))
