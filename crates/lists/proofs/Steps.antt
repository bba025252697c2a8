-- Laws of what the small functions do: draws one by one, the numbers of a call by its kind, the refusals.
use Rattle.std.specs.Prelude.{if◌then◌else◌}
use mathlib.Core.Path.{◌≡◌, refl, sym, ap, ◌∙◌}
use mathlib.Core.Bool.{Bool, true, false}
use mathlib.Core.List.{List, []}
use Prim.Native.Nat.{ℕ, ◌+◌, ◌*◌, ◌%◌, ◌^◌, ◌≤◌, ◌<◌}
use native.Mathlib.Nat.{mod-lt, mul-le-mul}
use native.Mathlib.Omega.{arith}
use mir.Syntax.{w64}
use mir.Val.{Fits}
use lib.ListN.{length}
use lib.Dec.{eqb, T, le→leb}
use lib.IntN.{pos}
use lib.Ieee.{Float, binary32, in_float, nan}
use borrow.Author.Tests.{ne_eqb, eqb-false, ltb-false}
use Rattle.loops.specs.Loop.{iter}
use Rattle.loops.specs.Lists.{build}
use Rattle.loops.specs.Ring.{put}
use Rattle.loops.proofs.Build.{length_build}
use Rattle.loops.proofs.Fill.{put_none}
use Rattle.loops.proofs.Loop.{iter_step, at_end}
use Rattle.loops.proofs.Refusal.{none_first}
use Rattle.lists.specs.Draws.{draw, draws, number_of, numbers_of, drawing_at, size_tests, size_refusal, list_tests, list_refusal}

-- a remainder by 2,001 is a whole number that f32 has
pub small_in : (r : ℕ) → T (in_float binary32 (pos (r % 2001)))
unfolding in_float
small_in r = le→leb (r % 2001) (2 ^ 24) (omega (arith, mod-lt r {m = 2001} (omega arith)))

pub draws-none : (s : ℕ) → s ≡ draws 0 s
unfolding draws iter
draws-none s = refl

pub draws-next : (s i : ℕ) {x y : ℕ} → x ≡ draws i s → y ≡ draw x → y ≡ draws (i + 1) s
unfolding draws
draws-next s i e h = iter_step (λ k. draw) s i e h

pub draws_end : (s i n : ℕ) {x : ℕ} → i ≤ n → n ≤ i → x ≡ draws i s → x ≡ draws n s
draws_end s i n = at_end (λ k. draws k s) i n

-- ---- numbers, by the kind of a call

module _ (dim k s : ℕ) where
  pub numbers_0 : k ≡ 0 → build dim (λ i. number_of (draws (i + 1) s)) ≡ numbers_of dim k s
  unfolding numbers_of
  numbers_0 e = rw e

  pub numbers_none : (k ≡ 0 → ⊥) → [] ≡ numbers_of dim k s
  unfolding numbers_of
  numbers_none a = rw (ne_eqb k 0 a)

  pub width_is : length (numbers_of dim k s) ≡ (if eqb k 0 then 1 else 0) * dim
  unfolding numbers_of
  width_is = by (eqb k 0)
    where
      by : (a : Bool) → length (if a then build dim (λ i. number_of (draws (i + 1) s)) else []) ≡ (if a then 1 else 0) * dim
      by true = length_build dim _ ∙ omega arith
      by false = omega arith

pub wide-0 : (dim k s : ℕ) → k ≡ 0 → length (numbers_of dim k s) ≡ dim
wide-0 dim k s e = ap length (sym (numbers_0 dim k s e)) ∙ length_build dim _

-- at most 10,000 frames of at most 64 numbers
pub fits-mul : (a b : ℕ) → a ≤ 10000 → b ≤ 64 → Fits w64 (a * b)
fits-mul a b h g = omega (arith, mul-le-mul h g)

pub nothing_put : (at : ℕ) (room : List Float) {xs : List Float} → [] ≡ xs → room ≡ put at xs room
unfolding build
nothing_put at room e = put_none at (λ i. nan) room ∙ ap (λ (l : List Float). put at l room) e

-- ---- the refusals

module _ (seed dim count : ℕ) where
  -- no refusal: the limits
  pub size_taken : size_refusal seed dim count ≡ 0 → (seed ≤ 4294967295) × (dim ≤ 64) × (count ≤ 10000)
  unfolding size_refusal
  size_taken e =
      let h = none_first (size_tests seed dim count) tt e in
      (ltb-false 4294967295 seed h.1.0, ltb-false 64 dim h.1.1.1.0, ltb-false 10000 count h.1.1.1.1.1.0)

  pub size_some : size_refusal seed dim count ≡ 0 → 0 < dim
  unfolding size_refusal
  size_some e =
      let h = none_first (size_tests seed dim count) tt e in
      let g : dim ≡ 0 → ⊥ = eqb-false dim 0 h.1.1.0 in
      omega arith

module _ (seed dim count a b c d : ℕ) where
  abbrev tests : List (Bool × ℕ)
  tests = list_tests seed dim count a b c d

  abbrev pub numbers_drawn : ℕ
  numbers_drawn = (drawing_at dim seed count).pushes * dim

  -- no refusal: the lists are long enough
  pub list_taken : list_refusal seed dim count a b c d ≡ 0 → (numbers_drawn ≤ a) × (count ≤ b) × (count ≤ c) × (count ≤ d)
  unfolding list_refusal
  list_taken e =
      let h = none_first tests tt e in
      (ltb-false a numbers_drawn h.0, ltb-false b count h.1.0, ltb-false c count h.1.1.0, ltb-false d count h.1.1.1.0)
