-- The cells of Cholesky's factor, and the two solves by it.
use mathlib.Core.Path.{◌≡◌, refl, sym, ap, ◌∙◌}
use mathlib.Core.Bool.{Bool, true, false, true≢false, false≢true}
use mathlib.Core.List.{List}
use Prim.Native.Nat.{ℕ, ◌+◌, ◌*◌, ◌-◌, ◌≤◌, ◌<◌, min}
use native.Mathlib.Omega.{arith}
use lib.ListN.{length, set, take, drop}
use lib.Seq.{length-take-le, get_or-take}
use lib.Ieee.{Float, nan, le}
use borrow.Author.Tests.{eq-eqb, ne_eqb}
use Rattle.loops.specs.Loop.{Out, on, off}
use Rattle.loops.specs.Inner.{done}
use Rattle.loops.proofs.Loop.{iter_none, iter_next, iter_end, iter_ext}
use Rattle.loops.proofs.Parts.{length_lent, lent_is, at_part}
use Rattle.floats.specs.Operators.{◌-₆₄◌, ◌*₆₄◌, ◌/₆₄◌, zero₆₄, at}
use Rattle.floats.specs.Sqrt.{square_root}
use Rattle.definition.specs.Model.{packed}
use Rattle.definition.specs.Solve.{less_products, cell, forward, backward, solved_or}
use Rattle.algebra.specs.Inner.Linear.{is_on}

-- ---- a number less products, as a loop takes them off

module _ (t : Float) (x y : ℕ → Float) where
  pub less_none : t ≡ less_products t 0 x y
  unfolding less_products
  less_none = iter_none _ t

  pub less_next : (i : ℕ) {s : Float} → s ≡ less_products t i x y → s -₆₄ x i *₆₄ y i ≡ less_products t (i + 1) x y
  unfolding less_products
  less_next i e = iter_next _ t i e

  pub less_end : (i n : ℕ) {s : Float} → i ≤ n → n ≤ i → s ≡ less_products t i x y → s ≡ less_products t n x y
  unfolding less_products
  less_end i n = iter_end _ t i n

pub ruleset lessens = (less_none, less_next, less_end)

-- the same of two lists of j numbers, which are parts of others
pub less_parts : (t : Float) (j : ℕ) (p q : List Float) (x y : ℕ → Float) {s : Float} → length p ≡ j → length q ≡ j → ((k : ℕ) → k < j → at p k ≡ x k) → ((k : ℕ) → k < j → at q k ≡ y k)
    → s ≡ less_products t (min (length p) (length q)) (at p) (at q) → s ≡ less_products t j x y
unfolding less_products
less_parts t j p q x y hp hq hx hy e =
    let m : min (length p) (length q) ≡ j = omega arith in
    e ∙ ap (λ (m : ℕ). less_products t m (at p) (at q)) m
    ∙ iter_ext j _ _ t (λ k l v. ap (λ (x : Float). v -₆₄ x *₆₄ at q k) (hx k l) ∙ ap (λ (y : Float). v -₆₄ x k *₆₄ y) (hy k l))

module _ (t : Float) (a j : ℕ) (l : List Float) (h : a + j ≤ length l) where
  part_at : (k : ℕ) → k < j → at (take (a + j - a) (drop a l)) k ≡ at l (a + k)
  part_at k p = ap (λ (s : List Float). at s k) (lent_is a j (a + j) l refl) ∙ at_part nan a j l k p

  -- two rows
  pub less_lent : (b : ℕ) (m : List Float) {s : Float} → b + j ≤ length m
      → s ≡ less_products t (min (length (take (a + j - a) (drop a l))) (length (take (b + j - b) (drop b m)))) (at (take (a + j - a) (drop a l))) (at (take (b + j - b) (drop b m)))
      → s ≡ less_products t j (λ k. at l (a + k)) (λ k. at m (b + k))
  less_lent b m g e =
      less_parts t j _ _ _ _ (length_lent a j (a + j) l refl h) (length_lent b j (b + j) m refl g) part_at
      (λ k p. ap (λ (s : List Float). at s k) (lent_is b j (b + j) m refl) ∙ at_part nan b j m k p) e

  -- a row and a front
  pub less_front : (m : List Float) {s : Float} → j ≤ length m
      → s ≡ less_products t (min (length (take (a + j - a) (drop a l))) (length (take j m))) (at (take (a + j - a) (drop a l))) (at (take j m))
      → s ≡ less_products t j (λ k. at l (a + k)) (at m)
  less_front m g e = less_parts t j _ _ _ _ (length_lent a j (a + j) l refl h) (length-take-le j m g) part_at (λ k p. get_or-take j m k nan p) e

-- ---- the three ways through a cell, with the sum s at hand

module _ (a : List Float) (n i j : ℕ) (l : List Float) {s : Float} (e : s ≡ less_products (at a (packed i j)) j (λ k. at l (i * n + k)) (λ k. at l (j * n + k))) where
  pub cell_diagonal : {l' : List Float} {r : Float} → i ≡ j → le s zero₆₄ ≡ false → r ≡ square_root s → l' ≡ set l (i * n + i) r → on l' ≡ cell a n i j l
  unfolding cell
  cell_diagonal p q h k = simp (eq-eqb i j p, ← e, q) (cc)

  pub cell_left : i ≡ j → le s zero₆₄ ≡ true → off l ≡ cell a n i j l
  unfolding cell
  cell_left p q = simp (eq-eqb i j p, ← e, q)

  pub cell_beside : {l' : List Float} → (i ≡ j → ⊥) → l' ≡ set l (i * n + j) (s /₆₄ at l (j * n + j)) → on l' ≡ cell a n i j l
  unfolding cell
  cell_beside p k = simp (ne_eqb i j p, ← e) (cc)

-- ---- a row of each solve

abbrev pub forward_step : List Float → ℕ → List Float → ℕ → List Float → List Float
forward_step l n b i y = set y i (less_products (at b i) i (λ k. at l (i * n + k)) (at y) /₆₄ at l (i * n + i))

abbrev pub backward_step : List Float → ℕ → List Float → ℕ → List Float → List Float
backward_step l n y t x =
    let i = n - 1 - t in
    set x i (less_products (at y i) t (λ k. at l ((i + 1 + k) * n + i)) (λ k. at x (i + 1 + k)) /₆₄ at l (i * n + i))

-- ---- the two ways through the solve

module _ (x : List Float) (n : ℕ) (b l : List Float) {f : Out (List Float)} {r : Bool} (e : done r l ≡ f) where
  pub solve_on : {y' x' : List Float} → r ≡ true → y' ≡ forward n l b → x' ≡ backward n l y' → x' ≡ solved_or x n b f
  unfolding solved_or
  solve_on t p q = let h : on l ≡ f = ap (λ (z : Bool). done z l) (sym t) ∙ e in rw (← h) (cc)

  pub solve_off : r ≡ false → x ≡ solved_or x n b f
  unfolding solved_or
  solve_off t = let h : off l ≡ f = ap (λ (z : Bool). done z l) (sym t) ∙ e in rw (← h)

-- ---- the start instead

module _ (x : List Float) (n : ℕ) (b : List Float) where
  pub has_exact : (z : List Float) (o : Out (List Float)) {y : List Float} {r : Bool} → y ≡ solved_or z n b o → r ≡ is_on o → r ≡ true → y ≡ solved_or x n b o
  unfolding solved_or
  has_exact z (on l) e h t = e
  has_exact z (off l) e h t = absurd (false≢true (sym h ∙ t))

  pub has_none : (o : Out (List Float)) {y : List Float} {r : Bool} → y ≡ x → r ≡ is_on o → r ≡ false → y ≡ solved_or x n b o
  unfolding solved_or
  has_none (on l) e h t = absurd (true≢false (sym h ∙ t))
  has_none (off l) e h t = e
