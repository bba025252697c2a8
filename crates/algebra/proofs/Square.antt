-- A packed matrix laid out square, and its product with a vector: rows of a table, each times a number, added up.
use mathlib.Core.Path.{◌≡◌, refl, sym, ap, ◌∙◌}
use mathlib.Core.List.{List, ◌++◌}
use Prim.Native.Nat.{ℕ, suc, ◌+◌, ◌-◌, ◌*◌, ◌≤◌, ◌<◌}
use native.Mathlib.Nat.{add-zero}
use native.Mathlib.Omega.{arith}
use lib.ListN.{length, get_or, replicate, get_or-append}
use lib.Seq.{get_or-append-add}
use lib.Ieee.{Float, nan, binary64}
use Rattle.loops.specs.Loop.{iter}
use Rattle.loops.specs.Lists.{build, flat, over}
use Rattle.loops.specs.Inner.{fill}
use Rattle.loops.proofs.Loop.{iter_none, iter_next, iter_ext}
use Rattle.loops.proofs.Build.{length_build, at_build, build_ext, build_same}
use Rattle.loops.proofs.Fill.{over_whole}
use Rattle.loops.proofs.Cells.{row_in_lem}
use Rattle.loops.proofs.Flat.{flat_add, length_cells}
use Rattle.loops.proofs.Parts.{at_part}
use Rattle.algebra.proofs.Rows.{times_comm, whole}
use Rattle.floats.specs.Operators.{◌+₆₄◌, ◌*₆₄◌, zero₆₄, at, sum₆₄}
use Rattle.definition.specs.Model.{packed}
use Rattle.definition.specs.Solve.{sp_mat_vec}
use Rattle.algebra.specs.Inner.PackedMatrix.{table_row, square_of}

-- ---- element j of row i of a table by two indices, h rows of width w

module _ {A : Type 0} (d : A) (h w : ℕ) (g : ℕ → ℕ → A) where
  cell_at : (i j : ℕ) → i < h → j < w → get_or (flat h (λ a. build w (g a))) (i * w + j) d ≡ g i j
  unfolding flat
  cell_at i j p q =
      let f : ℕ → List A = λ a. build w (g a) in
      let m : ℕ = h - (i + 1) in
      let e : h ≡ i + suc m = omega arith in
      let l : j < length (f (i + 0)) = omega (arith, length_build w (g (i + 0))) in
      ap (λ (h : ℕ). get_or (flat h f) (i * w + j) d) e
      ∙ ap (λ (s : List A). get_or s (i * w + j) d) (flat_add i (suc m) f)
      ∙ ap (λ (k : ℕ). get_or (flat i f ++ flat (suc m) (λ k. f (i + k))) (k + j) d) (sym (length_cells i w g))
      ∙ get_or-append-add (flat i f) _ j d
      ∙ get_or-append (f (i + 0)) _ d j l
      ∙ at_build d w (g (i + 0)) j q
      ∙ ap (λ (k : ℕ). g k j) (add-zero i)

pub square_whole : (n : ℕ) (a room : List Float) {y : List Float} → length room ≡ n * n → y ≡ over (flat n (λ i. build n (λ j. at a (packed j i)))) room → y ≡ square_of n a
unfolding square_of
square_whole n a room l e = e ∙ over_whole _ room (length_cells n n _ ∙ sym l)

-- ---- the first w numbers of rows of a table that stand s apart, each row times its element of x

-- the sum in column c after k rows
abbrev pub sum_of : ℕ → List Float → List Float → ℕ → ℕ → Float
sum_of s table x k c = sum₆₄ zero₆₄ k (λ a. at table (a * s + c) *₆₄ at x a)

-- row k of d, up to place w, lies within n
pub front_in : (k d s w n : ℕ) → w ≤ s → d * s ≤ n → k < d → k * s + w ≤ n
front_in k d s w n h l p = omega (arith, row_in_lem k d s n l p)

module _ (s w : ℕ) (table x : List Float) where
  pub sums_none : {y : List Float} → y ≡ replicate w zero₆₄ → y ≡ build w (sum_of s table x 0)
  unfolding iter
  sums_none e = e ∙ sym (build_same w zero₆₄)

  -- a sum goes on by a row
  more : (k c : ℕ) {m : ℕ} {r : List Float} {v : Float} → m ≡ k + 1 → c < w → r ≡ table_row s w table k → v ≡ sum_of s table x k c → v +₆₄ at r c *₆₄ at x k ≡ sum_of s table x m c
  unfolding table_row
  more k c {v = v} q p e h =
      ap (λ (t : Float). v +₆₄ t *₆₄ at x k) (ap (λ (r : List Float). at r c) e ∙ at_part nan (k * s) w table c p)
      ∙ iter_next _ zero₆₄ k h ∙ ap (λ (m : ℕ). sum_of s table x m c) (sym q)

  -- four rows from the start on
  pub four_first : (y : List Float) {r0 r1 r2 r3 z : List Float} → length y ≡ w → r0 ≡ table_row s w table 0 → r1 ≡ table_row s w table 1 → r2 ≡ table_row s w table 2 → r3 ≡ table_row s w table 3
      → z ≡ fill (length y) (λ c. zero₆₄ +₆₄ at r0 c *₆₄ at x 0 +₆₄ at r1 c *₆₄ at x 1 +₆₄ at r2 c *₆₄ at x 2 +₆₄ at r3 c *₆₄ at x 3) y → z ≡ build w (sum_of s table x 4)
  four_first y l h0 h1 h2 h3 f =
      whole _ w y l f
      ∙ build_ext w _ _ (λ c p. more 3 c (omega arith) p h3 (more 2 c (omega arith) p h2 (more 1 c (omega arith) p h1 (more 0 c (omega arith) p h0 (iter_none _ zero₆₄)))))

  module _ (k : ℕ) {y : List Float} (e : y ≡ build w (sum_of s table x k)) where
    pub length_sums : length y ≡ w
    length_sums = ap length e ∙ length_build w _

    sum_at : (c : ℕ) → c < w → at y c ≡ sum_of s table x k c
    sum_at c p = ap (λ (y : List Float). at y c) e ∙ at_build nan w _ c p

    pub one_turn : {r z : List Float} → r ≡ table_row s w table k → z ≡ fill (length y) (λ c. at y c +₆₄ at x k *₆₄ at r c) y → z ≡ build w (sum_of s table x (k + 1))
    one_turn {r} h f =
        whole _ w y length_sums f
        ∙ build_ext w _ _ (λ c p. ap (λ (t : Float). at y c +₆₄ t) (times_comm binary64 (at x k) (at r c)) ∙ more k c refl p h (sum_at c p))

    pub four_turn : {r0 r1 r2 r3 z : List Float} → r0 ≡ table_row s w table k → r1 ≡ table_row s w table (k + 1) → r2 ≡ table_row s w table (k + 2) → r3 ≡ table_row s w table (k + 3)
        → z ≡ fill (length y) (λ c. at y c +₆₄ at r0 c *₆₄ at x k +₆₄ at r1 c *₆₄ at x (k + 1) +₆₄ at r2 c *₆₄ at x (k + 2) +₆₄ at r3 c *₆₄ at x (k + 3)) y
        → z ≡ build w (sum_of s table x (k + 4))
    four_turn h0 h1 h2 h3 f =
        whole _ w y length_sums f
        ∙ build_ext w _ _ (λ c p. more (k + 3) c (omega arith) p h3 (more (k + 2) c (omega arith) p h2 (more (k + 1) c (omega arith) p h1 (more k c refl p h0 (sum_at c p)))))

-- ---- the product

pub square_product : (n : ℕ) (a x : List Float) {square y : List Float} → square ≡ square_of n a → y ≡ build n (λ c. sum₆₄ zero₆₄ n (λ k. at square (k * n + c) *₆₄ at x k)) → y ≡ sp_mat_vec a n x
unfolding square_of sp_mat_vec
square_product n a x e h =
    h ∙ build_ext n _ _ (λ c p. iter_ext n _ _ zero₆₄ (λ k q v. ap (λ (t : Float). v +₆₄ t *₆₄ at x k)
    (ap (λ (s : List Float). at s (k * n + c)) e ∙ cell_at nan n n (λ i j. at a (packed j i)) k c q p)))
