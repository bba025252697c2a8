-- Rows of a table, each times its element of a column that was laid out, added up; and rows that make a table.
use Rattle.std.proofs.Common.{◌≡◌, ℕ, ◌+◌, ◌*◌, ◌/◌, List, ◌++◌, length, drop, sym, refl, ap, ◌∙◌}
use lib.Ieee.{Float, nan, binary64}
use Rattle.loops.specs.Lists.{build, flat, over}
use Rattle.loops.proofs.Loop.{iter_ext}
use Rattle.loops.proofs.Build.{at_build, build_ext}
use Rattle.loops.proofs.Fill.{over_whole, lent_over}
use Rattle.loops.proofs.Flat.{length_cells}
use Rattle.loops.proofs.Triangle.{length_triangle}
use Rattle.algebra.proofs.Rows.{times_comm}
use Rattle.floats.specs.Operators.{◌+₆₄◌, ◌*₆₄◌, zero₆₄, at, sum₆₄}
use Rattle.definition.specs.Kaldi.{Matrix}
use Rattle.definition.specs.Model.{transposed, packed, sigma_inv_m, quadratic_term}
use Rattle.algebra.proofs.Packing.{packed-turned}

-- ---- the sums of a row, by the column that its numbers are from

-- a column of a symmetric matrix is its row
pub row-of-column : (d a : ℕ) (si : List Float) {n : ℕ} {x : List Float} → n ≡ d → x ≡ build n (λ j. at si (packed j a)) → x ≡ build d (λ b. at si (packed a b))
row-of-column d a si l e = e ∙ ap (λ (n : ℕ). build n (λ j. at si (packed j a))) l ∙ build_ext d _ _ (λ b p. ap (at si) (packed-turned b a))

-- the sums of rows that stand s apart, each row times its element of x, with that element first in each product
pub factor-first : (d s w : ℕ) (table : List Float) (f : ℕ → Float) {x y : List Float} → x ≡ build d f → y ≡ build w (λ c. sum₆₄ zero₆₄ d (λ b. at table (b * s + c) *₆₄ at x b))
    → y ≡ build w (λ c. sum₆₄ zero₆₄ d (λ b. f b *₆₄ at table (b * s + c)))
factor-first d s w table f {x} e h =
    h ∙ build_ext w _ _ (λ c p. iter_ext d _ _ zero₆₄ (λ b q v. ap (λ (t : Float). v +₆₄ t)
    (times_comm binary64 (at table (b * s + c)) (at x b) ∙ ap (λ (t : Float). t *₆₄ at table (b * s + c)) (ap (λ (x : List Float). at x b) e ∙ at_build nan d f b q))))

-- the same sums, of a room of w places and of d numbers
pub rows-of : {d w : ℕ} (s : ℕ) (table x z : List Float) {y : List Float} → length z ≡ w → length x ≡ d → y ≡ build (length z) (λ c. sum₆₄ zero₆₄ (length x) (λ b. at table (b * s + c) *₆₄ at x b))
    → y ≡ build w (λ c. sum₆₄ zero₆₄ d (λ b. at table (b * s + c) *₆₄ at x b))
rows-of s table x z e h f = rw (← e, ← h) f

-- ---- the tables of one Gaussian, by their rows

abbrev pub sigma_row : ℕ → ℕ → List Float → List Float → ℕ → ℕ → Float
sigma_row d s si m a c = sum₆₄ zero₆₄ d (λ b. at si (packed a b) *₆₄ at m (b * s + c))

abbrev pub quadratic_row : ℕ → ℕ → List Float → List Float → ℕ → ℕ → Float
quadratic_row d s m sim p q = sum₆₄ zero₆₄ d (λ b. at m (b * s + p) *₆₄ at sim (b * s + q))

module _ (d s : ℕ) (si m : List Float) where
  pub sigma_whole : {y : List Float} (room : List Float) → length room ≡ d * s → y ≡ over (flat d (λ a. build s (sigma_row d s si m a))) room → y ≡ sigma_inv_m d s si m
  unfolding sigma_inv_m
  sigma_whole room l e = e ∙ over_whole _ _ (length_cells d s (sigma_row d s si m) ∙ sym l)

module _ (d s : ℕ) (m sim : List Float) where
  pub quadratic_whole : {y : List Float} (room : List Float) → length room ≡ s * (s + 1) / 2 → y ≡ over (flat s (λ p. build (p + 1) (quadratic_row d s m sim p))) room → y ≡ quadratic_term d s m sim
  unfolding quadratic_term
  quadratic_whole room l e = e ∙ over_whole _ _ (length_triangle (quadratic_row d s m sim) s ∙ sym l)

-- ---- the front of a room, split off and written

pub front_over : {A : Type 0} (n : ℕ) (room xs back : List A) {ys : List A} → length xs ≡ n → back ≡ drop n room → xs ≡ ys → xs ++ back ≡ over ys room
front_over {A = A} n room xs back l e h = ap (λ (t : List A). xs ++ t) e ∙ lent_over n room xs l h

-- ---- columns that become rows

pub transposed-whole : (kept : ℕ) (x : Matrix) (room : List Float) → over (flat kept (λ c. build x.rows (λ r. at x.nums (r * x.cols + c)))) room ≡ over (transposed kept x) room
unfolding transposed
transposed-whole kept x room = refl

-- ---- from lengths and numbers that are told

pub sigma_by : {d e n w : ℕ} {a b m k y : List Float} → y ≡ sigma_inv_m e w a m → e ≡ d → w ≡ n → a ≡ b → m ≡ k → y ≡ sigma_inv_m d n b k
sigma_by h p q r t = rw (← p, ← q, ← r, ← t) h

pub quadratic_by : {d e n w : ℕ} {a b m k y : List Float} → y ≡ quadratic_term e w m (sigma_inv_m e w a m) → e ≡ d → w ≡ n → a ≡ b → m ≡ k
    → y ≡ quadratic_term d n k (sigma_inv_m d n b k)
quadratic_by h p q r t = rw (← p, ← q, ← r, ← t) h
