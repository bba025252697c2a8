-- The LDA's sums over a row that comes in parts: over the numbers so far, then over those of the next part (`lda_append`).
use Rattle.std.proofs.Common.{◌≡◌, ℕ, ◌+◌, ◌-◌, ◌*◌, ◌<◌, List, [], ◌++◌, length, take, drop, sym, ap, ◌∙◌, length-append, get_or-append-add}
use lib.ListN.{get_or-append}
use lib.Ieee.{Float, nan}
use Rattle.loops.specs.Loop.{iter}
use Rattle.loops.specs.Lists.{build}
use Rattle.loops.specs.Inner.{fill}
use Rattle.loops.proofs.Loop.{iter_add, iter_ext}
use Rattle.loops.proofs.Build.{length_build, at_build, build_ext}
use Rattle.loops.proofs.Fill.{fill_whole}
use Rattle.loops.proofs.Cells.{cell_below, cell_nest}
use Rattle.loops.proofs.Parts.{lent_is, at_part}
use Rattle.floats.specs.Operators.{◌+₃₂◌, ◌*₃₂◌, at, sum₃₂}
use Rattle.definition.specs.Views.{lda_frame}

-- a sum of terms that agree
sum_ext : (a : Float) (n : ℕ) (f g : ℕ → Float) → ((k : ℕ) → k < n → f k ≡ g k) → sum₃₂ a n f ≡ sum₃₂ a n g
sum_ext a n f g e = iter_ext n _ _ a (λ k p x. ap (λ (y : Float). x +₃₂ y) (e k p))

module _ (d : ℕ) (table offset : List Float) where
  length_lda : (xs : List Float) → length (lda_frame d table offset xs) ≡ d
  unfolding lda_frame
  length_lda xs = length_build d _

  -- over no number: the offset
  pub lda_none : (room : List Float) {y : List Float} → length room ≡ d → y ≡ fill d (at offset) room → y ≡ lda_frame d table offset []
  unfolding lda_frame iter
  lda_none room l e = e ∙ fill_whole (at offset) d room l

  -- over two parts: the second goes on where the first stops, in the sums and in the table
  pub lda_append : (xs ys : List Float) → lda_frame d table offset (xs ++ ys)
      ≡ build d (λ r. sum₃₂ (at (lda_frame d table offset xs) r) (length ys) (λ c. at table ((length xs + c) * d + r) *₃₂ at ys c))
  unfolding lda_frame
  lda_append xs ys =
      build_ext d _ _ (λ r p.
      ap (λ (n : ℕ). sum₃₂ (at offset r) n (λ c. at table (c * d + r) *₃₂ at (xs ++ ys) c)) (length-append xs ys)
      ∙ iter_add _ _ (length xs) (length ys)
      ∙ ap (λ (a : Float). sum₃₂ a (length ys) (λ c. at table ((length xs + c) * d + r) *₃₂ at (xs ++ ys) (length xs + c)))
      (sum_ext (at offset r) (length xs) _ _ (λ c q. ap (λ (v : Float). at table (c * d + r) *₃₂ v) (get_or-append xs ys nan c q)) ∙ sym (at_build nan d _ r p))
      ∙ sum_ext _ (length ys) _ _ (λ c q. ap (λ (v : Float). at table ((length xs + c) * d + r) *₃₂ v) (get_or-append-add xs ys c nan)))

  -- row c of part n of the table, each part of h rows, as code lends it
  part_at : (n h c r : ℕ) {size start end : ℕ} → size ≡ h * d → start ≡ n * size → end ≡ start + size → c < h → r < d
      → at (take (end - start) (drop start table)) (c * d + r) ≡ at table ((n * h + c) * d + r)
  part_at n h c r {size} {start} {end} s t u p q =
      let e : start + (c * d + r) ≡ (n * h + c) * d + r = rw (t, s) (sym (cell_nest n h c d r)) in
      ap (λ (b : List Float). at b (c * d + r)) (lent_is start size end table u) ∙ at_part nan start size table (c * d + r) (rw s (cell_below c r h d p q)) ∙ ap (at table) e

  -- as code goes on: after n parts of h numbers the next, with its part of the table
  pub lda_on : (n h : ℕ) (xs ys : List Float) {size start end : ℕ} {y z : List Float} → length xs ≡ n * h → length ys ≡ h → size ≡ h * d → start ≡ n * size → end ≡ start + size
      → y ≡ lda_frame d table offset xs → z ≡ fill (length y) (λ r. sum₃₂ (at y r) h (λ c. at (take (end - start) (drop start table)) (c * length y + r) *₃₂ at ys c)) y
      → z ≡ lda_frame d table offset (xs ++ ys)
  lda_on n h xs ys {size} {start} {end} {y} p q s t u g k =
      let part = take (end - start) (drop start table) in
      let l : length y ≡ d = ap length g ∙ length_lda xs in
      let w : lda_frame d table offset (xs ++ ys) ≡ build d (λ r. sum₃₂ (at y r) h (λ c. at table ((n * h + c) * d + r) *₃₂ at ys c)) = rw (lda_append xs ys, p, q, g) in
      k ∙ ap (λ (m : ℕ). fill m (λ r. sum₃₂ (at y r) h (λ c. at part (c * m + r) *₃₂ at ys c)) y) l ∙ fill_whole _ d y l
      ∙ build_ext d _ _ (λ r i. sum_ext (at y r) h _ _ (λ c j. ap (λ (v : Float). v *₃₂ at ys c) (part_at n h c r s t u j i))) ∙ sym w
