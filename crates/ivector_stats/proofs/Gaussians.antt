-- What the Gaussians seen add to the statistics, one after the other.
use mathlib.Core.Path.{◌≡◌, refl, sym, ap, ◌∙◌}
use mathlib.Core.List.{List, map}
use Prim.Native.Nat.{ℕ, ◌+◌, ◌-◌, ◌*◌, ◌≤◌, ◌<◌}
use lib.ListN.{length, get_or, take, drop}
use lib.Ieee.{Float, nan}
use Rattle.loops.specs.Loop.{iter}
use Rattle.loops.specs.Lists.{build}
use Rattle.loops.specs.Inner.{fill}
use Rattle.loops.proofs.Loop.{iter_ext}
use Rattle.loops.proofs.Build.{length_build, at_build, build_ext, build_take, build_list, map-build}
use Rattle.loops.proofs.Fill.{fill_ext}
use Rattle.loops.proofs.Cells.{cell_below, cell_nest}
use Rattle.loops.proofs.Columns.{columns_turn}
use Rattle.loops.proofs.Parts.{lent_is, at_part}
use Rattle.floats.specs.Operators.{◌+₆₄◌, ◌*₆₄◌, zero₆₄, at, sum₆₄, total₆₄}
use Rattle.definition.specs.Kaldi.{triangle}
use Rattle.definition.specs.Statistics.{Entry, seen, sum_for, rescaled, acc_linear, acc_quadratic, acc}
use Rattle.gmm.specs.Batch.{weight, Sums}
use Rattle.ivector_stats.specs.Inner.{linear_term, linear_over, quadratic_over, stats_in}
use Rattle.gmm.proofs.Totals.{sum_total}

-- n elements from a on, as code lends them
abbrev part : ℕ → ℕ → List Float → List Float
part a n l = take (a + n - a) (drop a l)

part_at : (a n : ℕ) (l : List Float) (k : ℕ) → k < n → at (part a n l) k ≡ at l (a + k)
part_at a n l k h = ap (λ (t : List Float). at t k) (lent_is a n (a + n) l refl) ∙ at_part nan a n l k h

-- ---- one Gaussian

module _ (d s g : ℕ) (sim x linear : List Float) (l : length linear ≡ s) where
  pub gauss_linear : {row y : List Float} → row ≡ build s (λ c. sum₆₄ zero₆₄ d (λ a. at (part (g * (d * s)) (d * s) sim) (a * s + c) *₆₄ at x a))
      → y ≡ fill (length linear) (λ c. at linear c +₆₄ at row c) linear → y ≡ fill s (λ c. at linear c +₆₄ linear_term d s sim g (at x) c) linear
  gauss_linear {row} e f =
      f ∙ ap (λ (n : ℕ). fill n (λ c. at linear c +₆₄ at row c) linear) l
      ∙ fill_ext s _ _ linear (λ c p. ap (λ (v : Float). at linear c +₆₄ v)
      (ap (λ (r : List Float). at r c) e ∙ at_build nan s _ c p
      ∙ iter_ext d _ _ zero₆₄ (λ a q v. ap (λ (t : Float). v +₆₄ t *₆₄ at x a) (part_at (g * (d * s)) (d * s) sim (a * s + c) (cell_below a c d s q p) ∙ ap (at sim) (sym (cell_nest g d a s c))))))

pub gauss_quadratic : (g n : ℕ) (w : Float) (u q : List Float) {y : List Float} → y ≡ fill n (λ i. at q i +₆₄ w *₆₄ at (part (g * n) n u) i) q → y ≡ fill n (λ i. at q i +₆₄ w *₆₄ at u (g * n + i)) q
gauss_quadratic g n w u q e = e ∙ fill_ext n _ _ q (λ i p. ap (λ (v : Float). at q i +₆₄ w *₆₄ v) (part_at (g * n) n u i p))

-- ---- all of them

module _ (d s : ℕ) (sim : List Float) (gs : List ℕ) (sum linear : List Float) where
  pub linear_none : length linear ≡ s → linear ≡ linear_over d s sim gs sum linear 0
  unfolding iter
  linear_none l = sym (ap (λ (n : ℕ). build n (at linear)) (sym l) ∙ build_list nan linear)

  pub linear_turn : (k : ℕ) {x y : List Float} → x ≡ linear_over d s sim gs sum linear k
      → y ≡ fill s (λ c. at x c +₆₄ linear_term d s sim (get_or gs k 0) (at (part (k * d) d sum)) c) x → y ≡ linear_over d s sim gs sum linear (k + 1)
  linear_turn k {x} e f =
      columns_turn nan s (λ c k v. v +₆₄ linear_term d s sim (get_or gs k 0) (λ a. at sum (k * d + a)) c) (at linear) k e
      (f ∙ fill_ext s _ _ x (λ c p. ap (λ (v : Float). at x c +₆₄ v) (iter_ext d _ _ zero₆₄ (λ a q v. ap (λ (t : Float). v +₆₄ at sim ((get_or gs k 0 * d + a) * s + c) *₆₄ t) (part_at (k * d) d sum a q)))))

module _ (n : ℕ) (u : List Float) (gs : List ℕ) (tot quadratic : List Float) where
  pub quadratic_none : length quadratic ≡ n → quadratic ≡ quadratic_over n u gs tot quadratic 0
  unfolding iter
  quadratic_none l = sym (ap (λ (n : ℕ). build n (at quadratic)) (sym l) ∙ build_list nan quadratic)

  pub quadratic_turn : (k : ℕ) {x y : List Float} → x ≡ quadratic_over n u gs tot quadratic k
      → y ≡ fill (length x) (λ i. at x i +₆₄ at tot k *₆₄ at u (get_or gs k 0 * length x + i)) x → y ≡ quadratic_over n u gs tot quadratic (k + 1)
  quadratic_turn k {x} e f =
      let l : length x ≡ n = ap length e ∙ length_build n _ in
      columns_turn nan n (λ i k v. v +₆₄ at tot k *₆₄ at u (get_or gs k 0 * n + i)) (at quadratic) k e
      (f ∙ ap (λ (n : ℕ). fill n (λ i. at x i +₆₄ at tot k *₆₄ at u (get_or gs k 0 * n + i)) x) l)

-- ---- over the batch

module _ (d : ℕ) (es : List Entry) (m : ℕ) (gs : List ℕ) (tot sum : List Float) (h : Sums d es m gs tot sum) (long : m ≤ length gs) where
  -- a sum over the slots is one over the Gaussians in the order first seen
  over_seen : (z : Float) (f g : ℕ → Float) → ((k : ℕ) → k < m → f k ≡ g (get_or gs k 0)) → sum₆₄ z m f ≡ total₆₄ z (map g (seen es))
  over_seen z f g e =
      sum_total z m f
      ∙ ap (total₆₄ z) (build_ext m f _ e ∙ sym (map-build g m (λ k. get_or gs k 0)) ∙ ap (map g) (build_take 0 m gs long ∙ h.in_order))

  total_is : sum₆₄ zero₆₄ m (at tot) ≡ total₆₄ zero₆₄ (map (λ g. sum_for es g weight) (seen es))
  total_is = over_seen zero₆₄ (at tot) (λ g. sum_for es g weight) h.weight_is

  linear_is : (s : ℕ) (sim linear : List Float) → linear_over d s sim gs sum linear m ≡ acc_linear d s sim es linear
  unfolding acc_linear
  linear_is s sim linear =
      build_ext s _ _ (λ c p. over_seen (at linear c) _ _ (λ k q. iter_ext d _ _ zero₆₄ (λ a r v. ap (λ (t : Float). v +₆₄ at sim ((get_or gs k 0 * d + a) * s + c) *₆₄ t) (h.features_are a r k q))))

  quadratic_is : (s : ℕ) (u quadratic : List Float) → quadratic_over (triangle s) u gs tot quadratic m ≡ acc_quadratic s u es quadratic
  unfolding acc_quadratic
  quadratic_is s u quadratic =
      build_ext (triangle s) _ _ (λ i p. over_seen (at quadratic i) _ _ (λ k q. ap (λ (t : Float). t *₆₄ at u (get_or gs k 0 * triangle s + i)) (h.weight_is k q)))

  pub acc_is : (s : ℕ) (sim u : List Float) (prior max_count n : Float) (linear quadratic : List Float) {x y : List Float} {w : Float}
      → x ≡ linear_over d s sim gs sum linear m → y ≡ quadratic_over (triangle s) u gs tot quadratic m → w ≡ sum₆₄ zero₆₄ m (at tot)
      → rescaled s prior max_count w (stats_in n x y) ≡ acc d s sim u prior max_count es (stats_in n linear quadratic)
  unfolding acc
  acc_is s sim u prior max_count n linear quadratic e f g = rw (e ∙ linear_is s sim linear, f ∙ quadratic_is s u quadratic, g ∙ total_is)
