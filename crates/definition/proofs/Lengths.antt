-- How long the tables of a model are, and that the lists of a stream's numbers keep their lengths.
use Rattle.std.specs.Prelude.{if◌then◌else◌}
use mathlib.Core.Path.{◌≡◌, refl, ap, ◌∙◌}
use Prim.Native.Nat.{ℕ, ◌+◌, ◌*◌, min}
use mathlib.Core.Bool.{Bool, ◌&&◌}
use mathlib.Core.List.{List, [], ◌∷◌}
use lib.ListN.{length, set, replicate, length-append, length-set, length-replicate}
use lib.Ieee.{Float, neg, lt, eq, ne}
use Rattle.loops.specs.Loop.{Out, on, off, leave, final}
use Rattle.loops.specs.Lists.{build}
use Rattle.loops.proofs.Choose.{by-test}
use Rattle.loops.proofs.Loop.{iter-keeps}
use Rattle.loops.proofs.Leave.{leave-keeps}
use Rattle.loops.proofs.Build.{length_build}
use Rattle.loops.proofs.Flat.{length_cells}
use Rattle.loops.proofs.Triangle.{length_triangle}
use Rattle.floats.specs.Operators.{◌+₆₄◌, ◌-₆₄◌, ◌*₆₄◌, ◌/₆₄◌, zero₆₄, as_f64, at}
use Rattle.floats.specs.Extremes.{larger}
use Rattle.definition.specs.declared.IvectorOptions.{IvectorOptions}
use Rattle.definition.specs.Options.{width}
use Rattle.definition.specs.Kaldi.{Matrix, triangle}
use Rattle.definition.specs.Model.{Model, transposed, sigma_inv_m, quadratic_term}
use Rattle.definition.specs.Views.{Frames, smoothed, windowed, cmvn_state, normalised_row}
use Rattle.definition.specs.Statistics.{Stats, Entry, add_diagonal, new_stats, rescaled, acc_linear, acc_quadratic, acc}
use Rattle.definition.specs.Solve.{Cgd, dot, sp_mat_vec, residual_far, residual_last, residual_worse, backward, solved_or, factor, begun, residual, turn, linear_cgd, prior_vector, get_ivector}
use Rattle.definition.specs.Changes.{Batch}
use Rattle.definition.specs.Estimate.{Estimate, entries, accumulated, updated}

if_long : (t : Bool) (a b : List Float) (n : ℕ) → length a ≡ n → length b ≡ n → length (if t then a else b) ≡ n
if_long t a b n p q = by-test t (λ e. rw e p) (λ e. rw e q)

-- ---- the tables of a model

pub length-transposed : (n : ℕ) (x : Matrix) → length (transposed n x) ≡ n * x.rows
unfolding transposed
length-transposed n x = length_cells n x.rows _

pub length_sigma : (d s : ℕ) (si m : List Float) → length (sigma_inv_m d s si m) ≡ d * s
unfolding sigma_inv_m
length_sigma d s si m = length_cells d s _

pub length_quadratic : (d s : ℕ) (m sim : List Float) → length (quadratic_term d s m sim) ≡ triangle s
unfolding quadratic_term
length_quadratic d s m sim = length_triangle _ s

-- ---- the CMVN state

module _ (o : IvectorOptions) (dim : ℕ) (F : Frames) where
  length_smoothed : (global state : List Float) → length state ≡ dim + 1 → length (smoothed o dim global state) ≡ dim + 1
  unfolding smoothed
  length_smoothed global state h = by-test (lt (at state dim) (as_f64 o.cmn_window)) (λ e. rw e (length_build (dim + 1) _)) (λ e. rw e h)

  length_windowed : (t : ℕ) → length (windowed o dim F t) ≡ dim + 1
  unfolding windowed
  length_windowed t = length-append (build dim _) (_ ∷ []) ∙ ap (λ (n : ℕ). n + 1) (length_build dim _)

  pub length_cmvn : (global : List Float) (t : ℕ) (state : List Float) → length state ≡ dim + 1 → length (cmvn_state o dim global F t state) ≡ dim + 1
  unfolding cmvn_state
  length_cmvn global t state h = length_smoothed global _ (if_long (lt o.min_energy (F.frame t 0)) (windowed o dim F t) state (dim + 1) (length_windowed t) h)

  pub length_row : (global : List Float) (t : ℕ) (state : List Float) → length state ≡ dim + 1 → length (normalised_row o dim global F t state).0 ≡ dim + 1
  unfolding normalised_row
  length_row global t state h = iter-keeps (λ (s : List Float × List Float). length s.0 ≡ dim + 1) (width o) _ (state, []) (λ n l s p. length_cmvn global _ s.0 p) h

-- ---- the statistics

pub length_diagonal : (s : ℕ) (v : Float) (q : List Float) → length (add_diagonal s v q) ≡ length q
unfolding add_diagonal
length_diagonal s v q = iter-keeps (λ (x : List Float). length x ≡ length q) s _ q (λ i l x p. length-set x _ _ ∙ p) refl

pub length_new_linear : (s : ℕ) (prior : Float) → length (new_stats s prior).linear ≡ s
unfolding new_stats
length_new_linear s prior = length-set (replicate s zero₆₄) 0 _ ∙ length-replicate s zero₆₄

pub length_new_quadratic : (s : ℕ) (prior : Float) → length (new_stats s prior).quadratic ≡ triangle s
unfolding new_stats
length_new_quadratic s prior = length_diagonal s _ (replicate (triangle s) zero₆₄) ∙ length-replicate (triangle s) zero₆₄

if_set : (t : Bool) (x : List Float) (v : Float) → length (if t then set x 0 v else x) ≡ length x
if_set t x v = by-test t (λ e. rw e (length-set x 0 v)) (λ e. rw e)

if_diagonal : (t : Bool) (s : ℕ) (v : Float) (q : List Float) → length (if t then add_diagonal s v q else q) ≡ length q
if_diagonal t s v q = by-test t (λ e. rw e (length_diagonal s v q)) (λ e. rw e)

-- whether the prior's scale changes, and by how much
abbrev scale_of : Float → Float → Float
scale_of max_count n = larger n max_count /₆₄ max_count

abbrev change_of : Float → Float → Float → Float
change_of max_count n tot = scale_of max_count (n +₆₄ tot) -₆₄ scale_of max_count n

module _ (s : ℕ) (prior max_count tot : Float) (st : Stats) where
  abbrev more : Bool
  more = lt zero₆₄ max_count && ne (change_of max_count st.num_frames tot) zero₆₄

  length_rescaled_linear : length (rescaled s prior max_count tot st).linear ≡ length st.linear
  unfolding rescaled
  length_rescaled_linear = if_set more st.linear (at st.linear 0 +₆₄ prior *₆₄ change_of max_count st.num_frames tot)

  length_rescaled_quadratic : length (rescaled s prior max_count tot st).quadratic ≡ length st.quadratic
  unfolding rescaled
  length_rescaled_quadratic = if_diagonal more s (change_of max_count st.num_frames tot) st.quadratic

module _ (d s : ℕ) (sigma_inv_m u : List Float) (prior max_count : Float) (es : List Entry) (st : Stats) where
  pub length_acc_linear : length (acc d s sigma_inv_m u prior max_count es st).linear ≡ s
  unfolding acc acc_linear
  length_acc_linear = length_rescaled_linear s prior max_count _ _ ∙ length_build s _

  pub length_acc_quadratic : length (acc d s sigma_inv_m u prior max_count es st).quadratic ≡ triangle s
  unfolding acc acc_quadratic
  length_acc_quadratic = length_rescaled_quadratic s prior max_count _ _ ∙ length_build (triangle s) _

-- ---- the solve

pub length_prior : (n : ℕ) (prior : Float) → length (prior_vector n prior) ≡ n
unfolding prior_vector
length_prior n prior = length-set (replicate n zero₆₄) 0 prior ∙ length-replicate n zero₆₄

pub length-backward : (n : ℕ) (l y : List Float) → length (backward n l y) ≡ n
unfolding backward
length-backward n l y =
    iter-keeps (λ (x : List Float). length x ≡ n) n _ (replicate n zero₆₄) (λ i p x h. length-set x _ _ ∙ h) (length-replicate n zero₆₄)

module _ (a : List Float) (n : ℕ) (b : List Float) where
  length_solved : (x : List Float) (o : Out (List Float)) → length x ≡ n → length (solved_or x n b o) ≡ n
  unfolding solved_or
  length_solved x (on l) h = length-backward n l _
  length_solved x (off l) h = h

  final_if : (t : Bool) (x r p q : List Float) (u v : Float) → length x ≡ n
      → length (final {S = Cgd} (if t then off (record { x = x; r = r; p = p; r_cur = u; r_recompute = v }) else on (record { x = x; r = r; p = q; r_cur = u; r_recompute = v }))).x ≡ n
  final_if t x r p q u v h = by-test t (λ e. rw e h) (λ e. rw e h)

  length_turn : (c : Cgd) → length (final (turn a n b c)).x ≡ n
  unfolding turn
  length_turn c =
      let ap = sp_mat_vec a n c.p in
      let alpha = neg (dot n c.p c.r) /₆₄ dot n c.p ap in
      let x = build n (λ i. at c.x i +₆₄ alpha *₆₄ at c.p i) in
      let moved = build n (λ i. at c.r i +₆₄ alpha *₆₄ at ap i) in
      let square = dot n moved moved in
      let far = residual_far square c.r_recompute in
      let r = if far then residual a n b x else moved in
      let r_next = if far then dot n r r else square in
      final_if (residual_last r_next) x r c.p (build n (λ i. (r_next /₆₄ c.r_cur) *₆₄ at c.p i -₆₄ at r i)) r_next
      (if far then r_next else c.r_recompute) (length_build n (λ i. at c.x i +₆₄ alpha *₆₄ at c.p i))

  begun_long : (x : List Float) → length x ≡ n → length (begun a n b x).x ≡ n
  unfolding begun
  begun_long x h = h

  pub length_cgd : (x : List Float) (m : ℕ) → length x ≡ n → length (linear_cgd a n b x m) ≡ n
  unfolding linear_cgd
  length_cgd x m h =
      let first = (begun a n b x).r_cur in
      let c = final (leave (min (n + 5) m) (λ k. turn a n b) (begun a n b x)) in
      if_long (residual_last first) x (if residual_worse c.r_cur first (dot n b b) then solved_or x n b (factor a n) else c.x) n h
      (if_long (residual_worse c.r_cur first (dot n b b))
      (solved_or x n b (factor a n)) c.x n (length_solved x (factor a n) h)
      (leave-keeps (λ (c : Cgd). length c.x ≡ n) (min (n + 5) m) (λ k. turn a n b) (begun a n b x) (λ i l c p. length_turn c) (begun_long x h)))

pub length_ivector : (n : ℕ) (prior : Float) (iters : ℕ) (st : Stats) (current : List Float) → length current ≡ n → length (get_ivector n prior iters st current) ≡ n
unfolding get_ivector
length_ivector n prior iters st current h =
    let start = if eq (at current 0) zero₆₄ then set current 0 prior else current in
    if_long (lt zero₆₄ st.num_frames) (linear_cgd st.quadratic n st.linear start iters) (prior_vector n prior) n
    (length_cgd st.quadratic n st.linear start iters (if_long (eq (at current 0) zero₆₄) (set current 0 prior) current n (length-set current 0 prior ∙ h) h))
    (length_prior n prior)

-- ---- a whole fetch

-- the lengths of a stream's numbers, by the base and the i-vector dimension
pub record Long (dim s : ℕ) (e : Estimate) : Type 0 where
  pub cmvn_is : length e.cmvn ≡ dim + 1
  pub linear_is : length e.stats.linear ≡ s
  pub quadratic_is : length e.stats.quadratic ≡ triangle s
  pub current_is : length e.current ≡ s

module _ (M : Model) (F : Frames) where
  abbrev dim : ℕ
  dim = M.info.dims.base_dim

  abbrev s : ℕ
  s = M.info.dims.ivector_dim

  length_entries : (bs : Batch) (c : List Float) → length c ≡ dim + 1 → length (entries M F bs c).0 ≡ dim + 1
  unfolding entries
  length_entries [] c h = h
  length_entries (b ∷ bs) c h = length_entries bs _ (length_row M.info.opts dim F M.tables.global_mean_stats b.0 c h)

  length_accumulated : (bs : Batch) (es : List Entry) (st : Stats) → length st.linear ≡ s → length st.quadratic ≡ triangle s
      → (length (accumulated M bs es st).linear ≡ s) × (length (accumulated M bs es st).quadratic ≡ triangle s)
  unfolding accumulated
  length_accumulated [] es st p q = (p, q)
  length_accumulated (b ∷ bs) es st p q = (length_acc_linear _ s _ _ _ _ es st, length_acc_quadratic _ s _ _ _ _ es st)

  pub updated_long : (bs : Batch) (e : Estimate) → Long dim s e → Long dim s (updated M F bs e)
  unfolding updated
  updated_long bs e h =
      let l = length_accumulated bs (entries M F bs e.cmvn).1 e.stats h.linear_is h.quadratic_is in
      record {
        cmvn_is = length_entries bs e.cmvn h.cmvn_is;
        linear_is = l.0;
        quadratic_is = l.1;
        current_is = length_ivector s _ _ _ e.current h.current_is;
      }
