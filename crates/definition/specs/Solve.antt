-- "Statistics and solve": `linear_cgd`, with `cholesky_solve` behind it, and `get_ivector`. A matrix a is packed, and n wide.
use Rattle.std.specs.Prelude.{ℕ, ◌+◌, ◌-◌, ◌*◌, min, Bool, ◌&&◌, ◌||◌, List, set, replicate, eqb, Float, if◌then◌else◌}
use Rattle.std.specs.Float.Ieee.{neg, lt, le, eq}
use Rattle.loops.specs.Loop.{iter, Out, on, off, leave, final}
use Rattle.loops.specs.Lists.{build}
use Rattle.floats.specs.Operators.{◌+₆₄◌, ◌-₆₄◌, ◌*₆₄◌, ◌/₆₄◌, f64, zero₆₄, one₆₄, at, sum₆₄}
use Rattle.floats.specs.Sqrt.{square_root}
use Rattle.definition.specs.Model.{packed}
use Rattle.definition.specs.Statistics.{Stats}

unfoldable pub dot : ℕ → List Float → List Float → Float
dot n a b = sum₆₄ (neg zero₆₄) n (λ i. at a i *₆₄ at b i)

unfoldable pub sp_mat_vec : List Float → ℕ → List Float → List Float
sp_mat_vec a n x = build n (λ i. sum₆₄ zero₆₄ n (λ j. at a (packed i j) *₆₄ at x j))

-- ---- `cholesky_solve`

-- s - x 0 * y 0 - .. - x (m - 1) * y (m - 1)
unfoldable pub less_products : Float → ℕ → (ℕ → Float) → (ℕ → Float) → Float
less_products s m x y = iter m (λ k s. s -₆₄ x k *₆₄ y k) s

-- row i, column j of the factor L, by rows of n: left at the first pivot that is at most 0
unfoldable pub cell : List Float → ℕ → ℕ → ℕ → List Float → Out (List Float)
cell a n i j l =
    let s = less_products (at a (packed i j)) j (λ k. at l (i * n + k)) (λ k. at l (j * n + k)) in
    if eqb i j then (if le s zero₆₄ then off l else on (set l (i * n + i) (square_root s)))
    else on (set l (i * n + j) (s /₆₄ at l (j * n + j)))

unfoldable pub factor : List Float → ℕ → Out (List Float)
factor a n = leave n (λ i. leave (i + 1) (cell a n i)) (replicate (n * n) zero₆₄)

-- L y = b from the front, then Lᵗ x = y from the back
unfoldable pub forward : ℕ → List Float → List Float → List Float
forward n l b =
    iter n (λ i y. set y i (less_products (at b i) i (λ k. at l (i * n + k)) (at y) /₆₄ at l (i * n + i))) (replicate n zero₆₄)

unfoldable pub backward : ℕ → List Float → List Float → List Float
backward n l y =
    iter n (λ t x. let i = n - 1 - t in
    set x i (less_products (at y i) t (λ k. at l ((i + 1 + k) * n + i)) (λ k. at x (i + 1 + k)) /₆₄ at l (i * n + i))) (replicate n zero₆₄)

-- the solution by L, or x where L was left
unfoldable pub solved_or : List Float → ℕ → List Float → Out (List Float) → List Float
solved_or x n b (on l) = backward n l (forward n l b)
solved_or x n b (off l) = x

-- ---- `linear_cgd`

-- the vector, its residual, the direction; the residual squared, now and when it was last recomputed
pub record Cgd : Type 0 where
  pub x : List Float
  pub r : List Float
  pub p : List Float
  pub r_cur : Float
  pub r_recompute : Float

-- of the residual squared: whether it shrank or grew past a factor since it was recomputed; 3f84.. is 0.01
abbrev pub residual_far : Float → Float → Bool
residual_far square recomputed =
    let factor = f64 0x3f84_7ae1_47ae_147b *₆₄ f64 0x3f84_7ae1_47ae_147b in lt square (factor *₆₄ recomputed) || lt (one₆₄ /₆₄ factor *₆₄ recomputed) square

-- whether it is at most MIN_POSITIVE (0010..), which ends the turns, or lets none begin
abbrev pub residual_last : Float → Bool
residual_last square = le square (f64 0x0010_0000_0000_0000)

-- whether it got worse than the first; bb is b's square, and 3ddb.. is 1e-10
abbrev pub residual_worse : Float → Float → Float → Bool
residual_worse square first bb = lt first square && lt (first +₆₄ f64 0x3ddb_7cdf_d9d7_bdbb *₆₄ bb) square

module _ (a : List Float) (n : ℕ) (b : List Float) where
  unfoldable pub begun : List Float → Cgd
  begun x =
      let ax = sp_mat_vec a n x in
      let p = build n (λ i. at b i -₆₄ at ax i) in
      let r = build n (λ i. neg (at p i)) in
      record { x = x; r = r; p = p; r_cur = dot n r r; r_recompute = dot n r r }

  -- A x - b
  abbrev pub residual : List Float → List Float
  residual x = let ax = sp_mat_vec a n x in build n (λ i. at ax i -₆₄ at b i)

  -- a turn
  unfoldable pub turn : Cgd → Out Cgd
  turn c =
      let ap = sp_mat_vec a n c.p in
      let alpha = neg (dot n c.p c.r) /₆₄ dot n c.p ap in
      let x = build n (λ i. at c.x i +₆₄ alpha *₆₄ at c.p i) in
      let moved = build n (λ i. at c.r i +₆₄ alpha *₆₄ at ap i) in
      let square = dot n moved moved in
      let far = residual_far square c.r_recompute in
      let r = if far then residual x else moved in
      let r_next = if far then dot n r r else square in
      let r_recompute = if far then r_next else c.r_recompute in
      let beta = r_next /₆₄ c.r_cur in
      let p = build n (λ i. beta *₆₄ at c.p i -₆₄ at r i) in
      if residual_last r_next then off (record { x = x; r = r; p = c.p; r_cur = r_next; r_recompute = r_recompute })
      else on (record { x = x; r = r; p = p; r_cur = r_next; r_recompute = r_recompute })

  -- the start itself where that is the solution (request 9); the exact solution instead, or the start, where the residual got worse
  unfoldable pub linear_cgd : List Float → ℕ → List Float
  linear_cgd x max_iters =
      let first = (begun x).r_cur in
      let c = final (leave (min (n + 5) max_iters) (λ k. turn) (begun x)) in
      if residual_last first then x else (if residual_worse c.r_cur first (dot n b b) then solved_or x n b (factor a n) else c.x)

-- the prior: a vector of zeros but for the offset in element 0
unfoldable pub prior_vector : ℕ → Float → List Float
prior_vector n prior = set (replicate n zero₆₄) 0 prior

-- `get_ivector`, from the current vector
unfoldable pub get_ivector : ℕ → Float → ℕ → Stats → List Float → List Float
get_ivector n prior num_cg_iters st current =
    let start = if eq (at current 0) zero₆₄ then set current 0 prior else current in
    if lt zero₆₄ st.num_frames then linear_cgd st.quadratic n st.linear start num_cg_iters else prior_vector n prior
