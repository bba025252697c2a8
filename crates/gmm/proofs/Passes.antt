-- A room of n places, each with a counted loop of its own: code does some turns at all places before the next turns. A pass adds one
-- to four rows, each number of rows by the one before it and a row more (`added_more`).
use mathlib.Core.Path.{◌≡◌, sym, ap, ◌∙◌}
use mathlib.Core.List.{List}
use Prim.Native.Nat.{ℕ, ◌+◌, ◌-◌, ◌*◌, ◌≤◌, ◌<◌}
use native.Mathlib.Omega.{arith}
use lib.ListN.{length, length-set, get_or, set}
use lib.Ieee.{Float, nan}
use Rattle.loops.specs.Loop.{iter}
use Rattle.loops.specs.Lists.{build}
use Rattle.loops.specs.Inner.{fill, from}
use Rattle.loops.proofs.Build.{length_build, at_build, build_ext}
use Rattle.loops.proofs.Fill.{fill_ext, fill_at, fill_whole, fill_again, fill_over, over_self, fill_turn, fill_ahead}
use Rattle.loops.proofs.Loop.{iter_more}
use Rattle.loops.proofs.From.{from-after}
use Rattle.loops.proofs.Parts.{at_part}
use Rattle.floats.specs.Operators.{◌+₃₂◌, ◌*₃₂◌, at, sum₃₂}
use Rattle.gmm.specs.Factor.{row}

-- place m starts at what x has there, and turn k takes it through f m k
module _ {A : Type 0} (d : A) (n : ℕ) (f : ℕ → ℕ → A → A) (x : List A) where
  pub pass_none : n ≤ length x → x ≡ fill n (λ m. iter 0 (f m) (get_or x m d)) x
  unfolding iter
  pass_none l = sym (fill_over _ n x ∙ over_self d n x l)

  -- the turns below k are done, then those from k to r
  pub pass_turn : (k r : ℕ) {y z : List A} → k ≤ r → y ≡ fill n (λ m. iter k (f m) (get_or x m d)) x → z ≡ fill n (λ m. from k r (f m) (get_or y m d)) y → z ≡ fill n (λ m. iter r (f m) (get_or x m d)) x
  pass_turn k r l e h =
      h ∙ ap (λ (s : List A). fill n (λ m. from k r (f m) (get_or s m d)) s) e
      ∙ fill_again n n _ _ x (omega arith)
      ∙ fill_ext n _ _ x (λ m p. ap (from k r (f m)) (fill_at d _ n x m p) ∙ from-after k (f m) (get_or x m d) r l)

-- the first k places are done, each made from its old value by f, and then place k: what a loop over the places keeps
pub place_done : (f : ℕ → Float → Float) (k : ℕ) (x : List Float) {n : ℕ} {s : List Float} → k < n → (k ≤ n) × (n ≡ length x) × (length s ≡ length x) × (s ≡ fill k (λ m. f m (at x m)) x)
    → (k + 1 ≤ n) × (n ≡ length x) × (length (set s k (f k (at s k))) ≡ length x) × (set s k (f k (at s k)) ≡ fill (k + 1) (λ m. f m (at x m)) x)
place_done f k x {s = s} l h =
    (omega arith, h.1, length-set s k _ ∙ h.2, fill_turn _ k x (omega (arith, h)) h.3 (ap (f k) (fill_ahead nan _ k x h.3)))

-- no turn, and one turn more
module _ {S : Type 0} (k : ℕ) (f : ℕ → S → S) (s : S) where
  from_none : from k k f s ≡ s
  unfolding from iter
  from_none = let e : k - k ≡ 0 = omega arith in rw e

  from_more : (i j : ℕ) → k ≤ i → j ≡ i + 1 → from k j f s ≡ f i (from k i f s)
  unfolding from
  from_more i j l e =
      let h : j - k ≡ i - k + 1 = omega arith in
      let g : k + (i - k) ≡ i = omega arith in
      rw (h, iter_more _ _ (i - k)) (ap (λ (q : ℕ). f q (iter (i - k) (λ t. f (k + t)) s)) g)

-- rows of a table, n wide, each times what `times` makes of its number
module _ (n : ℕ) (table x : List Float) (times : Float → Float) (sum : List Float) where
  term : (k m : ℕ) {r : List Float} {v : Float} → m < n → r ≡ row n table k → v ≡ times (at x k) → at r m *₃₂ v ≡ at table (k * n + m) *₃₂ times (at x k)
  unfolding row
  term k m p e h = rw (e, h, at_part nan (k * n) n table m p)

  -- g m is place m with the rows from k to i added, one after the other
  abbrev Added : ℕ → ℕ → (ℕ → Float) → Type 0
  Added k i g = (m : ℕ) → m < n → g m ≡ from k i (λ i a. a +₃₂ at table (i * n + m) *₃₂ times (at x i)) (at sum m)

  -- no row, and a row more
  added_none : (k : ℕ) → Added k k (at sum)
  added_none k m p = sym (from_none k _ _)

  added_more : (k i j : ℕ) {g : ℕ → Float} {r : List Float} {v : Float} → k ≤ i → j ≡ i + 1 → Added k i g → r ≡ row n table i → v ≡ times (at x i)
      → Added k j (λ m. g m +₃₂ at r m *₃₂ v)
  added_more k i j l q w e h m p = rw (w m p, term i m p e h) (sym (from_more k _ _ i j l q))

  -- a pass over all places adds the rows from k to i
  abbrev Passed : ℕ → ℕ → List Float → Type 0
  Passed k i y = y ≡ fill n (λ m. from k i (λ i a. a +₃₂ at table (i * n + m) *₃₂ times (at x i)) (at sum m)) sum

  passed : (k i : ℕ) {g : ℕ → Float} {y : List Float} → Added k i g → y ≡ fill n g sum → Passed k i y
  passed k i w h = h ∙ fill_ext n _ _ sum w

  module _ (k : ℕ) {r0 : List Float} {v0 : Float} (e0 : r0 ≡ row n table k) (h0 : v0 ≡ times (at x k)) where
    one-added : Added k (k + 1) (λ m. at sum m +₃₂ at r0 m *₃₂ v0)
    one-added = added_more k k (k + 1) (omega arith) (omega arith) (added_none k) e0 h0

    pub one-row : {y : List Float} → y ≡ fill n (λ m. at sum m +₃₂ at r0 m *₃₂ v0) sum → Passed k (k + 1) y
    one-row = passed k (k + 1) one-added

    module _ {r1 : List Float} {v1 : Float} (e1 : r1 ≡ row n table (k + 1)) (h1 : v1 ≡ times (at x (k + 1))) where
      two_added : Added k (k + 2) (λ m. at sum m +₃₂ at r0 m *₃₂ v0 +₃₂ at r1 m *₃₂ v1)
      two_added = added_more k (k + 1) (k + 2) (omega arith) (omega arith) one-added e1 h1

      pub two_rows : {y : List Float} → y ≡ fill n (λ m. at sum m +₃₂ at r0 m *₃₂ v0 +₃₂ at r1 m *₃₂ v1) sum → Passed k (k + 2) y
      two_rows = passed k (k + 2) two_added

      module _ {r2 : List Float} {v2 : Float} (e2 : r2 ≡ row n table (k + 2)) (h2 : v2 ≡ times (at x (k + 2))) where
        three_added : Added k (k + 3) (λ m. at sum m +₃₂ at r0 m *₃₂ v0 +₃₂ at r1 m *₃₂ v1 +₃₂ at r2 m *₃₂ v2)
        three_added = added_more k (k + 2) (k + 3) (omega arith) (omega arith) two_added e2 h2

        pub three_rows : {y : List Float} → y ≡ fill n (λ m. at sum m +₃₂ at r0 m *₃₂ v0 +₃₂ at r1 m *₃₂ v1 +₃₂ at r2 m *₃₂ v2) sum → Passed k (k + 3) y
        three_rows = passed k (k + 3) three_added

        pub four_rows : {r3 : List Float} {v3 : Float} → r3 ≡ row n table (k + 3) → v3 ≡ times (at x (k + 3))
            → {y : List Float} → y ≡ fill n (λ m. at sum m +₃₂ at r0 m *₃₂ v0 +₃₂ at r1 m *₃₂ v1 +₃₂ at r2 m *₃₂ v2 +₃₂ at r3 m *₃₂ v3) sum → Passed k (k + 4) y
        four_rows e h = passed k (k + 4) (added_more k (k + 3) (k + 4) (omega arith) (omega arith) three_added e h)

  -- the rows below k are added, then those from k to r
  pub rows_turn : (k r : ℕ) {y z : List Float} → k ≤ r → length y ≡ n
      → y ≡ fill n (λ m. sum₃₂ (at sum m) k (λ i. at table (i * n + m) *₃₂ times (at x i))) sum
      → z ≡ fill (length y) (λ m. from k r (λ i a. a +₃₂ at table (i * length y + m) *₃₂ times (at x i)) (at y m)) y
      → z ≡ fill n (λ m. sum₃₂ (at sum m) r (λ i. at table (i * n + m) *₃₂ times (at x i))) sum
  rows_turn k r {y} l e g h =
      pass_turn nan n (λ m i a. a +₃₂ at table (i * n + m) *₃₂ times (at x i)) sum k r l g
      (h ∙ ap (λ (n : ℕ). fill n (λ m. from k r (λ i a. a +₃₂ at table (i * n + m) *₃₂ times (at x i)) (at y m)) y) e)

-- the sums from what a room of n places is given to start from: s m at place m
pub rows_from : (n d : ℕ) (table : List Float) (v s : ℕ → Float) (room : List Float) {y z : List Float} → length room ≡ n → y ≡ fill n s room
    → z ≡ fill (length y) (λ m. sum₃₂ (at y m) d (λ k. at table (k * length y + m) *₃₂ v k)) y → z ≡ build n (λ m. sum₃₂ (s m) d (λ k. at table (k * n + m) *₃₂ v k))
rows_from n d table v s room {y} l e h =
    let g : y ≡ build n s = e ∙ fill_whole s n room l in
    let w : length y ≡ n = ap length g ∙ length_build n s in
    h ∙ ap (λ (n : ℕ). fill n (λ m. sum₃₂ (at y m) d (λ k. at table (k * n + m) *₃₂ v k)) y) w ∙ fill_whole _ n y w
    ∙ build_ext n _ _ (λ m p. ap (λ (a : Float). sum₃₂ a d (λ k. at table (k * n + m) *₃₂ v k)) (ap (λ (x : List Float). at x m) g ∙ at_build nan n s m p))
