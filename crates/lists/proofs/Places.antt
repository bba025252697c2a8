-- The place between two calls: the generator's state and the pushes before; how many numbers stand before those of a call; the lists with one call more.
use Rattle.std.specs.Prelude.{if◌then◌else◌}
use mathlib.Core.Path.{◌≡◌, refl, sym, ap, ap₂, subst, ◌∙◌}
use mathlib.Core.List.{List}
use Prim.Native.Nat.{ℕ, zero, suc, ◌+◌, ◌-◌, ◌*◌, ◌%◌, ◌≤◌, ◌<◌}
use native.Mathlib.Nat.{add-zero, add-mul, mul-le-mul_right}
use native.Mathlib.Numerals.{add-one}
use native.Mathlib.Omega.{arith}
use lib.ListN.{length, set, length-append}
use lib.Dec.{eqb}
use lib.Ieee.{Float}
use Rattle.loops.specs.Loop.{iter}
use Rattle.loops.specs.Lists.{flat}
use Rattle.loops.proofs.Choose.{by-test}
use Rattle.loops.proofs.Loop.{iter_more}
use Rattle.loops.specs.Ring.{put}
use Rattle.loops.proofs.Fill.{fill_none, fill_turn, fill_over}
use Rattle.loops.proofs.Flat.{flat_more, rows_none, rows_put}
use Rattle.lists.specs.Draws.{draw, numbers_of, frame_of, weight_of, Drawing, drawing, kind_in, state_after, drawn_on, drawing_at, kind_at, numbers_at, frame_at, weight_at, drawn_lists, filled}
use Rattle.lists.specs.Inner.TryLoad.{Filled, Placed}
use Rattle.lists.specs.declared.try_load.Place.{Place}
use Rattle.lists.proofs.Steps.{width_is}

-- 1 for a push
abbrev pub one : ℕ → ℕ
one k = if eqb k 0 then 1 else 0

one-few : (k : ℕ) → one k ≤ 1
one-few k = by-test (eqb k 0) (λ e. rw e (omega arith)) (λ e. rw e (omega arith))

module _ (dim seed : ℕ) where
  pub placed_none : Placed dim seed 0 (record { state = seed; pushes = 0 })
  unfolding drawing_at iter
  placed_none = record { state_is = refl; pushes_are = refl; few = omega arith }

  pub drawn_next : (i : ℕ) → drawing_at dim seed (i + 1) ≡ drawn_on dim (drawing_at dim seed i)
  unfolding drawing_at
  drawn_next i = iter_more (λ k. drawn_on dim) (drawing seed 0) i

  pub pushes_next : (i : ℕ) → (drawing_at dim seed (i + 1)).pushes ≡ (drawing_at dim seed i).pushes + one (kind_in (drawing_at dim seed i))
  unfolding drawn_on
  pushes_next i = ap (λ (d : Drawing). d.pushes) (drawn_next i)

  -- the pushes never become fewer
  pub pushes_rise : (i n : ℕ) → (drawing_at dim seed i).pushes ≤ (drawing_at dim seed (i + n)).pushes
  pushes_rise i zero = rw (add-zero i) (omega arith)
  pushes_rise i (suc n) =
      let e : i + suc n ≡ i + n + 1 = omega arith in
      rw e (omega (arith, pushes_rise i n, pushes_next (i + n)))

  -- the numbers before call i
  before_none : length (flat 0 (numbers_at dim seed)) ≡ (drawing_at dim seed 0).pushes * dim
  unfolding flat drawing_at iter
  before_none = omega arith

  before_more : (i : ℕ) → length (flat i (numbers_at dim seed)) ≡ (drawing_at dim seed i).pushes * dim
      → length (flat (i + 1) (numbers_at dim seed)) ≡ (drawing_at dim seed (i + 1)).pushes * dim
  before_more i e =
      ap length (flat_more i (numbers_at dim seed)) ∙ length-append (flat i (numbers_at dim seed)) (numbers_at dim seed i)
      ∙ sum _ _ e (width_is dim (kind_in (drawing_at dim seed i)) (draw (drawing_at dim seed i).state)) (pushes_next i)
    where
      sum : (p k : ℕ) {a b q : ℕ} → a ≡ p * dim → b ≡ k * dim → q ≡ p + k → a + b ≡ q * dim
      sum p k {a} {b} e f g = rw (e, f, g) (sym (add-mul p k dim))

  pub before_is : (i : ℕ) → length (flat i (numbers_at dim seed)) ≡ (drawing_at dim seed i).pushes * dim
  before_is zero = before_none
  before_is (suc i) = subst (λ (n : ℕ). length (flat n (numbers_at dim seed)) ≡ (drawing_at dim seed n).pushes * dim) (add-one i) (before_more i (before_is i))

  -- there is room for those of call i where there is room for all
  pub room_at : (i n room : ℕ) → i < n → (drawing_at dim seed n).pushes * dim ≤ room → (drawing_at dim seed i).pushes * dim + length (numbers_at dim seed i) ≤ room
  room_at i n room h r =
      let k = n - (i + 1) in
      let e : i + 1 + k ≡ n = omega arith in
      let up : (drawing_at dim seed (i + 1)).pushes ≤ (drawing_at dim seed n).pushes = rw e at (pushes_rise (i + 1) k) in
      let few : (drawing_at dim seed (i + 1)).pushes * dim ≤ (drawing_at dim seed n).pushes * dim = mul-le-mul_right dim up in
      let here : (drawing_at dim seed i).pushes * dim + length (numbers_at dim seed i) ≡ (drawing_at dim seed (i + 1)).pushes * dim =
      ap (λ (a : ℕ). a + length (numbers_at dim seed i)) (sym (before_is i)) ∙ sym (length-append (flat i (numbers_at dim seed)) (numbers_at dim seed i))
      ∙ sym (ap length (flat_more i (numbers_at dim seed))) ∙ before_is (i + 1) in
      omega (arith, few, here, r)

  module _ (i : ℕ) (p r : Place) (h : Placed dim seed i p) where
    abbrev k : ℕ
    k = draw p.state % 5

    pub placed_next : r.state ≡ state_after dim k (draw p.state) → r.pushes ≡ p.pushes + one k → Placed dim seed (i + 1) r
    unfolding drawn_on
    placed_next a b =
        record {
          state_is = a ∙ ap (λ (s : ℕ). state_after dim (draw s % 5) (draw s)) h.state_is ∙ sym (ap (λ (d : Drawing). d.state) (drawn_next i));
          pushes_are =
              b ∙ ap (λ (n : ℕ). n + one k) h.pushes_are ∙ ap (λ (s : ℕ). (drawing_at dim seed i).pushes + one (draw s % 5)) h.state_is
              ∙ sym (ap (λ (d : Drawing). d.pushes) (drawn_next i));
          few = omega (arith, b, one-few k, h.few);
        }

-- ---- the lists with one call more

module _ (dim seed i : ℕ) {p : Place} {s : ℕ} (h : Placed dim seed i p) (s-is : s ≡ draw p.state) where
  drawn : s ≡ draw (drawing_at dim seed i).state
  drawn = s-is ∙ ap draw h.state_is

  pub kind_drawn : s % 5 ≡ kind_at dim seed i
  kind_drawn = ap (λ (s : ℕ). s % 5) drawn

  pub numbers_drawn_is : numbers_of dim (s % 5) s ≡ numbers_at dim seed i
  numbers_drawn_is = ap (λ (s : ℕ). numbers_of dim (s % 5) s) drawn

  pub frame_drawn : frame_of (s % 5) s p.pushes ≡ frame_at dim seed i
  frame_drawn = ap₂ (λ (s p : ℕ). frame_of (s % 5) s p) drawn h.pushes_are

  pub weight_drawn : weight_of (s % 5) s ≡ weight_at dim seed i
  weight_drawn = ap (λ (s : ℕ). weight_of (s % 5) s) drawn

  pub room_drawn : (n room : ℕ) → i < n → (drawing_at dim seed n).pushes * dim ≤ room → p.pushes * dim + length (numbers_of dim (s % 5) s) ≤ room
  room_drawn n room l r = rw (h.pushes_are, numbers_drawn_is) (room_at dim seed i n room l r)

  module _ (frames₀ : List Float) (kinds₀ named₀ : List ℕ) (weights₀ : List Float) (frames : List Float) (kinds named : List ℕ) (weights : List Float) where
    pub filled_next : {frames' : List Float} {k f : ℕ} {w : Float} → Filled dim seed i frames₀ kinds₀ named₀ weights₀ frames kinds named weights
        → i < length kinds₀ → i < length named₀ → i < length weights₀ → frames' ≡ put (p.pushes * dim) (numbers_of dim (s % 5) s) frames
        → k ≡ s % 5 → f ≡ frame_of (s % 5) s p.pushes → w ≡ weight_of (s % 5) s
        → Filled dim seed (i + 1) frames₀ kinds₀ named₀ weights₀ frames' (set kinds i k) (set named i f) (set weights i w)
    filled_next l a b c e k-is f-is w-is =
        record {
          frames_are =
              rows_put (numbers_at dim seed) i frames₀ (before_is dim seed i) l.frames_are
              (e ∙ ap₂ (λ (n : ℕ) (x : List Float). put n x frames) (ap (λ (n : ℕ). n * dim) h.pushes_are) numbers_drawn_is);
          kinds_are = fill_turn (kind_at dim seed) i kinds₀ a l.kinds_are (k-is ∙ kind_drawn);
          named_are = fill_turn (frame_at dim seed) i named₀ b l.named_are (f-is ∙ frame_drawn);
          weights_are = fill_turn (weight_at dim seed) i weights₀ c l.weights_are (w-is ∙ weight_drawn);
        }

module _ (dim seed : ℕ) (frames₀ : List Float) (kinds₀ named₀ : List ℕ) (weights₀ : List Float) where
  pub filled_none : Filled dim seed 0 frames₀ kinds₀ named₀ weights₀ frames₀ kinds₀ named₀ weights₀
  filled_none =
      record {
        frames_are = rows_none (numbers_at dim seed) frames₀;
        kinds_are = fill_none (kind_at dim seed) kinds₀;
        named_are = fill_none (frame_at dim seed) named₀;
        weights_are = fill_none (weight_at dim seed) weights₀;
      }

  pub filled_all : (i n : ℕ) {frames : List Float} {kinds named : List ℕ} {weights : List Float} → i ≤ n → n ≤ i
      → Filled dim seed i frames₀ kinds₀ named₀ weights₀ frames kinds named weights
      → drawn_lists frames kinds named weights ≡ filled dim seed n (drawn_lists frames₀ kinds₀ named₀ weights₀)
  unfolding filled
  filled_all i n a b l =
      let e : i ≡ n = omega arith in
      rw (← e, l.frames_are, l.kinds_are, l.named_are, l.weights_are, fill_over (kind_at dim seed) i kinds₀, fill_over (frame_at dim seed) i named₀, fill_over (weight_at dim seed) i weights₀)
