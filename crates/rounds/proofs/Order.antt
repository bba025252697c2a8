-- Floats that are neither below zero nor a NaN (`signless`): sums and squares of what is no NaN stay among them, so that every distance is one
-- (`distance_signless`); and among them the comparison is a total order. What is at most a finite limit is finite (`near_finite`).
use mathlib.Core.Path.{◌≡◌, refl, sym, ap, ◌∙◌, subst}
use mathlib.Core.Bool.{Bool, true, false, not, ◌&&◌, ◌||◌, cond, true≢false, false≢true}
use mathlib.Core.List.{List}
use Prim.Native.Nat.{ℕ, zero, suc, ◌+◌, ◌*◌, ◌^◌, ◌≤◌, ◌<◌}
use native.Mathlib.Nat.{le_trans, le_of_lt, le_of_eq, le_antisymm, lt_of_not-le, not-le_of_lt, mul-pos, zero-mul}
use native.Mathlib.Omega.{arith}
use lib.Dec.{ltb, eqb}
use lib.ListN.{length, get_or}
use lib.Ieee.{Float, nan, inf, fin, Format, binary32, up, down, unlike, odd, units, round, sum, add, sub, mul, lt, eq, le, prec, emax, low, is_nan, of_bits, of_fields}
use lib.Ieee.Fits.{down_pos}
use lib.Ieee.Positive.{through}
use lib.Ieee.Scale.{finite}
use borrow.Author.Tests.{ltb-true, ltb-false, lt-ltb, eqb-true, eq-eqb}
use Rattle.loops.specs.Loop.{iter}
use Rattle.loops.proofs.Choose.{or_first, and_holds, by-test}
use Rattle.floats.specs.Operators.{◌+₃₂◌, ◌-₃₂◌, ◌*₃₂◌, f32, zero₃₂}
use Rattle.floats.proofs.Extremes.{sum-no_nan}
use Rattle.rounds.specs.Voice.{distance, any_not_finite}
use Rattle.rounds.proofs.Patterns.{finite-at}

abbrev pub signless : Float → Bool
signless nan = false
signless (inf s) = not s
signless (fin s m e) = not s

-- ---- where they come from

odd-signless : (d q k l : ℕ) → signless (odd d false q k l) ≡ true
unfolding odd
odd-signless d zero k l = refl
odd-signless d (suc q) k l = refl

either : (b : Bool) (x y : Float) → signless x ≡ true → signless y ≡ true → signless (cond b x y) ≡ true
either true x y p q = p
either false x y p q = q

units-signless : (f : Format) (q k : ℕ) → signless (units f false q k) ≡ true
unfolding units
units-signless f q k = either (ltb (q * 2 ^ k) (2 ^ (low f + suc (emax f)))) (odd (suc (prec f)) false q k (low f)) (inf false) (odd-signless (suc (prec f)) q k (low f)) refl

round-signless : (f : Format) (a c : ℕ) → signless (round f false a c) ≡ true
unfolding round
round-signless f a c = units-signless f _ _

no_sign : (s : Bool) → unlike s s ≡ false
no_sign true = refl
no_sign false = refl

-- a square of what is no NaN
square_signless : (f : Format) (x : Float) → is_nan x ≡ false → signless (mul f x x) ≡ true
unfolding mul is_nan
square_signless f nan h = absurd (true≢false h)
square_signless f (inf s) h = ap (λ (t : Bool). not t) (no_sign s)
square_signless f (fin s m e) h =
    subst (λ (t : Bool). signless (round f t (m * up e * (m * up e)) (down e * down e)) ≡ true) (sym (no_sign s)) (round-signless f (m * up e * (m * up e)) (down e * down e))

add-signless : (f : Format) (x y : Float) → signless x ≡ true → signless y ≡ true → signless (add f x y) ≡ true
unfolding add sum
add-signless f nan y p q = absurd (false≢true p)
add-signless f (inf s) nan p q = absurd (false≢true q)
add-signless f (inf false) (inf false) p q = refl
add-signless f (inf false) (inf true) p q = absurd (false≢true q)
add-signless f (inf true) (inf t) p q = absurd (false≢true p)
add-signless f (inf s) (fin t n d) p q = p
add-signless f (fin s m e) nan p q = absurd (false≢true q)
add-signless f (fin s m e) (inf t) p q = q
add-signless f (fin true m e) (fin t n d) p q = absurd (false≢true p)
add-signless f (fin false m e) (fin true n d) p q = absurd (false≢true q)
add-signless f (fin false m e) (fin false n d) p q = round-signless f (m * up e * down d + n * up d * down e) (down e * down d)

-- a difference of finite numbers is no NaN
sub-no_nan : (f : Format) (x y : Float) → finite x ≡ true → finite y ≡ true → is_nan (sub f x y) ≡ false
unfolding sub
sub-no_nan f nan y p q = absurd (false≢true p)
sub-no_nan f (inf s) y p q = absurd (false≢true p)
sub-no_nan f (fin s m e) nan p q = absurd (false≢true q)
sub-no_nan f (fin s m e) (inf t) p q = absurd (false≢true q)
sub-no_nan f (fin s m e) (fin t n d) p q = sum-no_nan f s (m * up e * down d) (not t) (n * up d * down e) (down e * down d)

zero-signless : signless zero₃₂ ≡ true
unfolding of_bits of_fields odd
zero-signless = refl

module _ (n : ℕ) (v e : List ℕ) (v-finite : any_not_finite v ≡ false) (e-finite : any_not_finite e ≡ false) (i : ℕ) where
  -- the squared difference of elements k
  abbrev term : ℕ → Float
  term k = let d = f32 (get_or v k 0) -₃₂ f32 (get_or e (i * n + k) 0) in d *₃₂ d

  term_signless : (k : ℕ) → k < length v → i * n + k < length e → signless (term k) ≡ true
  term_signless k l m =
      square_signless binary32 _ (sub-no_nan binary32 (f32 (get_or v k 0)) (f32 (get_or e (i * n + k) 0)) (finite-at v k v-finite l) (finite-at e (i * n + k) e-finite m))

  sum_signless : (m : ℕ) → ((k : ℕ) → k < m → signless (term k) ≡ true) → signless (iter m (λ k a. a +₃₂ term k) zero₃₂) ≡ true
  unfolding iter
  sum_signless zero h = zero-signless
  sum_signless (suc m) h =
      add-signless binary32 (iter m (λ k a. a +₃₂ term k) zero₃₂) (term m) (sum_signless m (λ k l. h k (omega arith))) (h m (omega arith))

  pub distance_signless : n ≤ length v → i * n + n ≤ length e → signless (distance n v e i) ≡ true
  unfolding distance
  distance_signless a b = sum_signless _ (λ k l. term_signless k (omega arith) (omega arith))

-- ---- their order

-- a / p < b / q and b / q ≤ c / r, each as products
strict : (a b c p q r : ℕ) → 0 < r → a * q < b * p → b * r ≤ c * q → a * r < c * p
strict a b c p q r R h g = lt_of_not-le (λ (z : c * p ≤ a * r). not-le_of_lt h (through b c a q r p R g z))

module _ (a b : ℕ) where
  below_le : (ltb a b || (eqb a b && true)) ≡ true → a ≤ b
  below_le h = by-test (ltb a b) (λ t. le_of_lt (ltb-true a b t)) (λ t. equal (rw t at h))
    where
      equal : (eqb a b && true) ≡ true → a ≤ b
      equal g = by-test (eqb a b) (λ t. le_of_eq (eqb-true a b t)) (λ t. absurd (false≢true (rw t at g)))

  le_below : a ≤ b → (ltb a b || (eqb a b && true)) ≡ true
  le_below h = by-test (ltb a b) (λ t. rw t) (λ t. rw (t, eq-eqb a b (le_antisymm h (ltb-false a b t))))

-- what is not smaller is at least as large
pub not-lt : (x y : Float) → signless x ≡ true → signless y ≡ true → lt x y ≡ false → le y x ≡ true
unfolding lt eq le
not-lt nan y p q h = absurd (false≢true p)
not-lt (inf true) y p q h = absurd (false≢true p)
not-lt (inf false) nan p q h = absurd (false≢true q)
not-lt (inf false) (inf true) p q h = absurd (false≢true q)
not-lt (inf false) (inf false) p q h = refl
not-lt (inf false) (fin t n d) p q h = refl
not-lt (fin true m e) y p q h = absurd (false≢true p)
not-lt (fin false m e) nan p q h = absurd (false≢true q)
not-lt (fin false m e) (inf true) p q h = absurd (false≢true q)
not-lt (fin false m e) (inf false) p q h = absurd (true≢false h)
not-lt (fin false m e) (fin true n d) p q h = absurd (false≢true q)
not-lt (fin false m e) (fin false n d) p q h = le_below (n * up d * down e) (m * up e * down d) (ltb-false (m * up e * down d) (n * up d * down e) h)

pub lt-le : (x y z : Float) → signless x ≡ true → signless y ≡ true → signless z ≡ true → lt x y ≡ true → le y z ≡ true → lt x z ≡ true
unfolding lt eq le
lt-le nan y z p q r h g = absurd (false≢true h)
lt-le (inf true) y z p q r h g = absurd (false≢true p)
lt-le (inf false) nan z p q r h g = absurd (false≢true h)
lt-le (inf false) (inf t) z p q r h g = absurd (false≢true h)
lt-le (inf false) (fin t n d) z p q r h g = absurd (false≢true h)
lt-le (fin true m e) y z p q r h g = absurd (false≢true p)
lt-le (fin false m e) y nan p q r h g = absurd (false≢true r)
lt-le (fin false m e) y (inf true) p q r h g = absurd (false≢true r)
lt-le (fin false m e) y (inf false) p q r h g = refl
lt-le (fin false m e) nan (fin u k c) p q r h g = absurd (false≢true q)
lt-le (fin false m e) (inf true) (fin u k c) p q r h g = absurd (false≢true q)
lt-le (fin false m e) (inf false) (fin u k c) p q r h g = absurd (false≢true g)
lt-le (fin false m e) (fin true n d) (fin u k c) p q r h g = absurd (false≢true q)
lt-le (fin false m e) (fin false n d) (fin true k c) p q r h g = absurd (false≢true r)
lt-le (fin false m e) (fin false n d) (fin false k c) p q r h g =
    lt-ltb (m * up e * down c) (k * up c * down e)
    (strict (m * up e) (n * up d) (k * up c) (down e) (down d) (down c) (down_pos c) (ltb-true (m * up e * down d) (n * up d * down e) h)
    (below_le (n * up d * down c) (k * up c * down d) g))

pub lt_then_le : (x y : Float) → lt x y ≡ true → le x y ≡ true
unfolding le
lt_then_le x y h = or_first (lt x y) (eq x y) h

pub le_self : (x : Float) → signless x ≡ true → le x x ≡ true
le_self x p = by-test (lt x x) (λ t. lt_then_le x x t) (λ t. not-lt x x p p t)

-- ---- the limit, which may be any float, -0.0 too

none_of : (a p : ℕ) → 0 < p → a * p ≤ 0 → a ≡ 0
none_of zero p h l = refl
none_of (suc a) p h l = let a-some : 0 < suc a = omega arith in absurd (not-le_of_lt (mul-pos a-some h) l)

-- a / p ≤ b / q, and b / q is -c / r: then both are 0
module _ (a b c p q r : ℕ) (Q : 0 < q) (R : 0 < r) (h : a * q ≤ b * p) (g : b * r ≡ c * q) (z : b * r ≡ 0) where
  b_none : b ≡ 0
  b_none = none_of b r R (le_of_eq z)

  a_none : a ≡ 0
  a_none = none_of a q Q (le_trans h (le_of_eq (ap (λ (x : ℕ). x * p) b_none ∙ zero-mul p)))

  c_none : c ≡ 0
  c_none = none_of c q Q (le_of_eq (sym g ∙ z))

  both_none : (eqb (a * r) (c * p) && eqb (a * r) 0) ≡ true
  both_none = rw (a_none, c_none, zero-mul r, zero-mul p)

pub le-le : (x y z : Float) → signless x ≡ true → signless y ≡ true → le x y ≡ true → le y z ≡ true → le x z ≡ true
unfolding lt eq le
le-le nan y z p q h g = absurd (false≢true p)
le-le (inf true) y z p q h g = absurd (false≢true p)
le-le (inf false) nan z p q h g = absurd (false≢true q)
le-le (inf false) (inf true) z p q h g = absurd (false≢true q)
le-le (inf false) (inf false) z p q h g = g
le-le (inf false) (fin t n d) z p q h g = absurd (false≢true h)
le-le (fin true m e) y z p q h g = absurd (false≢true p)
le-le (fin false m e) nan z p q h g = absurd (false≢true q)
le-le (fin false m e) (inf true) z p q h g = absurd (false≢true q)
le-le (fin false m e) (inf false) nan p q h g = absurd (false≢true g)
le-le (fin false m e) (inf false) (inf true) p q h g = absurd (false≢true g)
le-le (fin false m e) (inf false) (inf false) p q h g = refl
le-le (fin false m e) (inf false) (fin u k c) p q h g = absurd (false≢true g)
le-le (fin false m e) (fin true n d) z p q h g = absurd (false≢true q)
le-le (fin false m e) (fin false n d) nan p q h g = absurd (false≢true g)
le-le (fin false m e) (fin false n d) (inf true) p q h g = absurd (false≢true g)
le-le (fin false m e) (fin false n d) (inf false) p q h g = refl
le-le (fin false m e) (fin false n d) (fin true k c) p q h g =
    let a = and_holds (eqb (n * up d * down c) (k * up c * down d)) (eqb (n * up d * down c) 0) g in
    both_none (m * up e) (n * up d) (k * up c) (down e) (down d) (down c) (down_pos d) (down_pos c) (below_le (m * up e * down d) (n * up d * down e) h)
    (eqb-true _ _ a.0) (eqb-true _ _ a.1)
le-le (fin false m e) (fin false n d) (fin false k c) p q h g =
    le_below (m * up e * down c) (k * up c * down e)
    (through (m * up e) (n * up d) (k * up c) (down e) (down d) (down c) (down_pos d) (below_le (m * up e * down d) (n * up d * down e) h)
    (below_le (n * up d * down c) (k * up c * down d) g))

-- an infinite distance is above every finite limit
pub near_finite : (x limit : Float) → signless x ≡ true → finite limit ≡ true → le x limit ≡ true → finite x ≡ true
unfolding lt eq le
near_finite nan limit p f h = absurd (false≢true p)
near_finite (inf true) limit p f h = absurd (false≢true p)
near_finite (inf false) nan p f h = absurd (false≢true f)
near_finite (inf false) (inf t) p f h = absurd (false≢true f)
near_finite (inf false) (fin t n d) p f h = absurd (false≢true h)
near_finite (fin s m e) limit p f h = refl
