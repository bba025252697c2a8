-- `square_root` is correctly rounded: it is the f64 nearest to the root, a tie to the even one. Two theorems at the end say this together, of
-- every f64 x above zero and every fraction a / b:
--     root_not_below     where a / b is at most the root of x, `square_root x` is not below the f64 that a / b rounds to
--     root_not_above     where a / b is at least the root of x, `square_root x` is not above the f64 that a / b rounds to
-- "a / b is at most the root" is said without a root, by a² / b² ≤ x, and `round` is the library's, which `+` and `/` go by.
-- Why that is correct rounding. Take the fractions that f64s are: each rounds to itself, so `square_root x` is not below the largest f64 that is
-- at most the root, nor above the smallest that is at least the root. Take the fractions between the root and the middle of these two: they all
-- round to the neighbour on the root's side, so `square_root x` is that one. And where the root is the middle itself, both theorems apply to it,
-- so `square_root x` is what the middle rounds to.
use Rattle.std.proofs.Common.{◌≡◌, ℕ, suc, ◌+◌, ◌-◌, ◌*◌, ◌/◌, ◌%◌, ◌^◌, ◌<◌, ◌≤◌, Bool, true, false, not, ◌&&◌, T, eqb, ltb, leb, ℤ, pos, negsuc, sym, ap, ◌∙◌, subst, inl, inr, le_trans, le_of_eq, le_refl, lt_of_lt_of_le, lt_of_le_of_lt, le_of_lt, mul-le-mul_right, zero-lt-suc, mul_assoc, mul_comm, div-lt_iff_lt-mul, suc-add, eq-or-lt_of_le, mul-le-mul_left, mul-lt-mul_of_pos_right, mul-pos, one-mul, le-div_iff_mul-le, mul-one, mul_right_comm, div-mul-le_self, le_of_mul-le-mul_right, div-one, mul-div_cancel, mul_left_comm, arith, lit<, lit≤, ltb→lt, leb→le, nltb→le, pow_pos, pow-add}
use native.Mathlib.Nat.{mul-mul-mul_comm, pow-succ'}
use lib.Ieee.{Float, fin, binary64, up, down, size, units, round, le, fits}
use lib.Ieee.Digits.{size-lt, size_reaches}
use lib.Ieee.Fits.{down_pos, up_pos, round_is, and_l, and_r}
use lib.Ieee.Nearest.{closest, closest_same}
use lib.Ieee.Order.{round_mono}
use lib.Ieee.Scale.{round_same}
use Rattle.floats.specs.Sqrt.{whole_root, twice_root, square_root}
use Rattle.floats.proofs.Sizes.{size_gt, pow_le_back}
use Rattle.floats.proofs.Closest.{between}
use Rattle.floats.proofs.Squares.{IsRoot, sq_lt_back, sq_le_back}
use Rattle.floats.proofs.Roots.{whole_root_is, twice_exact, twice_short, next-even}
use Rattle.floats.proofs.RootPlaces.{root_at, places_dropped, places_kept}

next_power : (k j : ℕ) → 2 ^ (suc k + j) ≡ 2 * 2 ^ (k + j)
next_power k j = ap (λ (x : ℕ). 2 ^ x) (suc-add k j) ∙ pow-succ' 2 (k + j)

below-even : (r s : ℕ) → r < s → 2 * r + 2 ≤ 2 * s
below-even r s h = omega arith

twice_less : (c s : ℕ) → c < s → 2 * c < 2 * s
twice_less c s h = omega arith

-- ---- every fraction between two neighbouring even numbers, 2 r and 2 r + 2, over 2 ^ 601, rounds alike
module _ (r : ℕ) (big : 2 ^ 53 ≤ r) where
  abbrev j : ℕ
  j = size r - 54

  r_lo : 2 ^ (53 + j) ≤ r
  r_lo = size_reaches r (53 + j) (go (size r) (size_gt r 53 big))
    where
      go : (z : ℕ) → 53 < z → 53 + (z - 54) < z
      go z h = omega arith

  r_hi : r < 2 ^ (54 + j)
  r_hi = subst (λ (x : ℕ). r < 2 ^ x) (go (size r) (size_gt r 53 big)) (size-lt r)
    where
      go : (z : ℕ) → 53 < z → z ≡ 54 + (z - 54)
      go z h = omega arith

  module _ (y b : ℕ) (B : 0 < b) (l : 2 * r * b < y) (u : y < (2 * r + 2) * b) where
    lowest : 2 ^ (54 + j) * b ≤ y
    lowest = le_trans (mul-le-mul_right b (le_trans (le_of_eq (next_power 53 j)) (mul-le-mul_left 2 r_lo))) (le_of_lt l)

    highest : y < 2 ^ (55 + j) * b
    highest = lt_of_lt_of_le u (mul-le-mul_right b (le_trans (below-even r (2 ^ (54 + j)) r_hi) (le_of_eq (sym (next_power 54 j)))))

    -- so it lies between two neighbouring even multiples of 2 ^ j too
    under : 2 * (r / 2 ^ j) * (2 ^ j * b) < y
    under = lt_of_le_of_lt (le_trans (le_of_eq (sym (mul_assoc (2 * (r / 2 ^ j)) (2 ^ j) b))) (mul-le-mul_right b (le_trans (le_of_eq (mul_assoc 2 (r / 2 ^ j) (2 ^ j))) (mul-le-mul_left 2 (div-mul-le_self r (2 ^ j)))))) l

    over : y < (2 * (r / 2 ^ j) + 2) * (2 ^ j * b)
    over = lt_of_lt_of_le u (le_trans (mul-le-mul_right b step) (le_of_eq (mul_assoc (2 * (r / 2 ^ j) + 2) (2 ^ j) b)))
      where
        less : (x : ℕ) → x < x + 1
        less x = omega arith

        step : 2 * r + 2 ≤ (2 * (r / 2 ^ j) + 2) * 2 ^ j
        step = le_trans (below-even r ((r / 2 ^ j + 1) * 2 ^ j) ((div-lt_iff_lt-mul (pow_pos j)).0 (less (r / 2 ^ j)))) (le_of_eq (sym (mul_assoc 2 (r / 2 ^ j + 1) (2 ^ j)) ∙ ap (λ (x : ℕ). x * 2 ^ j) (next-even (r / 2 ^ j))))

    pub rounds_alike : round binary64 false y (b * 2 ^ 601) ≡ units binary64 false (closest (2 * (r / 2 ^ j) + 1) 4) (475 + j)
    rounds_alike =
        round_is binary64 false y (b * 2 ^ 601)
        ∙ ap (λ (k : ℕ). units binary64 false (closest (y * 2 ^ 1074) (b * 2 ^ 601 * 2 ^ k)) k) (places_dropped y b j B lowest highest)
        ∙ ap (λ (q : ℕ). units binary64 false q (475 + j))
        (closest_same (y * 2 ^ 1074) (b * 2 ^ 601 * 2 ^ (475 + j)) y (4 * (2 ^ j * b)) (mul-pos (mul-pos B (pow_pos 601)) (pow_pos (475 + j))) (mul-pos (lit< tt) (mul-pos (pow_pos j) B)) (places_kept y b j B)
        ∙ between (r / 2 ^ j) (2 ^ j * b) y under over)

-- ---- a fraction c / b beside the root of n
module _ (n r : ℕ) (h : IsRoot n r) (big : 2 ^ 53 ≤ r) (c b : ℕ) (B : 0 < b) where
  abbrev root : Float
  root = round binary64 false (twice_root n) (2 ^ 601)

  abbrev other : Float
  other = round binary64 false (2 * c) (b * 2 ^ 601)

  rise : 2 * c ≤ twice_root n * b → T (le other root)
  rise l = round_mono binary64 (2 * c) (b * 2 ^ 601) (twice_root n) (2 ^ 601) (mul-pos B (pow_pos 601)) (pow_pos 601) (le_trans (mul-le-mul_right (2 ^ 601) l) (le_of_eq (mul_assoc (twice_root n) b (2 ^ 601))))

  fall : twice_root n * b ≤ 2 * c → T (le root other)
  fall l = round_mono binary64 (twice_root n) (2 ^ 601) (2 * c) (b * 2 ^ 601) (pow_pos 601) (mul-pos B (pow_pos 601)) (le_trans (le_of_eq (sym (mul_assoc (twice_root n) b (2 ^ 601)))) (mul-le-mul_right (2 ^ 601) l))

  self : T (le other other)
  self = round_mono binary64 (2 * c) (b * 2 ^ 601) (2 * c) (b * 2 ^ 601) (mul-pos B (pow_pos 601)) (mul-pos B (pow_pos 601)) (le_refl (2 * c * (b * 2 ^ 601)))

  alike : r * r < n → 2 * r * b < 2 * c → 2 * c < (2 * r + 2) * b → other ≡ root
  alike s l u =
      rounds_alike r big (2 * c) b B l u
      ∙ sym (rounds_alike r big (twice_root n) 1 (lit< tt) (subst (λ (x : ℕ). 2 * r * 1 < x) (sym (twice_short n r h s)) (lo r)) (subst (λ (x : ℕ). x < (2 * r + 2) * 1) (sym (twice_short n r h s)) (hi r)))
    where
      lo : (r : ℕ) → 2 * r * 1 < 2 * r + 1
      lo r = omega arith

      hi : (r : ℕ) → 2 * r + 1 < (2 * r + 2) * 1
      hi r = omega arith

  not_above : c * c ≤ n * (b * b) → T (le other root)
  not_above k = elim (eq-or-lt_of_le h.under) [
    | inl e ↦ rise (le_trans (mul-le-mul_left 2 (sq_le_back c (r * b) (le_trans k (le_of_eq (ap (λ (x : ℕ). x * (b * b)) (sym e) ∙ mul-mul-mul_comm r r b b))))) (le_of_eq (sym (mul_assoc 2 r b) ∙ ap (λ (x : ℕ). x * b) (sym (twice_exact n r e)))))
    | inr s ↦ go s (ltb (2 * r * b) (2 * c)) (ltb→lt (2 * r * b) (2 * c)) (nltb→le (2 * r * b) (2 * c))
  ]
    where
      top : c < (r + 1) * b
      top = sq_lt_back c ((r + 1) * b) (lt_of_le_of_lt k (subst (λ (x : ℕ). n * (b * b) < x) (mul-mul-mul_comm (r + 1) (r + 1) b b) (mul-lt-mul_of_pos_right h.over (mul-pos B B))))

      less : (x : ℕ) → x ≤ x + 1
      less x = omega arith

      go : r * r < n → (t : Bool) → (T t → 2 * r * b < 2 * c) → (T (not t) → 2 * c ≤ 2 * r * b) → T (le other root)
      go s true p q = subst (λ (x : Float). T (le other x)) (alike s (p tt) (subst (λ (x : ℕ). 2 * c < x) (sym (mul_assoc 2 (r + 1) b) ∙ ap (λ (x : ℕ). x * b) (next-even r)) (twice_less c ((r + 1) * b) top))) self
      go s false p q = rise (le_trans (q tt) (mul-le-mul_right b (subst (λ (x : ℕ). 2 * r ≤ x) (sym (twice_short n r h s)) (less (2 * r)))))

  not-below : n * (b * b) ≤ c * c → T (le root other)
  not-below k = elim (eq-or-lt_of_le h.under) [
    | inl e ↦ fall (le_trans (le_of_eq (ap (λ (x : ℕ). x * b) (twice_exact n r e) ∙ mul_assoc 2 r b)) (mul-le-mul_left 2 (sq_le_back (r * b) c (le_trans (le_of_eq (sym (mul-mul-mul_comm r r b b) ∙ ap (λ (x : ℕ). x * (b * b)) e)) k))))
    | inr s ↦ go s (ltb (2 * c) ((2 * r + 2) * b)) (ltb→lt (2 * c) ((2 * r + 2) * b)) (nltb→le (2 * c) ((2 * r + 2) * b))
  ]
    where
      bottom : r * r < n → r * b < c
      bottom s = sq_lt_back (r * b) c (lt_of_lt_of_le (subst (λ (x : ℕ). x < n * (b * b)) (mul-mul-mul_comm r r b b) (mul-lt-mul_of_pos_right s (mul-pos B B))) k)

      less : (x : ℕ) → x + 1 ≤ x + 2
      less x = omega arith

      go : r * r < n → (t : Bool) → (T t → 2 * c < (2 * r + 2) * b) → (T (not t) → (2 * r + 2) * b ≤ 2 * c) → T (le root other)
      go s true p q = subst (λ (x : Float). T (le x other)) (alike s (subst (λ (x : ℕ). x < 2 * c) (sym (mul_assoc 2 r b)) (twice_less (r * b) c (bottom s))) (p tt)) self
      go s false p q = fall (le_trans (mul-le-mul_right b (subst (λ (x : ℕ). x ≤ 2 * r + 2) (sym (twice_short n r h s)) (less (2 * r)))) (q tt))

-- ---- a value above zero is a whole number n of 4 ^ -600
low-enough : (s : Bool) (m : ℕ) (e : ℤ) → T (fits binary64 (fin s (suc m) e)) → down e ≤ 2 ^ 1074
unfolding fits
low-enough s m e t =
    let A = eqb (suc m % 2) 1 in
    let B = ltb (suc m) (2 ^ 53) in
    let C = leb (down e) (2 ^ 1074) in
    let D = ltb (suc m * up e) (2 ^ 1024 * down e) in
    leb→le (down e) (2 ^ 1074) (and_r (A && B) C (and_l (A && B && C) D t))

-- the division is exact, as down e is a power of two up to 2 ^ 1074
exact : (x : ℕ) (e : ℤ) → down e ≤ 2 ^ 1074 → x * 2 ^ 1200 / down e * down e ≡ x * 2 ^ 1200
exact x (pos k) h = mul-one (x * 2 ^ 1200 / 1) ∙ div-one (x * 2 ^ 1200)
exact x (negsuc k) h =
    let l : suc k ≤ 1074 = pow_le_back (suc k) 1074 h in
    let e : x * 2 ^ 1200 ≡ x * 2 ^ (1200 - suc k) * 2 ^ suc k = ap (λ (y : ℕ). x * y) (ap (λ (y : ℕ). 2 ^ y) (parts k l) ∙ pow-add 2 (1200 - suc k) (suc k)) ∙ sym (mul_assoc x (2 ^ (1200 - suc k)) (2 ^ suc k)) in
    ap (λ (y : ℕ). y / 2 ^ suc k * 2 ^ suc k) e ∙ ap (λ (y : ℕ). y * 2 ^ suc k) (mul-div_cancel (x * 2 ^ (1200 - suc k)) (pow_pos (suc k))) ∙ sym e
  where
    parts : (k : ℕ) → suc k ≤ 1074 → 1200 ≡ 1200 - suc k + suc k
    parts k h = omega arith

module _ (m : ℕ) (e : ℤ) (t : T (fits binary64 (fin false (suc m) e))) (a b : ℕ) (B : 0 < b) where
  abbrev x : ℕ
  x = suc m * up e

  abbrev n : ℕ
  n = x * 2 ^ 1200 / down e

  pub n_is : n * down e ≡ x * 2 ^ 1200
  n_is = exact x e (low-enough false m e t)

  n_big : 2 ^ 126 ≤ n
  n_big = (le-div_iff_mul-le (down_pos e)).1 (le_trans (mul-le-mul_left (2 ^ 126) (low-enough false m e t)) (le_trans (le_of_eq (sym (one-mul (2 ^ 1200)))) (mul-le-mul_right (2 ^ 1200) (mul-pos (zero-lt-suc m) (up_pos e)))))

  pub r_big : 2 ^ 53 ≤ whole_root n
  r_big = le_of_lt_next (whole_root n) (sq_lt_back (2 ^ 53) (whole_root n + 1) (lt_of_le_of_lt (le_trans (lit≤ tt) n_big) (whole_root_is n).over))
    where
      le_of_lt_next : (r : ℕ) → 9007199254740992 < r + 1 → 9007199254740992 ≤ r
      le_of_lt_next r h = omega arith

  root_is : square_root (fin false (suc m) e) ≡ round binary64 false (twice_root n) (2 ^ 601)
  root_is = root_at (suc m) e (none m)
    where
      none : (m : ℕ) → suc m ≡ 0 → ⊥
      none m z = omega arith

  -- a / b as 2 c / (b * 2 ^ 601), with c = a * 2 ^ 600
  fraction_is : round binary64 false a b ≡ round binary64 false (2 * (a * 2 ^ 600)) (b * 2 ^ 601)
  fraction_is = round_same binary64 false a b (2 * (a * 2 ^ 600)) (b * 2 ^ 601) B (mul-pos B (pow_pos 601)) (mul_left_comm a b (2 ^ 601) ∙ mul_comm b (a * 2 ^ 601) ∙ ap (λ (y : ℕ). y * b) (mul_left_comm a 2 (2 ^ 600)))

  -- the two sides, times 2 ^ 1200 * down e
  square_is : a * 2 ^ 600 * (a * 2 ^ 600) * down e ≡ a * a * down e * 2 ^ 1200
  square_is = ap (λ (y : ℕ). y * down e) (mul-mul-mul_comm a (2 ^ 600) a (2 ^ 600)) ∙ mul_right_comm (a * a) (2 ^ 1200) (down e)

  number_is : n * (b * b) * down e ≡ x * (b * b) * 2 ^ 1200
  number_is = mul_right_comm n (b * b) (down e) ∙ ap (λ (y : ℕ). y * (b * b)) n_is ∙ mul_right_comm x (2 ^ 1200) (b * b)

  -- a / b at most the root of x / down e
  pub root_not_below : a * a * down e ≤ suc m * up e * (b * b) → T (le (round binary64 false a b) (square_root (fin false (suc m) e)))
  root_not_below h =
      subst (λ (y : Float). T (le y (square_root (fin false (suc m) e)))) (sym fraction_is)
      (subst (λ (y : Float). T (le (round binary64 false (2 * (a * 2 ^ 600)) (b * 2 ^ 601)) y)) (sym root_is)
      (not_above n (whole_root n) (whole_root_is n) r_big (a * 2 ^ 600) b B
      (le_of_mul-le-mul_right (le_trans (le_of_eq square_is) (le_trans (mul-le-mul_right (2 ^ 1200) h) (le_of_eq (sym number_is)))) (down_pos e))))

  -- a / b at least the root
  pub root_not_above : suc m * up e * (b * b) ≤ a * a * down e → T (le (square_root (fin false (suc m) e)) (round binary64 false a b))
  root_not_above h =
      subst (λ (y : Float). T (le (square_root (fin false (suc m) e)) y)) (sym fraction_is)
      (subst (λ (y : Float). T (le y (round binary64 false (2 * (a * 2 ^ 600)) (b * 2 ^ 601)))) (sym root_is)
      (not-below n (whole_root n) (whole_root_is n) r_big (a * 2 ^ 600) b B
      (le_of_mul-le-mul_right (le_trans (le_of_eq number_is) (le_trans (mul-le-mul_right (2 ^ 1200) h) (le_of_eq (sym square_is)))) (down_pos e))))
