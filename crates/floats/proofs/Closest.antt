-- The whole number nearest to a fraction, a tie to the even one: `closest a b`.
use Rattle.std.proofs.Common.{◌≡◌, ℕ, zero, suc, ◌+◌, ◌-◌, ◌*◌, ◌/◌, ◌%◌, ◌^◌, ◌<◌, ◌≤◌, not, T, eqb, sym, refl, ap, ◌∙◌, subst, le_trans, add-zero, mod-lt, mod-eq_of_lt, mul_assoc, add-mul, one-mul, pow-suc, div-add-mod', le-div_iff_mul-le, mul_left_comm, arith, lit<, eqb→eq, leb→le, pow_pos, pow_mono, pow-add, shr_lt}
use Prim.Native.Nat.{compare, Ordering}
use native.Mathlib.Nat.{div-eq_of_lt}
use native.Mathlib.Numerals.{suc-eq-add-one}
use lib.Dec.{is_le, compare_is_eq, nleb→lt, eqb_refl}
use lib.Arith.{lt_of_le-ne, digits_div, digits_mod}
use lib.Pow.{pow-lt}
use lib.Ieee.{nearest}
use lib.Ieee.Fits.{nearest-le}
use lib.Ieee.Nearest.{closest, nearest-ge}
use Rattle.floats.proofs.Sizes.{one_back}

-- ---- by how twice the remainder compares with the divisor
abbrev Compares : Ordering → ℕ → ℕ → Type 0
Compares Ordering.lt a b = a < b
Compares Ordering.eq a b = a ≡ b
Compares Ordering.gt a b = b < a

compares : (a b : ℕ) → Compares (compare a b) a b
compares a b = go (compare a b) (leb→le a b) (nleb→lt a b) (eqb→eq a b) (λ (e : a ≡ b). subst (λ (x : ℕ). T (eqb a x)) e (eqb_refl a))
  where
    go : (o : Ordering) → (T (is_le o) → a ≤ b) → (T (not (is_le o)) → b < a) → (T (compare_is_eq o) → a ≡ b) → (a ≡ b → T (compare_is_eq o)) → Compares o a b
    go Ordering.lt h k e n = lt_of_le-ne (h tt) n
    go Ordering.eq h k e n = e tt
    go Ordering.gt h k e n = k tt

only : (a b : ℕ) (o o' : Ordering) → Compares o a b → Compares o' a b → o ≡ o'
only a b Ordering.lt Ordering.lt h k = refl
only a b Ordering.lt Ordering.eq h k = absurd (omega arith)
only a b Ordering.lt Ordering.gt h k = absurd (omega arith)
only a b Ordering.eq Ordering.lt h k = absurd (omega arith)
only a b Ordering.eq Ordering.eq h k = refl
only a b Ordering.eq Ordering.gt h k = absurd (omega arith)
only a b Ordering.gt Ordering.lt h k = absurd (omega arith)
only a b Ordering.gt Ordering.eq h k = absurd (omega arith)
only a b Ordering.gt Ordering.gt h k = refl

closest-by : (a b : ℕ) (o : Ordering) → Compares o (a % b * 2) b → closest a b ≡ nearest (a / b) o
closest-by a b o h = ap (nearest (a / b)) (only (a % b * 2) b (compare (a % b * 2) b) o (compares (a % b * 2) b) h)

pub closest-under : (a b : ℕ) → a % b * 2 < b → closest a b ≡ a / b
closest-under a b h = closest-by a b Ordering.lt h

closest-over : (a b : ℕ) → b < a % b * 2 → closest a b ≡ a / b + 1
closest-over a b h = closest-by a b Ordering.gt h ∙ suc-eq-add-one (a / b)

closest_tie : (a b : ℕ) → a % b * 2 ≡ b → closest a b ≡ a / b + a / b % 2
closest_tie a b h = closest-by a b Ordering.eq h

-- ---- bounds
pub closest-le : (q j k : ℕ) → q < 2 ^ (j + k) → closest q (2 ^ k) ≤ 2 ^ j
closest-le q j k h = le_trans (nearest-le (q / 2 ^ k) (compare (q % 2 ^ k * 2) (2 ^ k))) (shr_lt j k h)

pub closest_ge : (q j k : ℕ) → 2 ^ (j + k) ≤ q → 2 ^ j ≤ closest q (2 ^ k)
closest_ge q j k h = le_trans ((le-div_iff_mul-le (pow_pos k)).1 (subst (λ (x : ℕ). x ≤ q) (pow-add 2 j k) h)) (nearest-ge (q / 2 ^ k) (compare (q % 2 ^ k * 2) (2 ^ k)))

less_than : (x d : ℕ) → x * 2 < d → x < d
less_than x d h = omega arith

-- below a half
pub closest-none : (q b : ℕ) → q * 2 < b → closest q b ≡ 0
closest-none q b h = closest-under q b (subst (λ (x : ℕ). x * 2 < b) (sym (mod-eq_of_lt (less_than q b h))) h) ∙ div-eq_of_lt (less_than q b h)

-- ---- what lies between two neighbouring even numbers, 2 a and 2 a + 2, is a quarter alike
sum-under : (q x d : ℕ) → x * 2 < d → closest (q * d + x) d ≡ q
sum-under q x d h = closest-under (q * d + x) d (subst (λ (y : ℕ). y * 2 < d) (sym (digits_mod q (less_than x d h))) h) ∙ digits_div q (less_than x d h)

sum_over : (q x d : ℕ) → x < d → d < x * 2 → closest (q * d + x) d ≡ q + 1
sum_over q x d l h = closest-over (q * d + x) d (subst (λ (y : ℕ). d < y * 2) (sym (digits_mod q l)) h) ∙ ap (λ (y : ℕ). y + 1) (digits_div q l)

pub between : (a p y : ℕ) → 2 * a * p < y → y < (2 * a + 2) * p → closest y (4 * p) ≡ closest (2 * a + 1) 4
between a p y l u = go (a % 2) refl
  where
    multiple : (b c : ℕ) → (4 * b + c) * p ≡ b * (4 * p) + c * p
    multiple b c = add-mul (4 * b) c p ∙ ap (λ (x : ℕ). x + c * p) (mul_assoc 4 b p ∙ mul_left_comm 4 b p)

    above : (b c : ℕ) → 2 * a ≡ 4 * b + c → b * (4 * p) + c * p < y
    above b c e = subst (λ (x : ℕ). x < y) (ap (λ (x : ℕ). x * p) e ∙ multiple b c) l

    below : (b c : ℕ) → 2 * a + 2 ≡ 4 * b + c → y < b * (4 * p) + c * p
    below b c e = subst (λ (x : ℕ). y < x) (ap (λ (x : ℕ). x * p) e ∙ multiple b c) u

    split : (k y : ℕ) → k < y → y ≡ k + (y - k)
    split k y h = omega arith

    even : (a b : ℕ) → a ≡ 2 * b → (2 * a ≡ 4 * b + 0) × (2 * a + 2 ≡ 4 * b + 2) × (2 * a + 1 ≡ b * 4 + 1)
    even a b e = (omega arith, omega arith, omega arith)

    odd : (a b : ℕ) → a ≡ 2 * b + 1 → (2 * a ≡ 4 * b + 2) × (2 * a + 2 ≡ 4 * b + 4) × (2 * a + 1 ≡ b * 4 + 3)
    odd a b e = (omega arith, omega arith, omega arith)

    near : (k y p : ℕ) → k + 0 * p < y → y < k + 2 * p → (k < y) × ((y - k) * 2 < 4 * p)
    near k y p a b = (omega arith, omega arith)

    far : (k y p : ℕ) → k + 2 * p < y → y < k + 4 * p → (k < y) × (y - k < 4 * p) × (4 * p < (y - k) * 2)
    far k y p a b = (omega arith, omega arith, omega arith)

    at_even : (b : ℕ) → a ≡ 2 * b → closest y (4 * p) ≡ closest (2 * a + 1) 4
    at_even b e =
        let t = even a b e in
        let k = b * (4 * p) in
        let z = near k y p (above b 0 t.0) (below b 2 t.1) in
        ap (λ (x : ℕ). closest x (4 * p)) (split k y z.0) ∙ sum-under b (y - k) (4 * p) z.1 ∙ sym (ap (λ (x : ℕ). closest x 4) t.2 ∙ sum-under b 1 4 (lit< tt))

    at_odd : (b : ℕ) → a ≡ 2 * b + 1 → closest y (4 * p) ≡ closest (2 * a + 1) 4
    at_odd b e =
        let t = odd a b e in
        let k = b * (4 * p) in
        let z = far k y p (above b 2 t.0) (below b 4 t.1) in
        ap (λ (x : ℕ). closest x (4 * p)) (split k y z.0) ∙ sum_over b (y - k) (4 * p) z.1 z.2 ∙ sym (ap (λ (x : ℕ). closest x 4) t.2 ∙ sum_over b 3 4 (lit< tt) (lit< tt))

    halved : (a r : ℕ) → a % 2 ≡ r → a ≡ 2 * (a / 2) + r
    halved a r e = omega arith

    never : (a r : ℕ) → a % 2 ≡ suc (suc r) → ⊥
    never a r e = omega arith

    go : (r : ℕ) → a % 2 ≡ r → closest y (4 * p) ≡ closest (2 * a + 1) 4
    go zero e = at_even (a / 2) (halved a 0 e ∙ add-zero (2 * (a / 2)))
    go (suc zero) e = at_odd (a / 2) (halved a 1 e)
    go (suc (suc r)) e = absurd (never a r e)

-- ---- half a unit y is added, less one where the whole part is even, and what is past the units d is cut off
carried : (q d x : ℕ) → d ≤ x → x < d + d → (q * d + x) / d ≡ q + 1
carried q d x l u = ap (λ (z : ℕ). z / d) (split (q * d) d x ((q + 1) * d) (add-mul q 1 d ∙ ap (λ (z : ℕ). q * d + z) (one-mul d)) l) ∙ digits_div (q + 1) (less d x l u)
  where
    split : (m d x n : ℕ) → n ≡ m + d → d ≤ x → m + x ≡ n + (x - d)
    split m d x n e l = omega arith

    less : (d x : ℕ) → d ≤ x → x < d + d → x - d < d
    less d x l u = omega arith

module _ (a d y : ℕ) (p : 0 < y) (e : y * 2 ≡ d) where
  abbrev past : ℕ
  past = a % d + (y - 1) + a / d % 2

  parted : a + (y - 1) + a / d % 2 ≡ a / d * d + past
  parted = go a (a / d * d) (a % d) (y - 1) (a / d % 2) (div-add-mod' a d)
    where
      go : (a w r h m : ℕ) → w + r ≡ a → a + h + m ≡ w + (r + h + m)
      go a w r h m f = omega arith

  -- the number that is past the units, by the rest r: less than a unit, or a unit and less than another
  in_unit : (r y d w : ℕ) → 0 < y → y * 2 ≡ d → r * 2 < d → r + (y - 1) + w % 2 < d
  in_unit r y d w p e h = omega arith

  past_unit : (r y d w : ℕ) → y * 2 ≡ d → r < d → d < r * 2 → (d ≤ r + (y - 1) + w % 2) × (r + (y - 1) + w % 2 < d + d)
  past_unit r y d w e l h = (omega arith, omega arith)

  tie_even : (r y d w : ℕ) → 0 < y → y * 2 ≡ d → r * 2 ≡ d → w % 2 ≡ 0 → (r + (y - 1) + w % 2 < d) × (w ≡ w + w % 2)
  tie_even r y d w p e h f = (omega arith, omega arith)

  tie_odd : (r y d w : ℕ) → 0 < y → y * 2 ≡ d → r * 2 ≡ d → w % 2 ≡ 1 → (d ≤ r + (y - 1) + w % 2) × (r + (y - 1) + w % 2 < d + d) × (w + 1 ≡ w + w % 2)
  tie_odd r y d w p e h f = (omega arith, omega arith, omega arith)

  some : 0 < d
  some = go y d p e
    where
      go : (y d : ℕ) → 0 < y → y * 2 ≡ d → 0 < d
      go y d p e = omega arith

  nearest_cut : (a + (y - 1) + a / d % 2) / d ≡ closest a d
  nearest_cut = ap (λ (z : ℕ). z / d) parted ∙ go (compare (a % d * 2) d) (compares (a % d * 2) d)
    where
      tied : a % d * 2 ≡ d → (m : ℕ) → a / d % 2 ≡ m → (a / d * d + past) / d ≡ closest a d
      tied h zero f =
          let t = tie_even (a % d) y d (a / d) p e h f in
          digits_div (a / d) t.0 ∙ t.1 ∙ sym (closest_tie a d h)
      tied h (suc zero) f =
          let t = tie_odd (a % d) y d (a / d) p e h f in
          carried (a / d) d past t.0 t.1 ∙ t.2 ∙ sym (closest_tie a d h)
      tied h (suc (suc m)) f = absurd (never (a / d) m f)
        where
          never : (w m : ℕ) → w % 2 ≡ suc (suc m) → ⊥
          never w m f = omega arith

      go : (o : Ordering) → Compares o (a % d * 2) d → (a / d * d + past) / d ≡ closest a d
      go Ordering.lt h = digits_div (a / d) (in_unit (a % d) y d (a / d) p e h) ∙ sym (closest-under a d h)
      go Ordering.eq h = tied h (a / d % 2) refl
      go Ordering.gt h =
          let t = past_unit (a % d) y d (a / d) e (mod-lt a some) h in
          carried (a / d) d past t.0 t.1 ∙ sym (closest-over a d h)

-- ---- the words of `shifted`
module _ (a k : ℕ) (b : (0 < k) × (k < 64)) where
  abbrev half : ℕ
  half = 1 * 2 ^ (k - 1) % 2 ^ 64

  half_as : half ≡ 2 ^ (k - 1)
  half_as = ap (λ (x : ℕ). x % 2 ^ 64) (one-mul (2 ^ (k - 1))) ∙ mod-eq_of_lt (pow-lt (less k b.1))
    where
      less : (k : ℕ) → k < 64 → k - 1 < 64
      less k h = omega arith

  half_is : half * 2 ≡ 2 ^ k
  half_is = ap (λ (x : ℕ). x * 2) half_as ∙ sym (pow-suc 2 (k - 1)) ∙ ap (λ (x : ℕ). 2 ^ x) (one_back k b.0)

  pub half_some : 0 < half
  half_some = subst (λ (x : ℕ). 0 < x) (sym half_as) (pow_pos (k - 1))

  pub half_small : half ≤ 2 ^ 62
  half_small = subst (λ (x : ℕ). x ≤ 2 ^ 62) (sym half_as) (pow_mono (less k b.1))
    where
      less : (k : ℕ) → k < 64 → k - 1 ≤ 62
      less k h = omega arith

  pub shift_nearest : (a + (half - 1) + a / 2 ^ k % 2) / 2 ^ k ≡ closest a (2 ^ k)
  shift_nearest = nearest_cut a (2 ^ k) half half_some half_is
