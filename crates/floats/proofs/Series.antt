-- The loops of `chain` and `powers`, which go from the last term of a series to its first, and the arms of `exp`.
use Rattle.std.proofs.Common.{◌≡◌, ℕ, suc, ◌+◌, ◌-◌, ◌*◌, ◌<◌, ◌≤◌, Bool, true, false, cond, sym, refl, ap, ◌∙◌, arith}
use native.Mathlib.Numerals.{suc-eq-add-one}
use lib.Ieee.{Float, of_int, of_bits, neg, lt}
use Rattle.floats.specs.Operators.{◌+₆₄◌, ◌*₆₄◌, ◌/₆₄◌, f32, f64, zero₃₂, one₆₄, as_f64}
use Rattle.floats.specs.Narrow.{narrowed}
use Rattle.floats.specs.Ln.{chained}
use Rattle.floats.specs.Exp.{series, squares, wide_exp, exp_of}
use Rattle.floats.proofs.Sizes.{one_back}

-- ---- `chain`
chained_more : (d k : ℕ) (q : Float) → chained (suc d) k q ≡ one₆₄ /₆₄ as_f64 k +₆₄ q *₆₄ chained d (k + 2) q
unfolding chained of_bits of_int
chained_more d k q = refl

pub chain_first : (q : Float) → one₆₄ /₆₄ f64 0x4041_8000_0000_0000 ≡ chained (17 - 17) (17 * 2 + 1) q
unfolding chained of_bits of_int
chain_first q = refl

pub chain_next : (q h k : Float) (n : ℕ) → 0 < n → n ≤ 17 → h ≡ chained (17 - n) (n * 2 + 1) q → k ≡ as_f64 ((n - 1) * 2 + 1) → one₆₄ /₆₄ k +₆₄ q *₆₄ h ≡ chained (17 - (n - 1)) ((n - 1) * 2 + 1) q
chain_next q h k n p l e i =
    ap (λ (x : Float). one₆₄ /₆₄ x +₆₄ q *₆₄ h) i
    ∙ ap (λ (x : Float). one₆₄ /₆₄ as_f64 ((n - 1) * 2 + 1) +₆₄ q *₆₄ x) (e ∙ ap (λ (k : ℕ). chained (17 - n) k q) (two n p))
    ∙ sym (chained_more (17 - n) ((n - 1) * 2 + 1) q)
    ∙ ap (λ (d : ℕ). chained d ((n - 1) * 2 + 1) q) (one n p l)
  where
    two : (n : ℕ) → 0 < n → n * 2 + 1 ≡ (n - 1) * 2 + 1 + 2
    two n p = omega arith

    one : (n : ℕ) → 0 < n → n ≤ 17 → suc (17 - n) ≡ 17 - (n - 1)
    one n p l = omega arith

-- ---- `powers`
series_more : (d k : ℕ) (y : Float) → series (suc d) k y ≡ one₆₄ +₆₄ y /₆₄ as_f64 k *₆₄ series d (k + 1) y
unfolding series of_bits of_int
series_more d k y = refl

pub series-first : (y : Float) → one₆₄ ≡ series (16 - 16) (16 + 1) y
unfolding series of_bits of_int
series-first y = refl

pub series-next : (y h n : Float) (k : ℕ) → 0 < k → k ≤ 16 → h ≡ series (16 - k) (k + 1) y → n ≡ as_f64 (k - 1 + 1) → one₆₄ +₆₄ y /₆₄ n *₆₄ h ≡ series (16 - (k - 1)) (k - 1 + 1) y
series-next y h n k p l e i =
    ap (λ (x : Float). one₆₄ +₆₄ y /₆₄ x *₆₄ h) (i ∙ ap as_f64 (sym (sym (one_back k p) ∙ suc-eq-add-one (k - 1))))
    ∙ ap (λ (x : Float). one₆₄ +₆₄ y /₆₄ as_f64 k *₆₄ x) e
    ∙ sym (series_more (16 - k) k y)
    ∙ ap (λ (d : ℕ). series d k y) (one k p l)
    ∙ ap (λ (d : ℕ). series (16 - (k - 1)) d y) (sym (one_back k p) ∙ suc-eq-add-one (k - 1))
  where
    one : (k : ℕ) → 0 < k → k ≤ 16 → suc (16 - k) ≡ 16 - (k - 1)
    one k p l = omega arith

-- ---- `exp`
exp_by : (x : Float) (t : Bool) → lt x (neg (f32 0x42d0_0000)) ≡ t → cond t zero₃₂ (narrowed (squares 7 (series 16 1 (x /₆₄ f64 0x4060_0000_0000_0000)))) ≡ exp_of x
unfolding exp_of neg of_bits of_int
exp_by x t h = sym (ap (λ (b : Bool). cond b zero₃₂ (narrowed (squares 7 (series 16 1 (x /₆₄ as_f64 128))))) h)

pub exp_low : (x : Float) → lt x (neg (f32 0x42d0_0000)) ≡ true → zero₃₂ ≡ exp_of x
exp_low x h = exp_by x true h

-- w is x widened
pub exp_part : (x w : Float) → w ≡ x → w /₆₄ f64 0x4060_0000_0000_0000 ≡ x /₆₄ as_f64 128
unfolding of_bits of_int
exp_part x w a = ap (λ (v : Float). v /₆₄ f64 0x4060_0000_0000_0000) a

-- s is what the exponential is narrowed from, and r that narrowed
pub exp_else : (x s r : Float) → lt x (neg (f32 0x42d0_0000)) ≡ false → s ≡ wide_exp (x /₆₄ as_f64 128) → r ≡ narrowed s → r ≡ exp_of x
unfolding of_bits of_int
exp_else x s r h c d = d ∙ ap narrowed c ∙ exp_by x false h
