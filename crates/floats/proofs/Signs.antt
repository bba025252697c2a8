-- The arms that `sqrt` and `ln` have in common, by the bits of an f64: a NaN, below zero, a zero, an infinity.
use Rattle.std.proofs.Common.{◌≡◌, ℕ, ◌+◌, ◌-◌, ◌^◌, ◌<◌, ◌≤◌, true, false, T, ℤ, sym, refl, ap, ◌∙◌, inl, inr, le_of_lt, add-sub_of_le, le_antisymm, eq-or-lt_of_le, arith}
use mathlib.Core.Bool.{false≢true}
use lib.Ieee.{Float, nan, inf, fin, binary64, div, ne, fits, is_nan, to_bits, of_bits}
use lib.Ieee.Bits.{of_bits-to_bits}
use lib.Ieee.Exact.{HasValue}
use Rattle.floats.specs.Inner.{units_of}
use Rattle.floats.proofs.Patterns.{pattern-value, units-pos, value_nonzero, is_nan_lem, plus_le, minus_le}

-- a function that has no value below zero
pub record FromZero (F : Float → Float) : Type 0 where
  pub at_nan : F nan ≡ nan
  pub at_inf : F (inf false) ≡ inf false
  pub at_minus_inf : F (inf true) ≡ nan
  pub at_minus : (m : ℕ) (e : ℤ) → (m ≡ 0 → ⊥) → F (fin true m e) ≡ nan

bits_inf : of_bits binary64 0x7ff0_0000_0000_0000 ≡ inf false
unfolding of_bits
bits_inf = refl

bits_minus-inf : of_bits binary64 (0x8000_0000_0000_0000 + 0x7ff0_0000_0000_0000) ≡ inf true
unfolding of_bits
bits_minus-inf = refl

zero_by_zero : div binary64 (of_bits binary64 0) (of_bits binary64 0) ≡ nan
unfolding div of_bits
zero_by_zero = refl

module _ (F : Float → Float) (G : FromZero F) where
  below_zero : (x : Float) (a : ℕ) → 0 < a → HasValue x true a (2 ^ 1074) → F x ≡ nan
  below_zero nan a p h = absurd h
  below_zero (inf t) a p h = absurd h
  below_zero (fin false m e) a p h = absurd (false≢true h.0)
  below_zero (fin true m e) a p h = G.at_minus m e (value_nonzero true true m e a (2 ^ 1074) p h)

  minus_nan : (a : ℕ) → 0 < a → a ≤ 0x7ff0_0000_0000_0000 → F (of_bits binary64 (0x8000_0000_0000_0000 + a)) ≡ nan
  minus_nan a p h = elim (eq-or-lt_of_le h) [
    | inl e ↦ ap F (ap (λ (x : ℕ). of_bits binary64 (0x8000_0000_0000_0000 + x)) e ∙ bits_minus-inf) ∙ G.at_minus_inf
    | inr l ↦ below_zero (of_bits binary64 (0x8000_0000_0000_0000 + a)) (units_of binary64 a) (units-pos binary64 a p) (pattern-value binary64 true a l)
  ]

  pub of_nan : (x : Float) → ne x x ≡ true → x ≡ F x
  of_nan x h = is_nan_lem x h ∙ sym G.at_nan ∙ ap F (sym (is_nan_lem x h))

  module _ (x : Float) (held : T (fits binary64 x)) (n : is_nan x ≡ false) where
    abbrev bits : ℕ
    bits = to_bits binary64 x

    -- by the pattern that x has
    pub of-bits : (p : ℕ) (y : Float) → bits ≡ p → F (of_bits binary64 p) ≡ y → y ≡ F x
    of-bits p y e h = sym h ∙ ap (λ (k : ℕ). F (of_bits binary64 k)) (sym e) ∙ ap F (of_bits-to_bits binary64 x held)

    pub of_minus : 0x8000_0000_0000_0000 < bits → div binary64 (of_bits binary64 0) (of_bits binary64 0) ≡ F x
    of_minus l =
        zero_by_zero
        ∙ of-bits (0x8000_0000_0000_0000 + (bits - 0x8000_0000_0000_0000)) nan (sym (add-sub_of_le (le_of_lt l))) (minus_nan (bits - 0x8000_0000_0000_0000) (above bits l) (minus_le binary64 x held n (le_of_lt l)))
      where
        above : (b : ℕ) → 0x8000_0000_0000_0000 < b → 0 < b - 0x8000_0000_0000_0000
        above b l = omega arith

    pub of_inf : bits < 0x8000_0000_0000_0000 → 0x7ff0_0000_0000_0000 ≤ bits → x ≡ F x
    of_inf u l =
        let e : bits ≡ 0x7ff0_0000_0000_0000 = le_antisymm (plus_le binary64 x held n u) l in
        sym (of_bits-to_bits binary64 x held) ∙ ap (of_bits binary64) e ∙ bits_inf ∙ of-bits 0x7ff0_0000_0000_0000 (inf false) e (ap F bits_inf ∙ G.at_inf)

    pub of_else : (r : Float) → r ≡ F (of_bits binary64 bits) → r ≡ F x
    of_else r e = e ∙ ap F (of_bits-to_bits binary64 x held)
