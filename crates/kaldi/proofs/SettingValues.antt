-- Whole numbers, floats and plain texts, as the code reads them.
use mathlib.Core.Path.{◌≡◌, sym, ap, ◌∙◌}
use mathlib.Core.List.{List}
use Rattle.std.specs.Prelude.{Some, None}
use Prim.Native.Nat.{ℕ, ◌+◌, ◌-◌, ◌*◌, ◌^◌, ◌≤◌, ◌<◌}
use native.Mathlib.Nat.{le_trans}
use borrow.Author.Tests.{lt-ltb, le-ltb}
use lib.Ieee.{Float, binary32}
use lib.ListN.{length, drop, get_or}
use Rattle.floats.specs.Operators.{f32}
use Rattle.definition.specs.Text.{digits_value, number}
use Rattle.kaldi.proofs.Decimals.{decimal_next, decimal_end, decimal_ge}
use Rattle.kaldi.specs.Settings.{whole, setting, options_from, options_of}
use Rattle.kaldi.specs.Inner.Settings.{below64}

-- ---- digits, place by place

module _ (x i : ℕ) (s : List ℕ) (h : i < length s) {d : ℕ} (is : d ≡ get_or s i 0 - 48) where
  pub digits_turn : digits_value x (drop i s) ≡ digits_value (x * 10 + d) (drop (i + 1) s)
  digits_turn = decimal_next x i s h ∙ ap (λ (k : ℕ). digits_value (x * 10 + k) (drop (i + 1) s)) (sym is)

  pub digits_over : 2 ^ 64 ≤ x * 10 + d → None ≡ below64 (digits_value x (drop i s))
  digits_over g = rw (digits_turn, le-ltb (digits_value (x * 10 + d) (drop (i + 1) s)) (2 ^ 64) (le_trans g (decimal_ge (x * 10 + d) (drop (i + 1) s))))

pub digits-few : (x i : ℕ) (s : List ℕ) → length s ≤ i → x < 2 ^ 64 → Some x ≡ below64 (digits_value x (drop i s))
digits-few x i s h l = rw (decimal_end x i s h, lt-ltb x (2 ^ 64) l)

-- ---- the options

module _ (splice cmvn : List ℕ) where
  pub options_are : {left right window global : ℕ} {energy : Float}
      → left ≡ setting whole splice "--left-context=" 3
      → right ≡ setting whole splice "--right-context=" 3
      → window ≡ setting whole cmvn "--cmn-window=" 600
      → global ≡ setting whole cmvn "--global-frames=" 200
      → energy ≡ setting (number binary32) cmvn "--cmn-min-energy=" (f32 0x4248_0000)
      → options_from left right window global energy ≡ options_of splice cmvn
  unfolding options_of
  options_are {left} {right} {window} {global} {energy} a b c d e =
      let l = setting whole splice "--left-context=" 3 in
      let r = setting whole splice "--right-context=" 3 in
      let w = setting whole cmvn "--cmn-window=" 600 in
      let g = setting whole cmvn "--global-frames=" 200 in
      ap (λ (x : ℕ). options_from x right window global energy) a
      ∙ ap (λ (x : ℕ). options_from l x window global energy) b
      ∙ ap (λ (x : ℕ). options_from l r x global energy) c
      ∙ ap (λ (x : ℕ). options_from l r w x energy) d
      ∙ ap (λ (x : Float). options_from l r w g x) e
