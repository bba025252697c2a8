-- What the answers of inner functions say.
use Rattle.std.specs.Prelude.{◌≡◌, Bool, true, false, not, ◌&&◌, Result, Ok, Err, List, [], ℕ, ◌+◌, ◌≤◌, min, length, eqb, Float}
use Rattle.std.specs.Float.{Format}
use Rattle.floats.specs.Operators.{zero₆₄}
use Rattle.definition.specs.declared.refusal.Refusal.{Refusal}
use Rattle.definition.specs.Number.{number_of}
use Rattle.definition.specs.Reader.{Got, read, refused}
use Rattle.definition.specs.Text as T
use Rattle.definition.specs.Text.{space, last, to_nearest}
use Rattle.kaldi.specs.declared.kaldi_text.Kind.{Kind}
use Rattle.kaldi.specs.declared.kaldi_text.Kind.TheVariants as K
use Rattle.kaldi.specs.declared.kaldi_text.Power.{Power}
use Rattle.kaldi.specs.declared.kaldi_text.types.Decimal.{Decimal}
use Rattle.kaldi.specs.declared.kaldi_text.Row.{Row}

-- ---- kinds of bytes

abbrev pub is_digit : Kind → Bool
is_digit K.Digit = true
is_digit k = false

abbrev pub is_sign : Kind → Bool
is_sign (K.Sign minus) = true
is_sign k = false

abbrev pub is_minus : Kind → Bool
is_minus (K.Sign minus) = minus
is_minus k = false

abbrev pub is_point : Kind → Bool
is_point K.Point = true
is_point k = false

abbrev pub is_exponent : Kind → Bool
is_exponent K.Exponent = true
is_exponent k = false

abbrev pub is_blank : Kind → Bool
is_blank K.Blank = true
is_blank k = false

-- a blank that ends no row
abbrev pub gap : ℕ → Bool
gap b = not (eqb b 10) && space b

-- ---- an exponent

-- a size is at most 100,000: no digits after a point bring a larger one back to 22
abbrev pub capped : Got T.Power → Got T.Power
capped (read p next) = read (record { under = p.under; magnitude = min p.magnitude 100000 }) next
capped (refused n) = refused n

abbrev pub power_of : Power → T.Power
power_of p = record { under = p.under; magnitude = p.magnitude }

-- ---- a number

-- digits and power, in a format
abbrev pub nearest_of : Format → Result Decimal Refusal → ℕ → Got Float
nearest_of f (Ok d) at = to_nearest f d.minus d.m d.up d.down [] at
nearest_of f (Err e) at = refused (number_of e)

-- ---- rows

-- of a row that was read, how many numbers it has, with the n before it, and the last of all
pub record Outline : Type 0 where
  pub count : ℕ
  pub final : Float

abbrev pub outline : ℕ → Float → Got (List Float) → Got Outline
outline n x (read xs next) = read (record { count = n + length xs; final = last x xs }) next
outline n x (refused r) = refused r

-- what is kept of a row's numbers
pub record Outlines (xs : List Float) (r : Row) : Type 0 where
  pub many : length xs ≡ r.len
  pub final : last zero₆₄ xs ≡ r.last
  pub few : r.len ≤ 65
