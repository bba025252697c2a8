-- "Model bytes": the text matrix of the global CMVN statistics. Every fault is refusal 7, so the order of the tests does not show. A byte
-- that is not ASCII is no blank, bracket or part of a number.
use Rattle.std.specs.Prelude.{ℕ, zero, suc, ◌+◌, ◌-◌, ◌*◌, ◌^◌, Bool, false, not, ◌&&◌, ◌||◌, List, [], ◌∷◌, ◌++◌, length, take, drop, leb, ltb, eqb, Float, if◌then◌else◌}
use Rattle.std.specs.Float.{Format, binary64}
use Rattle.std.specs.Float.Ieee.{prec, lt}
use Rattle.floats.specs.Operators.{zero₆₄}
use Rattle.floats.specs.Decimal.{scaled, tens}
use Rattle.definition.specs.Options.{within}
use Rattle.definition.specs.Reader.{read, refused, Parser, after, ◌>>=◌, ◌>>◌, give, need, run, here}

-- ---- a number

-- a sign, if any: whether it is a minus
unfoldable pub sign : Parser Bool
sign s i = read (here (eqb 45) s i) (if here (λ b. eqb b 43 || eqb b 45) s i then i + 1 else i)

-- digits, if any
unfoldable pub digits : Parser (List ℕ)
digits s i = let n = run (within 48 57) (drop i s) in read (take n (drop i s)) (i + n)

-- a point and the digits after it, if any
unfoldable pub fraction : Parser (List ℕ)
fraction s i = if here (eqb 46) s i then digits s (i + 1) else read [] i

-- the whole number that digits stand for, after m
unfoldable pub digits_value : ℕ → List ℕ → ℕ
digits_value m [] = m
digits_value m (b ∷ s) = digits_value (m * 10 + (b - 48)) s

-- an exponent: whether it is below zero, and its magnitude
pub record Power : Type 0 where
  pub under : Bool
  pub magnitude : ℕ

unfoldable pub signed_digits : Parser Power
signed_digits = do
  minus ← sign
  d ← digits
  need (ltb 0 (length d)) 7
  give (record { under = minus; magnitude = digits_value 0 d })

-- `e` or `E` and an exponent, if any
unfoldable pub exponent : Parser Power
exponent s i = if here (λ b. eqb b 69 || eqb b 101) s i then signed_digits s (i + 1) else read (record { under = false; magnitude = 0 }) i

-- ±m * 10 ^ (up - down): m below 2 ^ 53, the power of ten -22 .. 22; for an f32 (request 1) below 2 ^ 24, and -10 .. 10
unfoldable pub to_nearest : Format → Bool → ℕ → ℕ → ℕ → Parser Float
to_nearest f minus m up down = do
  need (ltb m (2 ^ prec f) && (leb up (down + tens f) && leb down (up + tens f))) 7
  give (scaled f minus m up down)

unfoldable pub number : Format → Parser Float
number f = do
  minus ← sign
  a ← digits
  b ← fraction
  need (ltb 0 (length (a ++ b))) 7
  e ← exponent
  to_nearest f minus (digits_value 0 (a ++ b)) (if e.under then 0 else e.magnitude) ((if e.under then e.magnitude else 0) + length b)

-- ---- the matrix

unfoldable pub space : ℕ → Bool
space b = eqb b 32 || within 9 13 b

-- what ends a row: byte 10, or the closing bracket
unfoldable pub stop : ℕ → Bool
stop b = eqb b 10 || eqb b 93

unfoldable pub skip : (ℕ → Bool) → Parser (Unit {0})
skip t s i = read tt (i + run t (drop i s))

-- fewer than n numbers, each with a blank or the end of the row behind it
unfoldable pub row : ℕ → Parser (List Float)
row zero s i = refused 7
row (suc n) s i = after (skip (λ b. not (eqb b 10) && space b) s i) (λ _ t p. if here stop t p then read [] p
    else after (number binary64 t p) (λ x u q. if here (λ b. space b || stop b) u q then after (row n u q) (λ xs. give (x ∷ xs)) u else refused 7) t) s

-- a row of at most 65, after blanks and blank rows
unfoldable pub line : Parser (List Float)
line = skip space >> row 66

-- one byte
unfoldable pub byte : ℕ → Parser (Unit {0})
byte b s i = if here (eqb b) s i then read tt (i + 1) else refused 7

-- a bracket, blanks aside
unfoldable pub bracket : ℕ → Parser (Unit {0})
bracket b = skip space >> byte b

-- nothing more, blanks aside
unfoldable pub ending : Parser (Unit {0})
ending s i = need (leb (length s) (i + run space (drop i s))) 7 s i

abbrev pub last : Float → List Float → Float
last x [] = x
last x (y ∷ ys) = last y ys

-- of two equal rows of 2 .. 65 numbers between brackets the first, whose last number is the count
unfoldable pub cmvn_rows : Parser (List Float)
cmvn_rows = do
  bracket 91
  a ← line
  b ← line
  bracket 93
  ending
  need (leb 2 (length a) && (eqb (length a) (length b) && lt zero₆₄ (last zero₆₄ a))) 7
  give a

unfoldable pub cmvn : Parser (List Float)
cmvn s i = after (need (leb (length s) 65536) 7 s i) (λ _. cmvn_rows) s
