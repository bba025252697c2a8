-- Every fault of the CMVN text is refusal 7, whichever part meets it.
use Rattle.std.specs.Prelude.{if◌then◌else◌}
use mathlib.Core.Path.{◌≡◌, refl}
use mathlib.Core.Bool.{Bool, true, false, not, ◌&&◌, ◌||◌}
use mathlib.Core.List.{List, [], ◌∷◌, ◌++◌}
use Prim.Native.Nat.{ℕ, zero, suc, ◌+◌}
use lib.Dec.{eqb, leb, ltb}
use lib.ListN.{length, drop}
use lib.Ieee.{Float, Format, binary64, lt}
use Rattle.floats.specs.Operators.{zero₆₄}
use Rattle.definition.specs.Reader.{Got, read, refused, Parser, after, ◌>>=◌, ◌>>◌, give, need, here, run}
use Rattle.definition.specs.Text.{sign, digits, fraction, digits_value, Power, signed_digits, exponent, to_nearest, number, space, stop, skip, row, line, byte, bracket, ending, last, cmvn_rows, cmvn}

abbrev pub Seven : {A : Type 0} → Got A → Type 0
Seven (refused n) = n ≡ 7
Seven (read a i) = Unit {0}

record Sevens {A : Type 0} (p : Parser A) : Type 0 where
  at : (s : List ℕ) (i : ℕ) → Seven (p s i)

-- ---- one parser after another

after_seven : {A B : Type 0} (g : Got A) (k : A → Parser B) (s : List ℕ) → Seven g → ((a : A) → Sevens (k a)) → Seven (after g k s)
after_seven (refused n) k s h f = h
after_seven (read a i) k s h f = (f a).at s i

bind : {A B : Type 0} {p : Parser A} (k : A → Parser B) → Sevens p → ((a : A) → Sevens (k a)) → Sevens (p >>= k)
bind {p = p} k h f = record { at = λ s i. after_seven (p s i) k s (h.at s i) f }

seq : {A B : Type 0} {p : Parser A} {q : Parser B} → Sevens p → Sevens q → Sevens (p >> q)
seq {q = q} h g = bind (λ _. q) h (λ _. g)

gives : {A : Type 0} (a : A) → Sevens (give a)
gives a = record { at = λ s i. tt {0} }

needs : (t : Bool) → Sevens (need t 7)
needs true = record { at = λ s i. tt {0} }
needs false = record { at = λ s i. refl }

either : {A : Type 0} (t : Bool) (g h : Got A) → Seven g → Seven h → Seven (if t then g else h)
either true g h a b = a
either false g h a b = b

-- ---- a number

signs : Sevens sign
unfolding sign
signs = record { at = λ s i. tt {0} }

some_digits : Sevens digits
unfolding digits
some_digits = record { at = λ s i. tt {0} }

fractions : Sevens fraction
unfolding fraction digits
fractions = record { at = λ s i. either {A = List ℕ} (here (eqb 46) s i) (digits s (i + 1)) (read [] i) tt tt }

abbrev power_of : Bool → List ℕ → Parser Power
power_of minus d = need (ltb 0 (length d)) 7 >> give (record { under = minus; magnitude = digits_value 0 d })

signed : Sevens signed_digits
unfolding signed_digits
signed = bind (λ minus. digits >>= power_of minus) signs (λ minus. bind (power_of minus) some_digits (λ d. seq (needs _) (gives _)))

exponents : Sevens exponent
unfolding exponent
exponents =
    record {
      at = λ s i.
          either {A = Power} (here (λ b. eqb b 69 || eqb b 101) s i) (signed_digits s (i + 1)) (read (record { under = false; magnitude = 0 }) i) (signed.at s (i + 1)) tt;
    }

nearest_ones : (f : Format) (minus : Bool) (m u d : ℕ) → Sevens (to_nearest f minus m u d)
unfolding to_nearest
nearest_ones f minus m u d = seq (needs _) (gives _)

abbrev with_power : Bool → List ℕ → List ℕ → Power → Parser Float
with_power minus a b e = to_nearest binary64 minus (digits_value 0 (a ++ b)) (if e.under then 0 else e.magnitude) ((if e.under then e.magnitude else 0) + length b)

abbrev with_fraction : Bool → List ℕ → List ℕ → Parser Float
with_fraction minus a b = need (ltb 0 (length (a ++ b))) 7 >> (exponent >>= with_power minus a b)

abbrev with_digits : Bool → List ℕ → Parser Float
with_digits minus a = fraction >>= with_fraction minus a

numbers : Sevens (number binary64)
unfolding number
numbers =
    bind (λ minus. digits >>= with_digits minus) signs (λ minus. bind (with_digits minus) some_digits (λ a. bind (with_fraction minus a) fractions (λ b.
    seq (needs _) (bind (with_power minus a b) exponents (λ e. nearest_ones binary64 minus _ _ _)))))

-- ---- the matrix

skips : (t : ℕ → Bool) → Sevens (skip t)
unfolding skip
skips t = record { at = λ s i. tt {0} }

-- after a number, and where a row begins
abbrev behind : ℕ → Float → Parser (List Float)
behind n x u q = if here (λ b. space b || stop b) u q then after (row n u q) (λ xs. give (x ∷ xs)) u else refused 7

abbrev begun : ℕ → Parser (List Float)
begun n t p = if here stop t p then read [] p else after (number binary64 t p) (behind n) t

ends : (n : ℕ) → Sevens (row n) → (x : Float) → Sevens (behind n x)
ends n h x =
    record {
      at = λ u q. either {A = List Float} (here (λ b. space b || stop b) u q) (after (row n u q) (λ xs. give (x ∷ xs)) u) (refused 7)
          (after_seven (row n u q) (λ xs. give (x ∷ xs)) u (h.at u q) (λ xs. gives _)) refl;
    }

starts : (n : ℕ) → Sevens (row n) → Sevens (begun n)
starts n h =
    record {
      at = λ t p. either {A = List Float} (here stop t p) (read [] p) (after (number binary64 t p) (behind n) t) tt (after_seven (number binary64 t p) (behind n) t (numbers.at t p) (ends n h));
    }

rows : (n : ℕ) → Sevens (row n)
unfolding row
rows zero = record { at = λ s i. refl }
rows (suc n) = bind (λ _. begun n) (skips (λ b. not (eqb b 10) && space b)) (λ _. starts n (rows n))

lines : Sevens line
unfolding line
lines = seq (skips space) (rows 66)

bytes_of : (b : ℕ) → Sevens (byte b)
unfolding byte
bytes_of b = record { at = λ s i. either {A = Unit {0}} (here (eqb b) s i) (read tt (i + 1)) (refused 7) tt refl }

brackets : (b : ℕ) → Sevens (bracket b)
unfolding bracket
brackets b = seq (skips space) (bytes_of b)

endings : Sevens ending
unfolding ending
endings = record { at = λ s i. (needs (leb (length s) (i + run space (drop i s)))).at s i }

abbrev two_rows : List Float → List Float → Parser (List Float)
two_rows a b = bracket 93 >> (ending >> (need (leb 2 (length a) && (eqb (length a) (length b) && lt zero₆₄ (last zero₆₄ a))) 7 >> give a))

matrices : Sevens cmvn_rows
unfolding cmvn_rows
matrices = seq (brackets 91) (bind (λ a. line >>= two_rows a) lines (λ a. bind (two_rows a) lines (λ b. seq (brackets 93) (seq endings (seq (needs _) (gives a))))))

pub cmvn_seven : (s : List ℕ) (i : ℕ) → Seven (cmvn s i)
unfolding cmvn
cmvn_seven s i = after_seven (need (leb (length s) 65536) 7 s i) (λ _. cmvn_rows) s ((needs (leb (length s) 65536)).at s i) (λ _. matrices)
