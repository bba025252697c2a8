-- The CMVN text with a base dimension, read: two rows of dim sums of 50 and the count 100. A law for each part of the text's reader, by what stands from a place
-- on (`drop i s`).
use Rattle.std.proofs.lemmas.List.{get_or-drop}
use mathlib.Core.Path.{◌≡◌, refl, sym, ap, ◌∙◌}
use mathlib.Core.Bool.{Bool, true, false, not, ◌&&◌, ◌||◌}
use mathlib.Core.List.{List, [], ◌∷◌, ◌++◌, append_assoc}
use Prim.Native.Nat.{ℕ, zero, suc, ◌+◌, ◌-◌, ◌*◌, ◌≤◌, ◌<◌}
use native.Mathlib.Nat.{add-zero}
use native.Mathlib.Omega.{arith}
use borrow.Author.Tests.{le-leb, lt-ltb, eq-eqb}
use lib.Dec.{eqb, leb, ltb}
use lib.ListN.{length, get_or, drop, length-append, length-drop, replicate, length-replicate}
use lib.Seq.{take_at, drop_at, drop-drop}
use lib.Ieee.{Float, binary64, round, lt, of_int}
use Rattle.loops.specs.Lists.{flat}
use Rattle.floats.specs.Decimal.{scaled}
use Rattle.floats.specs.Operators.{as_f64, zero₆₄}
use Rattle.definition.specs.Options.{within}
use Rattle.definition.specs.Reader.{read, run, here}
use Rattle.definition.specs.Text.{sign, digits, fraction, digits_value, exponent, to_nearest, number, space, stop, skip, row, line, byte, bracket, ending, last, cmvn_rows, cmvn}
use Rattle.definition.proofs.Computed.{computed}
use Rattle.writer.proofs.Reading.{run_none}
use Rattle.lists.specs.Files.{cmvn_file}
use Rattle.lists.proofs.Lengths.{long, length-cmvn_file}

module _ (s : List ℕ) where
  -- ---- what stands at a place

  on : (i n : ℕ) {l : List ℕ} → drop i s ≡ l → drop (i + n) s ≡ drop n l
  on i n e = sym (drop-drop n i s) ∙ ap (drop n) e

  here_is : (t : ℕ → Bool) (i b : ℕ) (r : List ℕ) → drop i s ≡ b ∷ r → here t s i ≡ t b
  unfolding here
  here_is t i b r e =
      let l : length (drop i s) ≡ suc (length r) = ap length e in
      let inside : i < length s = omega (arith, l, length-drop i s) in
      let first : get_or s i 0 ≡ b = ap (λ (k : ℕ). get_or s k 0) (sym (add-zero i)) ∙ sym (get_or-drop i s 0 0) ∙ ap (λ (l : List ℕ). get_or l 0 0) e in
      rw (lt-ltb i (length s) inside, first)

  skip_is : (t : ℕ → Bool) (i n : ℕ) (l : List ℕ) → drop i s ≡ l → run t l ≡ n → skip t s i ≡ read tt (i + n)
  unfolding skip
  skip_is t i n l e h = ap (λ (l : List ℕ). read tt (i + run t l)) e ∙ ap (λ (k : ℕ). read tt (i + k)) h

  -- ---- a number: digits b d, and behind them byte c

  record Plain (b : ℕ) (d : List ℕ) (c : ℕ) (v : Float) : Type 0 where
    no_minus : eqb 45 b ≡ false
    no_sign : (eqb b 43 || eqb b 45) ≡ false
    many : (r : List ℕ) → run (within 48 57) (b ∷ (d ++ (c ∷ r))) ≡ suc (length d)
    no_point : eqb 46 c ≡ false
    no_exponent : (eqb c 69 || eqb c 101) ≡ false
    some : ltb 0 (length ((b ∷ d) ++ [])) ≡ true
    value : (i : ℕ) → to_nearest binary64 false (digits_value 0 ((b ∷ d) ++ [])) 0 0 s i ≡ read v i

  module _ (b : ℕ) (d : List ℕ) (c : ℕ) (v : Float) (p : Plain b d c v) (i : ℕ) (r : List ℕ) (e : drop i s ≡ b ∷ (d ++ (c ∷ r))) where
    abbrev j : ℕ
    j = i + suc (length d)

    behind : drop j s ≡ c ∷ r
    behind = on i (suc (length d)) e ∙ drop_at (b ∷ d) (c ∷ r) (suc (length d)) refl

    sign_is : sign s i ≡ read false i
    unfolding sign
    sign_is = rw (here_is (eqb 45) i b (d ++ (c ∷ r)) e, here_is (λ b. eqb b 43 || eqb b 45) i b (d ++ (c ∷ r)) e, p.no_minus, p.no_sign)

    digits_are : digits s i ≡ read (b ∷ d) j
    unfolding digits
    digits_are = rw (e, p.many r) (ap (λ (l : List ℕ). read l j) (take_at (b ∷ d) (c ∷ r) (suc (length d)) refl))

    fraction_is : fraction s j ≡ read [] j
    unfolding fraction
    fraction_is = rw (here_is (eqb 46) j c r behind, p.no_point)

    exponent_is : exponent s j ≡ read (record { under = false; magnitude = 0 }) j
    unfolding exponent
    exponent_is = rw (here_is (λ b. eqb b 69 || eqb b 101) j c r behind, p.no_exponent)

    number_is : number binary64 s i ≡ read v j
    unfolding number
    number_is = simp (sign_is, digits_are, fraction_is, p.some, exponent_is) (p.value j)

  -- ---- a row

  row_number : (n : ℕ) (b : ℕ) (d : List ℕ) (c : ℕ) (v : Float) → Plain b d c v → (not (eqb b 10) && space b) ≡ false → stop b ≡ false → (space c || stop c) ≡ true
      → (i : ℕ) (r : List ℕ) → drop i s ≡ b ∷ (d ++ (c ∷ r)) → (xs : List Float) (k : ℕ) → row n s (i + suc (length d)) ≡ read xs k → row (suc n) s i ≡ read (v ∷ xs) k
  unfolding row
  row_number n b d c v p g h l i r e xs k m =
      let at : skip (λ b. not (eqb b 10) && space b) s i ≡ read tt (i + 0) = skip_is (λ b. not (eqb b 10) && space b) i 0 (b ∷ (d ++ (c ∷ r))) e (run_none (λ b. not (eqb b 10) && space b) b (d ++ (c ∷ r)) g) in
      let z : i + 0 ≡ i = add-zero i in
      simp (at, z, here_is stop i b (d ++ (c ∷ r)) e, h, number_is b d c v p i r e, here_is (λ b. space b || stop b) (i + suc (length d)) c r (behind b d c v p i r e), l, m)

  -- a blank in front
  row_blank : (n i : ℕ) (l : List ℕ) → drop i s ≡ 32 ∷ l → row (suc n) s i ≡ row (suc n) s (i + 1)
  unfolding row run space
  row_blank n i l e =
      let gap : ℕ → Bool = λ b. not (eqb b 10) && space b in
      let a : skip gap s i ≡ read tt (i + suc (run gap l)) = skip_is gap i (suc (run gap l)) (32 ∷ l) e refl in
      let b : skip gap s (i + 1) ≡ read tt (i + 1 + run gap l) = skip_is gap (i + 1) (run gap l) l (on i 1 e) refl in
      let same : i + suc (run gap l) ≡ i + 1 + run gap l = omega arith in
      simp (a, b, same)

  row_end : (n i c : ℕ) (l : List ℕ) → drop i s ≡ c ∷ l → (not (eqb c 10) && space c) ≡ false → stop c ≡ true → row (suc n) s i ≡ read [] i
  unfolding row
  row_end n i c l e g h =
      let at : skip (λ b. not (eqb b 10) && space b) s i ≡ read tt (i + 0) = skip_is (λ b. not (eqb b 10) && space b) i 0 (c ∷ l) e (run_none (λ b. not (eqb b 10) && space b) c l g) in
      let z : i + 0 ≡ i = add-zero i in
      simp (at, z, here_is stop i c l e, h)

  -- ---- the sums and the count

  abbrev fifty : ℕ → List ℕ
  fifty i = 53 ∷ 48 ∷ 32 ∷ []

  plain-50 : Plain 53 (48 ∷ []) 32 (as_f64 50)
  unfolding run to_nearest digits_value scaled round of_int
  plain-50 = record { no_minus = refl; no_sign = refl; many = λ r. refl; no_point = refl; no_exponent = refl; some = refl; value = λ i. refl }

  plain-100 : (c : ℕ) → within 48 57 c ≡ false → eqb 46 c ≡ false → (eqb c 69 || eqb c 101) ≡ false → Plain 49 (48 ∷ 48 ∷ []) c (as_f64 100)
  unfolding run to_nearest digits_value scaled round of_int
  plain-100 c a b e = record { no_minus = refl; no_sign = refl; many = λ r. rw a; no_point = b; no_exponent = e; some = refl; value = λ i. refl }

  -- k sums and the count, with byte c behind it, in a row that ends where m more numbers would be too many
  row_sums : (k n m : ℕ) → n ≡ k + suc m → (c : ℕ) → Plain 49 (48 ∷ 48 ∷ []) c (as_f64 100) → (space c || stop c) ≡ true
      → (i j : ℕ) (r : List ℕ) → drop i s ≡ flat k fifty ++ (49 ∷ 48 ∷ 48 ∷ c ∷ r) → row m s (i + (k * 3 + 3)) ≡ read [] j
      → row n s i ≡ read (replicate k (as_f64 50) ++ (as_f64 100 ∷ [])) j
  unfolding flat space stop
  row_sums zero n m q c p h i j r e g =
      let n-is : n ≡ suc m = omega arith in
      let at : row m s (i + 3) ≡ read [] j = g in
      ap (λ (n : ℕ). row n s i) n-is ∙ row_number m 49 (48 ∷ 48 ∷ []) c (as_f64 100) p refl refl h i r e [] j at
  row_sums (suc k) n m q c p h i j r e g =
      let n-is : n ≡ suc (k + suc m) = omega arith in
      let two : drop (i + 2) s ≡ 32 ∷ (flat k fifty ++ (49 ∷ 48 ∷ 48 ∷ c ∷ r)) = on i 2 e in
      let three : drop (i + 2 + 1) s ≡ flat k fifty ++ (49 ∷ 48 ∷ 48 ∷ c ∷ r) = on (i + 2) 1 two in
      let far : i + 2 + 1 + (k * 3 + 3) ≡ i + (suc k * 3 + 3) = omega arith in
      let rest : row (k + suc m) s (i + 2 + 1) ≡ read (replicate k (as_f64 50) ++ (as_f64 100 ∷ [])) j =
      row_sums k (k + suc m) m refl c p h (i + 2 + 1) j r three (ap (row m s) far ∙ g) in
      let some : k + suc m ≡ suc (k + m) = omega arith in
      ap (λ (n : ℕ). row n s i) n-is
      ∙ row_number (k + suc m) 53 (48 ∷ []) 32 (as_f64 50) plain-50 refl refl refl i (flat k fifty ++ (49 ∷ 48 ∷ 48 ∷ c ∷ r)) e (replicate k (as_f64 50) ++ (as_f64 100 ∷ [])) j
      (ap (λ (n : ℕ). row n s (i + 2)) some ∙ row_blank (k + m) (i + 2) (flat k fifty ++ (49 ∷ 48 ∷ 48 ∷ c ∷ r)) two ∙ ap (λ (n : ℕ). row n s (i + 2 + 1)) (sym some) ∙ rest)

  -- no blank in front of the sums
  no_blank : (k c : ℕ) (r : List ℕ) → run space (flat k fifty ++ (49 ∷ 48 ∷ 48 ∷ c ∷ r)) ≡ 0
  unfolding flat run space
  no_blank zero c r = refl
  no_blank (suc k) c r = refl

  bracket_is : (b i n : ℕ) (l r : List ℕ) → drop i s ≡ l → run space l ≡ n → drop n l ≡ b ∷ r → eqb b b ≡ true → bracket b s i ≡ read tt (i + n + 1)
  unfolding bracket byte
  bracket_is b i n l r e h g t = simp (skip_is space i n l e h, here_is (eqb b) (i + n) b r (on i n e ∙ g), t)

  line_is : (i n : ℕ) (l : List ℕ) {xs : List Float} {j : ℕ} → drop i s ≡ l → run space l ≡ n → row 66 s (i + n) ≡ read xs j → line s i ≡ read xs j
  unfolding line
  line_is i n l e h g = simp (skip_is space i n l e h) g

last_sum : (k : ℕ) (x : Float) → last x (replicate k (as_f64 50) ++ (as_f64 100 ∷ [])) ≡ as_f64 100
last_sum zero x = refl
last_sum (suc k) x = last_sum k (as_f64 50)

above : lt zero₆₄ (as_f64 100) ≡ true
unfolding computed
above = refl

-- ---- the text

module _ (dim : ℕ) (low : 1 ≤ dim) (high : dim ≤ 64) where
  abbrev s : List ℕ
  s = cmvn_file dim

  abbrev pub V : List Float
  V = replicate dim (as_f64 50) ++ (as_f64 100 ∷ [])

  abbrev sums : List ℕ
  sums = flat dim (λ i. 53 ∷ 48 ∷ 32 ∷ [])

  abbrev second : List ℕ
  second = sums ++ (49 ∷ 48 ∷ 48 ∷ 32 ∷ 93 ∷ [])

  abbrev w : ℕ
  w = dim * 3 + 3

  length_sums : length sums ≡ dim * 3
  length_sums = long dim (53 ∷ 48 ∷ 32 ∷ [])

  from-0 : drop 0 s ≡ 91 ∷ 32 ∷ (sums ++ (49 ∷ 48 ∷ 48 ∷ 10 ∷ second))
  unfolding cmvn_file
  from-0 = refl

  from-2 : drop 2 s ≡ sums ++ (49 ∷ 48 ∷ 48 ∷ 10 ∷ second)
  from-2 = on s 0 2 from-0

  -- where the first row ends, and the second
  from-first : drop (2 + w) s ≡ 10 ∷ second
  from-first =
      on s 2 w from-2 ∙ ap (drop w) (sym (append_assoc sums (49 ∷ 48 ∷ 48 ∷ []) (10 ∷ second)))
      ∙ drop_at (sums ++ (49 ∷ 48 ∷ 48 ∷ [])) (10 ∷ second) w (length-append sums (49 ∷ 48 ∷ 48 ∷ []) ∙ ap (λ (n : ℕ). n + 3) length_sums)

  from-second : drop (2 + w + 1) s ≡ second
  from-second = on s (2 + w) 1 from-first

  from-last : drop (2 + w + 1 + w) s ≡ 32 ∷ 93 ∷ []
  from-last =
      on s (2 + w + 1) w from-second ∙ ap (drop w) (sym (append_assoc sums (49 ∷ 48 ∷ 48 ∷ []) (32 ∷ 93 ∷ [])))
      ∙ drop_at (sums ++ (49 ∷ 48 ∷ 48 ∷ [])) (32 ∷ 93 ∷ []) w (length-append sums (49 ∷ 48 ∷ 48 ∷ []) ∙ ap (λ (n : ℕ). n + 3) length_sums)

  abbrev m : ℕ
  m = 64 - dim

  first_row : row 66 s 2 ≡ read V (2 + w)
  unfolding run space stop
  first_row =
      let enough : 66 ≡ dim + suc (suc m) = omega arith in
      row_sums s dim 66 (suc m) enough 10 (plain-100 s 10 refl refl refl) refl 2 (2 + w) second from-2
      (row_end s m (2 + w) 10 second from-first refl refl)

  second_row : row 66 s (2 + w + 1) ≡ read V (2 + w + 1 + w + 1)
  unfolding run space stop
  second_row =
      let enough : 66 ≡ dim + suc (suc m) = omega arith in
      row_sums s dim 66 (suc m) enough 32 (plain-100 s 32 refl refl refl) refl (2 + w + 1) (2 + w + 1 + w + 1) (93 ∷ []) from-second
      (row_blank s m (2 + w + 1 + w) (93 ∷ []) from-last ∙ row_end s m (2 + w + 1 + w + 1) 93 [] (on s (2 + w + 1 + w) 1 from-last) refl refl)

  abbrev k : ℕ
  k = 2 + w + 1 + w + 1

  first_line : line s 1 ≡ read V (2 + w)
  unfolding run space
  first_line = line_is s 1 1 (32 ∷ (sums ++ (49 ∷ 48 ∷ 48 ∷ 10 ∷ second))) (on s 0 1 from-0) (ap suc (no_blank s dim 10 second)) first_row

  second_line : line s (2 + w) ≡ read V k
  unfolding run space
  second_line = line_is s (2 + w) 1 (10 ∷ second) from-first (ap suc (no_blank s dim 32 (93 ∷ []))) second_row

  opens : bracket 91 s 0 ≡ read tt 1
  unfolding run space
  opens = bracket_is s 91 0 0 (91 ∷ 32 ∷ (sums ++ (49 ∷ 48 ∷ 48 ∷ 10 ∷ second))) (32 ∷ (sums ++ (49 ∷ 48 ∷ 48 ∷ 10 ∷ second))) from-0 refl refl refl

  closes : bracket 93 s k ≡ read tt (k + 0 + 1)
  unfolding run space
  closes = bracket_is s 93 k 0 (93 ∷ []) [] (on s (2 + w + 1 + w) 1 from-last) refl refl refl

  past_end : ending s (k + 0 + 1) ≡ read tt (k + 0 + 1)
  unfolding ending run
  past_end =
      let none : drop (k + 0 + 1) s ≡ [] = on s (k + 0) 1 (ap (λ (n : ℕ). drop n s) (add-zero k) ∙ on s (2 + w + 1 + w) 1 from-last) in
      let long : length s ≤ k + 0 + 1 + 0 = omega (arith, length-cmvn_file dim) in
      rw (none, le-leb (length s) (k + 0 + 1 + 0) long)

  pub long_row : length V ≡ dim + 1
  long_row = length-append (replicate dim (as_f64 50)) (as_f64 100 ∷ []) ∙ ap (λ (n : ℕ). n + 1) (length-replicate dim (as_f64 50))

  row_good : (leb 2 (length V) && (eqb (length V) (length V) && lt zero₆₄ (last zero₆₄ V))) ≡ true
  row_good = rw (long_row, le-leb 2 (dim + 1) (omega arith), eq-eqb (dim + 1) (dim + 1) refl, last_sum dim zero₆₄) above

  pub cmvn_is : cmvn s 0 ≡ read V (k + 0 + 1)
  unfolding cmvn cmvn_rows
  cmvn_is =
      let few : leb (length s) 65536 ≡ true = le-leb (length s) 65536 (omega (arith, length-cmvn_file dim)) in
      simp (few, opens, first_line, second_line, closes, past_end, row_good)
