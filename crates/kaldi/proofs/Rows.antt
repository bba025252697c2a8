-- The rows of the text.
use Rattle.std.specs.Prelude.{if◌then◌else◌}
use mathlib.Core.Path.{◌≡◌, refl, sym, ap, ◌∙◌}
use mathlib.Core.Bool.{true, false, ◌||◌}
use mathlib.Core.List.{List, [], ◌∷◌}
use Prim.Native.Nat.{ℕ, suc, ◌+◌, ◌-◌, ◌≤◌, ◌<◌}
use native.Mathlib.Nat.{zero-add, add-zero}
use native.Mathlib.Omega.{arith}
use lib.ListN.{length, drop, get_or, length-drop}
use lib.Seq.{get_or-drop, drop-drop}
use lib.Ieee.{Float, binary64, nan}
use Rattle.loops.specs.Inner.{fill}
use Rattle.loops.proofs.Choose.{by-test}
use Rattle.loops.proofs.Fill.{fill_list}
use Rattle.floats.specs.Operators.{zero₆₄, at}
use Rattle.definition.specs.Reader.{Got, after, give, here, refused, read}
use Rattle.definition.specs.Text.{number, space, stop, skip, row, line, last}
use Rattle.kaldi.specs.Inner.KaldiIoAnswers.{place_of}
use Rattle.kaldi.proofs.Chain.{not-read, same-value, same_place, same_refusal}
use Rattle.kaldi.specs.Inner.KaldiTextAnswers.{cells, RowIn}
use Rattle.kaldi.specs.Inner.KaldiText.{gap, Outline, outline, Outlines}
use Rattle.kaldi.specs.declared.kaldi_text.Row.{Row}

-- ---- a row, number by number

row-none : (s : List ℕ) (p : ℕ) → row 0 s p ≡ refused 7
unfolding row
row-none s p = refl

module _ (k : ℕ) (s : List ℕ) (p : ℕ) {q : ℕ} (e : read tt q ≡ skip gap s p) where
  row_stop : here stop s q ≡ true → row (suc k) s p ≡ read [] q
  unfolding row
  row_stop h = simp (← e, h)

  module _ (h : here stop s q ≡ false) where
    row_bad : {n : ℕ} → number binary64 s q ≡ refused n → row (suc k) s p ≡ refused n
    unfolding row
    row_bad x = simp (← e, h, x)

    module _ {x : Float} {z : ℕ} (f : number binary64 s q ≡ read x z) where
      row_joined : here (λ b. space b || stop b) s z ≡ false → row (suc k) s p ≡ refused 7
      unfolding row
      row_joined y = simp (← e, h, f, y)

      row_more : here (λ b. space b || stop b) s z ≡ true → row (suc k) s p ≡ after (row k s z) (λ xs. give (x ∷ xs)) s
      unfolding row
      row_more y = simp (← e, h, f, y)

-- ---- what the check keeps of a row, as its loop goes

outline_more : (n : ℕ) (y x : Float) (s : List ℕ) (g : Got (List Float)) → outline n y (after g (λ xs. give (x ∷ xs)) s) ≡ outline (n + 1) x g
outline_more n y x s (refused e) = refl
outline_more n y x s (read xs next) =
    let k : n + suc (length xs) ≡ n + 1 + length xs = omega arith in
    ap (λ (c : ℕ). read (record { count = c; final = last x xs }) next) k

-- the first n numbers are passed, y is the last of them, and p is the place behind it
pub record Outlined (s : List ℕ) (at n : ℕ) (y : Float) (p : ℕ) : Type 0 where
  pub so_far : outline 0 zero₆₄ (row 66 s at) ≡ outline n y (row (66 - n) s p)

-- a turn, with q behind the gap
pub record Turning (s : List ℕ) (at n : ℕ) (y : Float) (p q : ℕ) : Type 0 where
  pub passed : Outlined s at n y p
  pub few : n < 66
  pub behind : read tt q ≡ skip gap s p

-- ---- what it tells of the row

outline_refused : (k : ℕ) (y : Float) (g : Got (List Float)) {n : ℕ} → outline k y g ≡ refused n → refused n ≡ g
outline_refused k y (refused m) e = ap (λ (k : ℕ). refused k) (sym (same_refusal e))
outline_refused k y (read xs next) e = absurd (not-read (sym e))

-- the row was read, and what is kept of it is right
pub record Kept (g : Got (List Float)) (n : ℕ) (y : Float) (z : ℕ) : Type 0 where
  pub value : read (cells g) z ≡ g
  pub many : length (cells g) ≡ n
  pub final : last zero₆₄ (cells g) ≡ y

outline_kept : (g : Got (List Float)) {n : ℕ} {l : Float} {z : ℕ} → outline 0 zero₆₄ g ≡ read (record { count = n; final = l }) z → Kept g n l z
unfolding cells
outline_kept (refused m) e = absurd (not-read e)
outline_kept (read xs next) e =
    record {
      value = ap (λ (k : ℕ). read xs k) (sym (same_place e));
      many = sym (zero-add (length xs)) ∙ ap (λ (o : Outline). o.count) (same-value e);
      final = ap (λ (o : Outline). o.final) (same-value e);
    }

pub outline-long : {s : List ℕ} {at n : ℕ} {y : Float} {p : ℕ} → Outlined s at n y p → 66 ≤ n → refused 7 ≡ row 66 s at
outline-long {s} {n = n} {y = y} {p = p} o h =
    let k : 66 - n ≡ 0 = omega arith in
    outline_refused _ _ _ (o.so_far ∙ ap (λ (m : ℕ). outline n y (row m s p)) k ∙ ap (outline n y) (row-none s p))

module _ {s : List ℕ} {at n : ℕ} {y : Float} {p q : ℕ} (o : Turning s at n y p q) where
  turn : {g : Got (List Float)} → row (suc (66 - (n + 1))) s p ≡ g → outline 0 zero₆₄ (row 66 s at) ≡ outline n y g
  turn x =
      let k : 66 - n ≡ suc (66 - (n + 1)) = omega (arith, o.few) in
      o.passed.so_far ∙ ap (λ (m : ℕ). outline n y (row m s p)) k ∙ ap (outline n y) x

  pub outline_stop : here stop s q ≡ true → Kept (row 66 s at) n y q
  outline_stop h =
      let k : n + 0 ≡ n = omega arith in
      outline_kept _ (turn (row_stop _ s p o.behind h) ∙ ap (λ (c : ℕ). read (record { count = c; final = y }) q) k)

  module _ (h : here stop s q ≡ false) where
    pub outline_bad : {r : ℕ} → refused r ≡ number binary64 s q → refused r ≡ row 66 s at
    outline_bad x = outline_refused _ _ _ (turn (row_bad _ s p o.behind h (sym x)))

    module _ {x : Float} {z : ℕ} (f : read x z ≡ number binary64 s q) where
      -- the number has to end there
      pub outline_joined : row 66 s at ≡ if here (λ b. space b || stop b) s z then row 66 s at else refused 7
      outline_joined =
          by-test (here (λ b. space b || stop b) s z) (λ v. rw v) (λ v. sym (outline_refused _ _ _ (turn (row_joined _ s p o.behind h (sym f) v))) ∙ rw v)

      pub outline_turn : here (λ b. space b || stop b) s z ≡ true → Outlined s at (n + 1) x z
      outline_turn v = record { so_far = turn (row_more _ s p o.behind h (sym f) v) ∙ outline_more n y x s (row (66 - (n + 1)) s z) }

-- ---- the row read again

pub line_is : (s : List ℕ) (at p : ℕ) → read tt p ≡ skip space s at → row 66 s p ≡ line s at
unfolding line
line_is s at p e = simp (← e)

-- the first row of a text that was checked
pub row_is : (s : List ℕ) (a : ℕ) {r : Row} {b : ℕ} → read (cells (line s a)) b ≡ line s a → Outlines (cells (line s a)) r → 2 ≤ r.len → a ≤ length s → length s ≤ 65536 → RowIn s r.len a
row_is s a {b = b} e o low inside short = record { end = b; stands = sym e; many = o.many; inside = inside; short = short; low = low; high = o.few }

pub row_place : {A : Type 0} (g : Got A) {a : A} {z : ℕ} → g ≡ read a z → g ≡ read a (place_of g)
row_place g {a} e = e ∙ ap (λ (k : ℕ). read a k) (sym (ap place_of e))

pub row-filled : (xs room : List Float) {n : ℕ} → n ≡ length room → length xs ≡ length room → fill n (at xs) room ≡ xs
row-filled xs room e h = ap (λ (k : ℕ). fill k (at xs) room) (e ∙ sym h) ∙ fill_list nan xs room (sym h)

module _ (x : Float) (s : List ℕ) (xs : List Float) (end : ℕ) where
  joined : (g : Got (List Float)) → after g (λ ys. give (x ∷ ys)) s ≡ read xs end → (x ≡ get_or xs 0 nan) × (g ≡ read (drop 1 xs) end)
  joined (refused n) e = absurd (not-read e)
  joined (read ys next) e = (
    ap (λ (l : List Float). get_or l 0 nan) (same-value e),
    ap (λ (l : List Float). read (drop 1 l) next) (same-value e) ∙ ap (λ (z : ℕ). read (drop 1 xs) z) (same_place e),
  )

-- the first i numbers are read, p is the place after them, and q the place behind the gap
pub record Reading (s : List ℕ) (xs : List Float) (end i p q : ℕ) : Type 0 where
  pub behind : read tt q ≡ skip gap s p
  pub more : i < length xs
  pub few : length xs ≤ 65
  pub there : row (66 - i) s p ≡ read (drop i xs) end

module _ {s : List ℕ} {xs : List Float} {end i p q : ℕ} (o : Reading s xs end i p q) where
  this : row (suc (65 - i)) s p ≡ read (drop i xs) end
  this = let k : suc (65 - i) ≡ 66 - i = omega (arith, o.more, o.few) in ap (λ (n : ℕ). row n s p) k ∙ o.there

  going : here stop s q ≡ false
  going = by-test (here stop s q) (λ t. absurd (none (ap length (same-value (sym this ∙ row_stop (65 - i) s p o.behind t))))) (λ f. f)
    where
      none : length (drop i xs) ≡ 0 → ⊥
      none z = omega (arith, o.more, length-drop i xs)

  pub number_there : {n : ℕ} → refused n ≡ number binary64 s q → ⊥
  number_there x = not-read (sym (row_bad (65 - i) s p o.behind going (sym x)) ∙ this)

  module _ {x : Float} {z : ℕ} (e : read x z ≡ number binary64 s q) where
    f : number binary64 s q ≡ read x z
    f = sym e

    ended : here (λ b. space b || stop b) s z ≡ true
    ended = by-test (here (λ b. space b || stop b) s z) (λ t. t) (λ t. absurd (not-read (sym (row_joined (65 - i) s p o.behind going f t) ∙ this)))

    both : (x ≡ get_or (drop i xs) 0 nan) × (row (65 - i) s z ≡ read (drop 1 (drop i xs)) end)
    both = joined x s (drop i xs) end (row (65 - i) s z) (sym (row_more (65 - i) s p o.behind going f ended) ∙ this)

    pub number_value : x ≡ at xs i
    number_value = both.0 ∙ get_or-drop i xs 0 nan ∙ ap (λ (k : ℕ). get_or xs k nan) (add-zero i)

    pub row_rest : row (66 - (i + 1)) s z ≡ read (drop (i + 1) xs) end
    row_rest =
        let k : 66 - (i + 1) ≡ 65 - i = omega (arith, o.more, o.few) in
        ap (λ (n : ℕ). row n s z) k ∙ both.1 ∙ ap (λ (l : List Float). read l end) (drop-drop 1 i xs)
