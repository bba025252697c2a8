-- Digits, numbers and lines, byte by byte.
use Prim.Native.Nat.{ℕ, zero, suc, ◌+◌, ◌-◌, ◌*◌, ◌^◌, ◌≤◌, ◌<◌}
use mathlib.Core.Path.{◌≡◌, refl, sym, ap, ◌∙◌}
use mathlib.Core.Bool.{true, false}
use mathlib.Core.List.{List}
use Rattle.std.specs.Prelude.{Option, Some, None, SomeIff, unwrap_or}
use native.Mathlib.Omega.{arith}
use native.Mathlib.Decide.{dec_le}
use borrow.Author.Tests.{lt-ltb, le-ltb, le-leb, lt-leb, eq-eqb, ne_eqb}
use lib.ListN.{length, get_or, drop, drop_of_length-le}
use Rattle.loops.proofs.Parts.{drop_next}
use Rattle.script.specs.declared.Scan.{Scan}
use Rattle.script.specs.declared.Signed.{Signed}
use Rattle.script.specs.Scan.{digit_of, GoesOn, Ends, number_at, step_at, signed_at, line_at, lines_end, whole_lines, moved_by}

module _ (b : ℕ) where
  pub digit_decimal : 48 ≤ b → b ≤ 57 → b - 48 ≡ digit_of b
  unfolding digit_of
  digit_decimal p q = rw (le-leb 48 b p, le-leb b 57 q)

  pub digit_letter : 97 ≤ b → b ≤ 102 → b - 97 + 10 ≡ digit_of b
  unfolding digit_of
  digit_letter p q = rw (le-leb 48 b (omega arith), lt-leb b 57 (omega arith), le-leb 97 b p, le-leb b 102 q) (omega arith)

  pub digit_below : b < 48 → 16 ≡ digit_of b
  unfolding digit_of
  digit_below p = rw (lt-leb 48 b p, lt-leb 97 b (omega arith))

  pub digit_between : 57 < b → b < 97 → 16 ≡ digit_of b
  unfolding digit_of
  digit_between p q = rw (le-leb 48 b (omega arith), lt-leb b 57 p, lt-leb 97 b q)

  pub digit_above : 102 < b → 16 ≡ digit_of b
  unfolding digit_of
  digit_above p = rw (le-leb 48 b (omega arith), lt-leb b 57 (omega arith), le-leb 97 b (omega arith), lt-leb b 102 p)

-- a number that is read from place i on, v being its digits so far
module _ (base : ℕ) (text : List ℕ) (v i : ℕ) (r : Scan) (e : number_at base v (drop i text) i ≡ r) where
  pub scan_done : length text ≤ i → record { value = v; next = i } ≡ r
  unfolding number_at
  scan_done l = sym (let g : number_at base v (drop i text) i ≡ record { value = v; next = i } = rw (drop_of_length-le text l) in sym e ∙ g)

  module _ (l : i < length text) where
    pub scan_turn : GoesOn base v (get_or text i 0) → number_at base (v * base + digit_of (get_or text i 0)) (drop (i + 1) text) (i + 1) ≡ r
    unfolding number_at
    scan_turn p =
        let d = digit_of (get_or text i 0) in
        let g : number_at base v (drop i text) i ≡ number_at base (v * base + d) (drop (i + 1) text) (i + 1) = rw (drop_next 0 text i l, lt-ltb d base p.0, lt-ltb (v * base + d) (2 ^ 64) p.1) in
        sym g ∙ e

    pub scan_end : Ends base v (get_or text i 0) → record { value = v; next = i + 1 } ≡ r
    unfolding number_at
    scan_end p = sym (go (dec_le base d)) ∙ e
      where
        d : ℕ
        d = digit_of (get_or text i 0)

        go : Dec (base ≤ d) → number_at base v (drop i text) i ≡ record { value = v; next = i + 1 }
        go (yes q) = rw (drop_next 0 text i l, le-ltb d base q)
        go (no q) = rw (drop_next 0 text i l, lt-ltb d base (omega arith), le-ltb (v * base + d) (2 ^ 64) (p (omega arith)))

module _ (text : List ℕ) (i r : ℕ) (e : line_at (drop i text) i ≡ r) where
  pub line_done : length text ≤ i → i ≡ r
  unfolding line_at
  line_done l = let g : line_at (drop i text) i ≡ i = rw (drop_of_length-le text l) in sym g ∙ e

  pub line_turn : i < length text → (get_or text i 0 ≡ 10 → ⊥) → line_at (drop (i + 1) text) (i + 1) ≡ r
  unfolding line_at
  line_turn l p = let g : line_at (drop i text) i ≡ line_at (drop (i + 1) text) (i + 1) = rw (drop_next 0 text i l, ne_eqb _ 10 p) in sym g ∙ e

  pub line_found : i < length text → get_or text i 0 ≡ 10 → i + 1 ≡ r
  unfolding line_at
  line_found l p = let g : line_at (drop i text) i ≡ i + 1 = rw (drop_next 0 text i l, eq-eqb _ 10 p) in sym g ∙ e

-- the last whole line, from the end: the last byte ends it, or the bytes before that have it
module _ (text : List ℕ) where
  pub end_first : 0 ≡ lines_end text 0
  unfolding lines_end
  end_first = refl

  pub end_found : (k : ℕ) → get_or text k 0 ≡ 10 → suc k ≡ lines_end text (suc k)
  unfolding lines_end
  end_found k h = rw (eq-eqb (get_or text k 0) 10 h)

  end_step : (n : ℕ) → (get_or text n 0 ≡ 10 → ⊥) → lines_end text n ≡ lines_end text (suc n)
  unfolding lines_end
  end_step n p = rw (ne_eqb (get_or text n 0) 10 p)

  -- none of the bytes from k on is 10
  pub end_above : (n k : ℕ) → k ≤ n → ((i : ℕ) → k ≤ i → i < n → get_or text i 0 ≡ 10 → ⊥) → lines_end text k ≡ lines_end text n
  end_above zero k h p = (let e : k ≡ zero = omega (arith, h) in ap (lines_end text) e)
  end_above (suc n) k h p = go (λ q. end_above n k q (λ i a b. p i a (omega (arith, b)))) (dec_le k n)
    where
      go : (k ≤ n → lines_end text k ≡ lines_end text n) → Dec (k ≤ n) → lines_end text k ≡ lines_end text (suc n)
      go f (yes q) = f q ∙ end_step n (λ g. p n q (omega arith) g)
      go f (no q) = let e : k ≡ suc n = omega (arith, h, q) in ap (lines_end text) e

-- the place after, in the text and behind it
pub step_in : (text : List ℕ) (at : ℕ) → at < length text → at + 1 ≡ step_at text at
unfolding step_at
step_in text at h = rw (lt-ltb at (length text) h)

pub step_behind : (text : List ℕ) (at : ℕ) → length text ≤ at → at ≡ step_at text at
unfolding step_at
step_behind text at h = rw (le-ltb at (length text) h)

-- a number with a minus sign, and one without
module _ (text : List ℕ) (at : ℕ) {b : ℕ} (e : b ≡ get_or text at 0) where
  pub signed_minus : {p : ℕ} {n : Scan} → b ≡ 45 → p ≡ step_at text at → n ≡ number_at 10 0 (drop p text) p → record { minus = true; size = n.value; next = n.next } ≡ signed_at text at
  unfolding signed_at
  signed_minus h q m = rw (m, q, eq-eqb (get_or text at 0) 45 (sym e ∙ h))

  pub signed_plain : {n : Scan} → (b ≡ 45 → ⊥) → n ≡ number_at 10 0 (drop at text) at → record { minus = false; size = n.value; next = n.next } ≡ signed_at text at
  unfolding signed_at
  signed_plain h m = rw (m, ne_eqb (get_or text at 0) 45 (λ k. h (e ∙ k)))

-- a room that is not full, and one that is
module _ (room : List ℕ) (n : ℕ) where
  pub whole_all : n < length room → n ≡ whole_lines room n
  unfolding whole_lines
  whole_all h = rw (lt-ltb n (length room) h)

  pub whole_full : {r : ℕ} → length room ≤ n → r ≡ lines_end room (length room) → r ≡ whole_lines room n
  unfolding whole_lines
  whole_full h e = rw (le-ltb n (length room) h) e

-- n moved up or down
module _ (n : ℕ) (by : Signed) where
  pub moved_down : {r : ℕ} → by.minus ≡ true → r ≡ n - by.size → r ≡ moved_by n by
  unfolding moved_by
  moved_down h e = rw h e

  pub moved_up : by.minus ≡ false → n + by.size < 2 ^ 64 → n + by.size ≡ moved_by n by
  unfolding moved_by
  moved_up h l = rw (h, lt-ltb (n + by.size) (2 ^ 64) l)

  pub moved_not : by.minus ≡ false → 2 ^ 64 ≤ n + by.size → n ≡ moved_by n by
  unfolding moved_by
  moved_not h l = rw (h, le-ltb (n + by.size) (2 ^ 64) l)

  -- by the sum, where it is one
  pub moved_sum : (r : Option ℕ) {m : ℕ} → by.minus ≡ false → SomeIff r (n + by.size < 2 ^ 64) (n + by.size) → m ≡ unwrap_or r n → m ≡ moved_by n by
  moved_sum None h s e = e ∙ moved_not h (omega (arith, s))
  moved_sum (Some x) h s e = e ∙ s.1 ∙ moved_up h s.0
