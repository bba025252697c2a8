-- The parts of a text number, and the whole.
use Rattle.std.specs.Prelude.{if◌then◌else◌}
use mathlib.Core.Path.{◌≡◌, sym, ap, ◌∙◌}
use mathlib.Core.Bool.{Bool, true, false, ◌&&◌}
use mathlib.Core.List.{List, [], ◌++◌}
use mathlib.Core.Logic.{◌⊎◌, inl, inr, ⊎_elim}
use Prim.Native.Nat.{ℕ, ◌+◌, ◌^◌, ◌≤◌, ◌<◌, min}
use native.Mathlib.Nat.{zero-add}
use native.Mathlib.Decide.{dec_lt}
use native.Mathlib.Omega.{arith}
use borrow.Author.Tests.{le-leb, lt-leb, lt-ltb, le-ltb}
use lib.Dec.{leb, ltb, lit≤}
use lib.ListN.{length, length-append}
use lib.Ieee.{Float, Format, binary32, binary64, prec}
use Rattle.loops.proofs.Choose.{by-test}
use Rattle.floats.specs.Decimal.{tens}
use Rattle.definition.specs.Reader.{Got, Parser, after, refused, read}
use Rattle.definition.specs.Text.{sign, digits, fraction, digits_value, Power, exponent, to_nearest, number}
use Rattle.kaldi.proofs.Chain.{not-read, same-value, same_place, same_refusal}
use Rattle.kaldi.specs.Inner.KaldiText.{capped}
use Rattle.kaldi.proofs.Decimals.{decimal_append, decimal_cap}

le_of_not_lt : (m n : ℕ) → (m < n → ⊥) → n ≤ m
le_of_not_lt m n h = omega arith

-- ---- digits and power within their limits

-- where a format comes in: the code's caps are above every limit
prec-le : (f : Format) → 2 ^ prec f ≤ 2 ^ 53
prec-le binary32 = lit≤ tt
prec-le binary64 = lit≤ tt

tens-le : (f : Format) → tens f ≤ 22
tens-le binary32 = lit≤ tt
tens-le binary64 = lit≤ tt

module _ (f : Format) (minus : Bool) (m u d : ℕ) (s : List ℕ) (next : ℕ) where
  pub finished_big : 2 ^ prec f ≤ m → refused 7 ≡ to_nearest f minus m u d s next
  unfolding to_nearest
  finished_big h = simp (le-ltb m (2 ^ prec f) h)

  module _ (few : m < 2 ^ prec f) where
    pub finished_high : d + tens f < u → refused 7 ≡ to_nearest f minus m u d s next
    unfolding to_nearest
    finished_high h = simp (lt-ltb m (2 ^ prec f) few, lt-leb u (d + tens f) h)

    module _ (low : u ≤ d + tens f) where
      pub finished_low : u + tens f < d → refused 7 ≡ to_nearest f minus m u d s next
      unfolding to_nearest
      finished_low h = simp (lt-ltb m (2 ^ prec f) few, le-leb u (d + tens f) low, lt-leb d (u + tens f) h)

  -- a power too high or too low is refused, whatever the digits
  out_of_reach : (d + 22 < u) ⊎ (u + 22 < d) → to_nearest f minus m u d s next ≡ refused 7
  out_of_reach h = go (dec_lt m (2 ^ prec f))
    where
      high : (n : ℕ) → n ≤ 22 → d + 22 < u → d + n < u
      high n l k = omega arith

      low : (n : ℕ) → n ≤ 22 → u + 22 < d → (u ≤ d + n) × (u + n < d)
      low n l k = (omega arith, omega arith)

      go : Dec (m < 2 ^ prec f) → to_nearest f minus m u d s next ≡ refused 7
      go (yes k) = ⊎_elim (λ l. sym (finished_high k (high (tens f) (tens-le f) l))) (λ l. let b = low (tens f) (tens-le f) l in sym (finished_low k b.0 b.1)) h
      go (no k) = sym (finished_big (le_of_not_lt m (2 ^ prec f) k))

  -- the bytes play no part
  finished_any : (t : List ℕ) → to_nearest f minus m u d s next ≡ to_nearest f minus m u d t next
  unfolding to_nearest
  finished_any t = by-test (ltb m (2 ^ prec f) && (leb u (d + tens f) && leb d (u + tens f))) (λ e. rw e) (λ e. rw e)

-- the caps do not show
module _ (f : Format) (minus : Bool) (s : List ℕ) (next : ℕ) where
  cap_digits : (m u d : ℕ) → to_nearest f minus (min m (2 ^ 53)) u d s next ≡ to_nearest f minus m u d s next
  cap_digits m u d = go (dec_lt m (2 ^ prec f))
    where
      under : (n : ℕ) → n ≤ 9007199254740992 → m < n → min m 9007199254740992 ≡ m
      under n l k = omega arith

      over : (n : ℕ) → n ≤ 9007199254740992 → n ≤ m → n ≤ min m 9007199254740992
      over n l k = omega arith

      go : Dec (m < 2 ^ prec f) → to_nearest f minus (min m (2 ^ 53)) u d s next ≡ to_nearest f minus m u d s next
      go (yes k) = ap (λ (x : ℕ). to_nearest f minus x u d s next) (under (2 ^ prec f) (prec-le f) k)
      go (no k) =
          let l : 2 ^ prec f ≤ m = le_of_not_lt m (2 ^ prec f) k in
          sym (finished_big f minus (min m (2 ^ 53)) u d s next (over (2 ^ prec f) (prec-le f) l)) ∙ finished_big f minus m u d s next l

  cap_up : (m e n : ℕ) → n ≤ 65536 → to_nearest f minus m (min e 100000) n s next ≡ to_nearest f minus m e n s next
  cap_up m e n h = go (dec_lt e 100000)
    where
      go : Dec (e < 100000) → to_nearest f minus m (min e 100000) n s next ≡ to_nearest f minus m e n s next
      go (yes k) = let q : min e 100000 ≡ e = omega arith in ap (λ (x : ℕ). to_nearest f minus m x n s next) q
      go (no k) = out_of_reach f minus m (min e 100000) n s next (inl (omega arith)) ∙ sym (out_of_reach f minus m e n s next (inl (omega arith)))

  cap_down : (m e n : ℕ) → to_nearest f minus m 0 (min e 100000 + n) s next ≡ to_nearest f minus m 0 (e + n) s next
  cap_down m e n = go (dec_lt e 100000)
    where
      go : Dec (e < 100000) → to_nearest f minus m 0 (min e 100000 + n) s next ≡ to_nearest f minus m 0 (e + n) s next
      go (yes k) = let q : min e 100000 ≡ e = omega arith in ap (λ (x : ℕ). to_nearest f minus m 0 (x + n) s next) q
      go (no k) = out_of_reach f minus m 0 (min e 100000 + n) s next (inr (omega arith)) ∙ sym (out_of_reach f minus m 0 (e + n) s next (inr (omega arith)))

-- ---- the whole number

-- what follows the exponent
abbrev pub tail : Format → Bool → List ℕ → List ℕ → List ℕ → Got Power → Got Float
tail f minus a b s g = after g (λ e. to_nearest f minus (digits_value 0 (a ++ b)) (if e.under then 0 else e.magnitude) ((if e.under then e.magnitude else 0) + length b)) s

-- as the code has it: an exponent of size z below zero, or not
abbrev scaled_by : Format → Bool → ℕ → Bool → ℕ → ℕ → Parser Float
scaled_by f minus m under z n = to_nearest f minus m (if under then 0 else z) ((if under then z else 0) + n)

cap_power : (f : Format) (minus : Bool) (m : ℕ) (under : Bool) (e n : ℕ) (s : List ℕ) (next : ℕ) → n ≤ 65536 → scaled_by f minus m under (min e 100000) n s next ≡ scaled_by f minus m under e n s next
cap_power f minus m true e n s next h = cap_down f minus s next m e n
cap_power f minus m false e n s next h =
    let z : (x : ℕ) → to_nearest f minus m x (0 + n) s next ≡ to_nearest f minus m x n s next = λ x. ap (λ (k : ℕ). to_nearest f minus m x k s next) (zero-add n) in
    z (min e 100000) ∙ cap_up f minus s next m e n h ∙ sym (z e)

-- the parts of a number, as the code reads them: the sign, the digits, and those of the fraction
pub record Parts (s : List ℕ) (at : ℕ) (minus : Bool) (a b : List ℕ) (from to stop : ℕ) : Type 0 where
  pub lead : read minus from ≡ sign s at
  pub whole : read a to ≡ digits s from
  pub part : read b stop ≡ fraction s to

module _ {s : List ℕ} {at : ℕ} {minus : Bool} {a b : List ℕ} {from to stop : ℕ} (o : Parts s at minus a b from to stop) (f : Format) where
  -- one digit at least
  pub number_by : number f s at ≡ if ltb 0 (length a + length b) then tail f minus a b s (exponent s stop) else refused 7
  unfolding number
  number_by = simp (← o.lead, ← o.whole, ← o.part, length-append a b) (by-test (ltb 0 (length a + length b)) (λ t. rw t) (λ t. rw t))

  module _ (some : 0 < length a + length b) where
    number_tail : number f s at ≡ tail f minus a b s (exponent s stop)
    number_tail = number_by ∙ rw (lt-ltb 0 (length a + length b) some)

    pub number_refused : {e : ℕ} → refused e ≡ capped (exponent s stop) → refused e ≡ number f s at
    number_refused {e} h = go (exponent s stop) h ∙ sym number_tail
      where
        go : (g : Got Power) → refused e ≡ capped g → refused e ≡ tail f minus a b s g
        go (refused n) h = ap (λ (k : ℕ). refused k) (same_refusal h)
        go (read p x) h = absurd (not-read h)

    -- the digits as the code has them
    module _ {u : Bool} {z next : ℕ} (held : read (record { under = u; magnitude = z }) next ≡ capped (exponent s stop))
        {w : ℕ} (first : w ≡ min (digits_value 0 a) (2 ^ 53)) {m : ℕ} (second : m ≡ min (digits_value w b) (2 ^ 53)) where
      digits_held : m ≡ min (digits_value 0 (a ++ b)) (2 ^ 53)
      digits_held =
          second ∙ ap (λ (k : ℕ). min (digits_value k b) (2 ^ 53)) first ∙ decimal_cap (digits_value 0 a) (2 ^ 53) b ∙ ap (λ (k : ℕ). min k (2 ^ 53)) (sym (decimal_append 0 a b))

      number_read : length b ≤ 65536 → scaled_by f minus m u z (length b) s next ≡ number f s at
      number_read l = go (exponent s stop) held ∙ sym number_tail
        where
          go : (g : Got Power) → read (record { under = u; magnitude = z }) next ≡ capped g → scaled_by f minus m u z (length b) s next ≡ tail f minus a b s g
          go (refused n) h = absurd (not-read (sym h))
          go (read p x) h =
              let e = same-value h in
              ap (λ (k : ℕ). scaled_by f minus k u z (length b) s next) digits_held
              ∙ cap_digits f minus s next (digits_value 0 (a ++ b)) _ _
              ∙ ap (λ (q : Power). scaled_by f minus (digits_value 0 (a ++ b)) q.under q.magnitude (length b) s next) e
              ∙ ap (scaled_by f minus (digits_value 0 (a ++ b)) p.under (min p.magnitude 100000) (length b) s) (same_place h)
              ∙ cap_power f minus (digits_value 0 (a ++ b)) p.under p.magnitude (length b) s x l

      pub number_under : u ≡ true → length b ≤ 65536 → to_nearest f minus m 0 (z + length b) [] next ≡ number f s at
      number_under e l = finished_any f minus m 0 (z + length b) [] next s ∙ ap (λ (v : Bool). scaled_by f minus m v z (length b) s next) (sym e) ∙ number_read l

      pub number_over : u ≡ false → length b ≤ 65536 → to_nearest f minus m z (length b) [] next ≡ number f s at
      number_over e l =
          finished_any f minus m z (length b) [] next s ∙ ap (λ (n : ℕ). to_nearest f minus m z n s next) (sym (zero-add (length b)))
          ∙ ap (λ (v : Bool). scaled_by f minus m v z (length b) s next) (sym e) ∙ number_read l
