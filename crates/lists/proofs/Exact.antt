-- The frame-number rule rounds nothing: a difference and an eighth of whole numbers below 2^24 are floats of f32. A law for each, whatever the numbers.
use mathlib.Core.Path.{◌≡◌, refl, sym, ap, ap₂, ◌∙◌, subst}
use mathlib.Core.Bool.{Bool, true, false}
use Prim.Native.Nat.{ℕ, ◌+◌, ◌-◌, ◌*◌, ◌%◌, ◌^◌, ◌≤◌, ◌<◌}
use native.Mathlib.Nat.{mod-lt, mul_assoc, mul_comm, mul-pos, mul-one, mul-sub, mul-le-mul_right, mul-lt-mul_of_pos_right}
use native.Mathlib.Omega.{arith}
use native.Mathlib.Decide.{dec_le}
use borrow.Author.Tests.{lt-ltb, le-ltb}
use lib.Dec.{ltb}
use lib.Ieee.{Float, nan, inf, fin, binary32, up, down, unlike, round, sum, add, sub, div, neg, of_int, of_bits}
use lib.Ieee.Back.{round_whole}
use lib.Ieee.Exact.{HasValue, round_exact}
use lib.Ieee.Fits.{down_pos}
use lib.Ieee.Scale.{round_same}
use Rattle.std.proofs.Common.{lit<}
use Rattle.floats.specs.Operators.{f32, as_f32}
use Rattle.lists.specs.Draws.{number_of}
use Rattle.lists.specs.Exact.{IsRational, NumbersExact}

-- ---- a whole number

whole : (a : ℕ) → a < 2 ^ 24 → HasValue (as_f32 a) false a 1
unfolding of_int
whole a h = round_whole binary32 false a (omega arith)

-- ---- a difference

sub-mul : (c a b : ℕ) → a * c - b * c ≡ (a - b) * c
sub-mul c a b = ap₂ (λ (x y : ℕ). x - y) (mul_comm a c) (mul_comm b c) ∙ sym (mul-sub c a b) ∙ mul_comm c (a - b)

-- (a c - b c) / c
less : (s : Bool) (a b c : ℕ) → 0 < c → a < 2 ^ 24 → HasValue (round binary32 s (a * c - b * c) c) s (a - b) 1
less s a b c C l =
    let e : (a * c - b * c) * 1 ≡ (a - b) * c = mul-one _ ∙ sub-mul c a b in
    subst (λ (x : Float). HasValue x s (a - b) 1) (sym (round_same binary32 s (a * c - b * c) c (a - b) 1 C (lit< tt) e)) (round_whole binary32 s (a - b) (omega arith))

apart : (a b c : ℕ) → 0 < c → a < 2 ^ 24 → b < 2 ^ 24 → IsRational (sum binary32 false (a * c) true (b * c) c) a b 1
unfolding sum
apart a b c C l k = go (dec_le b a)
  where
    go : Dec (b ≤ a) → IsRational (sum binary32 false (a * c) true (b * c) c) a b 1
    go (yes h) =
        let d : a - b + (b - a) ≡ a - b = omega arith in
        rw (le-ltb (a * c) (b * c) (mul-le-mul_right c h), le-ltb a b h, d) (less false a b c C l)
    go (no h) =
        let g : a < b = omega arith in
        let d : a - b + (b - a) ≡ b - a = omega arith in
        rw (lt-ltb (a * c) (b * c) (mul-lt-mul_of_pos_right g C), lt-ltb a b g, d) (less true b a c C k)

difference : (x y : Float) (a b : ℕ) → a < 2 ^ 24 → b < 2 ^ 24 → HasValue x false a 1 → HasValue y false b 1 → IsRational (sub binary32 x y) a b 1
unfolding sub add neg
difference nan y a b l k h g = absurd h
difference (inf t) y a b l k h g = absurd h
difference (fin t m e) nan a b l k h g = absurd g
difference (fin t m e) (inf r) a b l k h g = absurd g
difference (fin t m e) (fin r n d) a b l k h g =
    let p : m * up e * down d ≡ a * (down e * down d) = ap (λ (z : ℕ). z * down d) (sym (mul-one (m * up e)) ∙ h.1) ∙ mul_assoc a (down e) (down d) in
    let q : n * up d * down e ≡ b * (down e * down d) =
    ap (λ (z : ℕ). z * down e) (sym (mul-one (n * up d)) ∙ g.1) ∙ mul_assoc b (down d) (down e) ∙ ap (λ (z : ℕ). b * z) (mul_comm (down d) (down e)) in
    rw (h.0, g.0, p, q) (apart a b (down e * down d) (mul-pos (down_pos e) (down_pos d)) l k)

-- ---- an eighth

sign : (t s : Bool) → t ≡ s → unlike t false ≡ s
sign true s e = e
sign false s e = e

eighth : (x : Float) (s : Bool) (a : ℕ) → a < 2 ^ 24 → HasValue x s a 1 → HasValue (div binary32 x (as_f32 8)) s a 8
unfolding div of_int
eighth nan s a l h = absurd h
eighth (inf t) s a l h = absurd h
eighth (fin t m e) s a l h =
    let p : m * up e * 1 * 8 ≡ a * (8 * down e) = omega (arith, h.1, mul-one (m * up e)) in
    rw (sign t s h.0, round_same binary32 s (m * up e * 1) (8 * down e) a 8 (mul-pos (lit< tt) (down_pos e)) (lit< tt) p)
    (round_exact binary32 s a 8 a 146 (lit< tt) l (omega arith) (omega arith))

-- ---- the rule

first : (n : ℕ) (x : Float) → HasValue x false n 1 → IsRational x n 0 1
first n x h =
    let d : n - 0 + (0 - n) ≡ n = omega arith in
    rw (le-ltb n 0 (omega arith), d) h

thousand : f32 0x447a_0000 ≡ as_f32 1000
unfolding of_bits of_int round
thousand = refl

eight : f32 0x4100_0000 ≡ as_f32 8
unfolding of_bits of_int round
eight = refl

pub exact : NumbersExact
unfolding number_of
exact r =
    let n : ℕ = r % 2001 in
    let l : n < 2 ^ 24 = omega (arith, mod-lt r {m = 2001} (omega arith)) in
    let d : IsRational (sub binary32 (as_f32 n) (as_f32 1000)) n 1000 1 = difference (as_f32 n) (as_f32 1000) n 1000 l (omega arith) (whole n l) (whole 1000 (omega arith)) in
    record {
      whole = first n (as_f32 n) (whole n l);
      less = d;
      by_eight = eighth _ (ltb n 1000) (n - 1000 + (1000 - n)) (omega (arith, l)) d;
      number_is = ap₂ (λ (a b : Float). div binary32 (sub binary32 (as_f32 n) a) b) thousand eight;
    }
