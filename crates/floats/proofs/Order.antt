-- The order of floats: with `<` false of x, y and of y, z it is false of x, z, whatever x and z are and where y is no NaN. So floats other than NaN lie
-- in one line, in which only the two zeros share a place.
use Rattle.std.proofs.Common.{◌≡◌, ℕ, zero, suc, ◌+◌, ◌*◌, ◌<◌, ◌≤◌, Bool, true, false, not, ◌&&◌, ltb, sym, refl, ◌∙◌, true≢false, zero-lt-suc, mul-pos, zero-mul, arith, ltb-false, ltb-true, le-ltb}
use mathlib.Core.Bool.{false≢true}
use lib.Ieee.{Float, nan, inf, fin, is_nan, lt, below, up, down}
use lib.Ieee.Fits.{down_pos}
use lib.Ieee.Positive.{through}

-- ---- a NaN is above nothing

pub lt-nan : (x : Float) → lt x nan ≡ false
unfolding lt
lt-nan nan = refl
lt-nan (inf s) = refl
lt-nan (fin s m d) = refl

pub lt-no_nan : (x y : Float) → lt x y ≡ true → is_nan y ≡ false
unfolding is_nan
lt-no_nan x nan e = absurd (true≢false (sym e ∙ lt-nan x))
lt-no_nan x (inf t) e = refl
lt-no_nan x (fin t n d) e = refl

-- ---- of fractions with a sign: x / p, y / q, z / r

-- a number that is 0 times a positive one is 0 times any
none : (a b c : ℕ) → 0 < b → a * b ≤ 0 → a * c ≡ 0
none zero b c B h = zero-mul c
none (suc a) b c B h = let m = mul-pos (zero-lt-suc a) B in absurd (omega arith)

first-none : (a b : ℕ) → ltb 0 (a + b) ≡ false → a ≤ 0
first-none a b e = let h = ltb-false 0 (a + b) e in omega arith

second_none : (a b : ℕ) → ltb 0 (a + b) ≡ false → b ≤ 0
second_none a b e = let h = ltb-false 0 (a + b) e in omega arith

both_none : (a b : ℕ) → a ≡ 0 → b ≡ 0 → ltb 0 (a + b) ≡ false
both_none a b e f = le-ltb 0 (a + b) (omega arith)

under : (a b : ℕ) → a ≤ b → b ≡ 0 → a ≤ 0
under a b h e = omega arith

not_less : (a b : ℕ) → a ≡ 0 → ltb b a ≡ false
not_less a b e = le-ltb b a (omega arith)

not-below : (s t u : Bool) (x y z p q r : ℕ) → 0 < p → 0 < q → 0 < r → below t (y * p) s (x * q) ≡ false → below u (z * q) t (y * r) ≡ false → below u (z * p) s (x * r) ≡ false
not-below true t false x y z p q r P Q R h k = refl
not-below false false false x y z p q r P Q R h k = le-ltb (z * p) (x * r) (through x y z p q r Q (ltb-false (y * p) (x * q) h) (ltb-false (z * q) (y * r) k))
not-below false true false x y z p q r P Q R h k = not_less (x * r) (z * p) (none x q r Q (second_none (y * p) (x * q) h))
not-below false false true x y z p q r P Q R h k =
    let o = none y r p R (second_none (z * q) (y * r) k) in
    both_none (z * p) (x * r) (none z q p Q (first-none (z * q) (y * r) k)) (none x q r Q (under (x * q) (y * p) (ltb-false (y * p) (x * q) h) o))
not-below false true true x y z p q r P Q R h k =
    let o = none y p r P (first-none (y * p) (x * q) h) in
    both_none (z * p) (x * r) (none z q p Q (under (z * q) (y * r) (ltb-false (y * r) (z * q) k) o)) (none x q r Q (second_none (y * p) (x * q) h))
not-below true true true x y z p q r P Q R h k = le-ltb (x * r) (z * p) (through z y x r q p Q (ltb-false (y * r) (z * q) k) (ltb-false (x * q) (y * p) h))
not-below true false true x y z p q r P Q R h k = not_less (z * p) (x * r) (none z q p Q (first-none (z * q) (y * r) k))

-- ---- no two are each below the other

ltb_asym : (a b : ℕ) → ltb a b ≡ true → ltb b a ≡ false
ltb_asym a b e = let h = ltb-true a b e in le-ltb b a (omega arith)

below_asym : (s : Bool) (a : ℕ) (t : Bool) (b : ℕ) → below s a t b ≡ true → below t b s a ≡ false
below_asym false a false b e = ltb_asym a b e
below_asym false a true b e = absurd (false≢true e)
below_asym true a false b e = refl
below_asym true a true b e = ltb_asym b a e

pub lt_asym : (x y : Float) → lt x y ≡ true → lt y x ≡ false
unfolding lt
lt_asym nan y e = absurd (false≢true e)
lt_asym (inf s) nan e = absurd (false≢true e)
lt_asym (inf false) (inf t) e = absurd (false≢true e)
lt_asym (inf true) (inf false) e = refl
lt_asym (inf true) (inf true) e = absurd (false≢true e)
lt_asym (inf true) (fin t n d) e = refl
lt_asym (inf false) (fin t n d) e = absurd (false≢true e)
lt_asym (fin s m e) nan h = absurd (false≢true h)
lt_asym (fin s m e) (inf false) h = refl
lt_asym (fin s m e) (inf true) h = absurd (false≢true h)
lt_asym (fin s m e) (fin t n d) h = below_asym s (m * up e * down d) t (n * up d * down e) h

-- ---- of floats

signs : (s t u : Bool) → (t && not s) ≡ false → (u && not t) ≡ false → (u && not s) ≡ false
signs s t false h k = refl
signs true t true h k = refl
signs false false true h k = k
signs false true true h k = h

pub not-lt_trans : (x y z : Float) → is_nan y ≡ false → lt y x ≡ false → lt z y ≡ false → lt z x ≡ false
unfolding lt is_nan
not-lt_trans nan y z n h k = lt-nan z
not-lt_trans (inf s) nan z n h k = absurd (true≢false n)
not-lt_trans (fin s m e) nan z n h k = absurd (true≢false n)
not-lt_trans (inf s) (inf t) nan n h k = refl
not-lt_trans (inf s) (fin t m d) nan n h k = refl
not-lt_trans (fin s m e) (inf t) nan n h k = refl
not-lt_trans (fin s m e) (fin t l d) nan n h k = refl
not-lt_trans (inf s) (inf t) (inf u) n h k = signs s t u h k
not-lt_trans (inf true) (inf t) (fin u l c) n h k = refl
not-lt_trans (inf false) (inf true) (fin u l c) n h k = h
not-lt_trans (inf false) (inf false) (fin u l c) n h k = k
not-lt_trans (inf true) (fin t m d) (inf false) n h k = refl
not-lt_trans (inf true) (fin t m d) (inf true) n h k = refl
not-lt_trans (inf false) (fin t m d) (inf u) n h k = absurd (true≢false h)
not-lt_trans (inf s) (fin t m d) (fin u l c) n h k = h
not-lt_trans (fin s m e) (inf true) (inf u) n h k = absurd (true≢false h)
not-lt_trans (fin s m e) (inf false) (inf false) n h k = refl
not-lt_trans (fin s m e) (inf false) (inf true) n h k = k
not-lt_trans (fin s m e) (inf true) (fin u l c) n h k = absurd (true≢false h)
not-lt_trans (fin s m e) (inf false) (fin u l c) n h k = absurd (true≢false k)
not-lt_trans (fin s m e) (fin t l d) (inf u) n h k = k
not-lt_trans (fin s m e) (fin t l d) (fin u i c) n h k = not-below s t u (m * up e) (l * up d) (i * up c) (down e) (down d) (down c) (down_pos e) (down_pos d) (down_pos c) h k
