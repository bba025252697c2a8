-- Which patterns are finite, in both formats: those whose exponent's bits are not all ones (`finite-field`); and such a pattern may become a float
-- (`finite-pattern`), and back (`finite_number`). A number is finite where it less itself is no NaN (`less_itself`).
use Rattle.std.proofs.Common.{◌≡◌, ℕ, zero, suc, ◌+◌, ◌-◌, ◌*◌, ◌/◌, ◌%◌, Bool, true, false, cond, not, ◌&&◌, T, eqb, leb, ltb, ℤ, sym, refl, ap, ◌∙◌, subst, true≢false, eq-eqb}
use mathlib.Core.Bool.{beq, false≢true}
use lib.Ieee.{Float, nan, inf, fin, Format, binary32, binary64, of_bits, of_fields, odd, nan_bits, is_nan, hid, ones, top, prec, low, up, down, sum, sub, round, eq}
use Rattle.floats.proofs.Rounding.{round-no_nan}
use lib.Ieee.Scale.{finite}
use Rattle.std.specs.Float.{float_is_finite}
use lib.Ieee.Bits.{nan_bits_is}

odd-finite : (d : ℕ) (s : Bool) (q k l : ℕ) → finite (odd d s q k l) ≡ true
unfolding odd
odd-finite d s zero k l = refl
odd-finite d s (suc q) k l = refl

fields-finite : (a b s : Bool) (v : Float) → finite v ≡ true → finite (cond a (cond b (inf s) nan) v) ≡ not a
fields-finite true true s v h = refl
fields-finite true false s v h = refl
fields-finite false b s v h = h

no_ones : (f : Format) → eqb 0 (ones f) ≡ false
no_ones binary32 = refl
no_ones binary64 = refl

of_fields-finite : (f : Format) (s : Bool) (x t : ℕ) → finite (of_fields f s x t) ≡ not (eqb x (ones f))
unfolding of_fields
of_fields-finite f s zero t = odd-finite (prec f) s t 0 (low f) ∙ sym (ap not (no_ones f))
of_fields-finite f s (suc x) t = fields-finite (eqb (suc x) (ones f)) (eqb t 0) s (odd (prec f) s (hid f + t) x (low f)) (odd-finite (prec f) s (hid f + t) x (low f))

pub finite-field : (f : Format) (b : ℕ) → finite (of_bits f b) ≡ not (eqb (b % top f / hid f) (ones f))
unfolding of_bits
finite-field f b = of_fields-finite f (leb (top f) b) (b % top f / hid f) (b % hid f)

not-nan : (x : Float) → finite x ≡ true → is_nan x ≡ false
unfolding is_nan
not-nan nan e = absurd (false≢true e)
not-nan (inf s) e = refl
not-nan (fin s m e) h = refl

-- a finite number may become its pattern
pub finite_number : (x : Float) → finite x ≡ true → T (not (is_nan x))
finite_number x e = subst (λ (t : Bool). T (not t)) (sym (not-nan x e)) tt

-- a finite pattern may become a float
pub finite-pattern : (f : Format) (b : ℕ) → finite (of_bits f b) ≡ true → T (not (nan_bits f b))
finite-pattern f b e = subst (λ (t : Bool). T (not t)) (sym (nan_bits_is f b ∙ not-nan (of_bits f b) e)) tt

-- the library's word for it, which its methods `is_finite` answer by
pub std_finite : (x : Float) → float_is_finite x ≡ finite x
unfolding float_is_finite
std_finite nan = refl
std_finite (inf s) = refl
std_finite (fin s m e) = refl

-- x - x is a NaN where x is one or an infinity, and no NaN where x is finite
eq_self : (x : Float) → is_nan x ≡ false → eq x x ≡ true
unfolding eq is_nan
eq_self nan h = absurd (true≢false h)
eq_self (inf true) h = refl
eq_self (inf false) h = refl
eq_self (fin true m e) h = ap (λ (t : Bool). t && true) (eq-eqb (m * up e * down e) (m * up e * down e) refl)
eq_self (fin false m e) h = ap (λ (t : Bool). t && true) (eq-eqb (m * up e * down e) (m * up e * down e) refl)

eq-nan : eq nan nan ≡ false
unfolding eq
eq-nan = refl

cond-no_nan : (b : Bool) (x y : Float) → is_nan x ≡ false → is_nan y ≡ false → is_nan (cond b x y) ≡ false
cond-no_nan true x y h k = h
cond-no_nan false x y h k = k

sum-no_nan : (f : Format) (s : Bool) (a : ℕ) (t : Bool) (b c : ℕ) → is_nan (sum f s a t b c) ≡ false
unfolding sum
sum-no_nan f s a t b c =
    cond-no_nan (beq s t) (round f s (a + b) c) (cond (ltb a b) (round f t (b - a) c) (round f (s && ltb b a) (a - b) c)) (round-no_nan f s (a + b) c)
    (cond-no_nan (ltb a b) (round f t (b - a) c) (round f (s && ltb b a) (a - b) c) (round-no_nan f t (b - a) c) (round-no_nan f (s && ltb b a) (a - b) c))

sub-nan : (f : Format) → sub f nan nan ≡ nan
unfolding sub
sub-nan f = refl

sub-inf : (f : Format) (s : Bool) → sub f (inf s) (inf s) ≡ nan
unfolding sub
sub-inf f true = refl
sub-inf f false = refl

sub-fin : (f : Format) (s : Bool) (m : ℕ) (e : ℤ) → sub f (fin s m e) (fin s m e) ≡ sum f s (m * up e * down e) (not s) (m * up e * down e) (down e * down e)
unfolding sub
sub-fin f s m e = refl

pub less_itself : (f : Format) (x : Float) → eq (sub f x x) (sub f x x) ≡ finite x
less_itself f nan = ap (λ (d : Float). eq d d) (sub-nan f) ∙ eq-nan
less_itself f (inf s) = ap (λ (d : Float). eq d d) (sub-inf f s) ∙ eq-nan
less_itself f (fin s m e) = eq_self (sub f (fin s m e) (fin s m e)) (ap is_nan (sub-fin f s m e) ∙ sum-no_nan f s (m * up e * down e) (not s) (m * up e * down e) (down e * down e))
