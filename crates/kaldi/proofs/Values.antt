-- Numbers in bytes, from low to high.
use Rattle.std.proofs.Common.{◌≡◌, ℕ, zero, suc, ◌+◌, ◌*◌, ◌/◌, ◌%◌, ◌<◌, ◌≤◌, Bool, true, false, not, nat_eq, List, [], ◌∷◌, length, get_or, take, drop, sym, ap, refl, ◌∙◌, arith, add_assoc, drop-drop, not-suc-le-zero, le_of_suc-le-suc, suc-mul, from_bits}
use Rattle.std.proofs.lemmas.List.{same_lists, get_or_default}
use Rattle.std.proofs.Math.Seq.{take-length}
use Rattle.std.specs.Int.{Width, w32, w64, byte_len, from_le_bytes}
use Rattle.std.specs.Float.{Format, binary32, binary64}
use Rattle.loops.proofs.Parts.{drop_next}
use lib.Ieee.{Float, nan, inf, fin, lt}
use lib.Ieee.Scale.{finite}
use Rattle.floats.specs.Operators.{at, zero₃₂}
use Rattle.floats.proofs.Finite.{finite-field}
use Rattle.floats.specs.Narrow.{narrowed}
use mathlib.Core.Bool.{false≢true}
use Rattle.loops.specs.Lists.{all_of}
use Rattle.loops.specs.Refusal.{first_of}
use Rattle.loops.proofs.Choose.{by-test, and_holds}
use Rattle.loops.proofs.Tests.{each_at, at_each}
use Rattle.floats.specs.Real.{byte_width, kept_as}
use Rattle.definition.specs.Reader.{little_endian, numbers, kept}

next-byte : (n : ℕ) (s : List ℕ) (at : ℕ) → at < length s → take (suc n) (drop at s) ≡ get_or s at 0 ∷ take n (drop (at + 1) s)
next-byte n s at h = rw (drop_next 0 s at h)

-- four bytes, and n bytes after them: at n = 0 a number of four, at n = 4 one of eight
four_bytes : (n : ℕ) (s : List ℕ) (at : ℕ) → at + 4 ≤ length s
    → little_endian (take (suc (suc (suc (suc n)))) (drop at s))
    ≡ get_or s at 0 + get_or s (at + 1) 0 * 256 + get_or s (at + 2) 0 * 65536 + get_or s (at + 3) 0 * 16777216 + little_endian (take n (drop (at + 4) s)) * 4294967296
unfolding little_endian
four_bytes n s at h =
    let a = ap little_endian (next-byte (suc (suc (suc n))) s at (omega arith)) in
    let b = rw add_assoc at (ap little_endian (next-byte (suc (suc n)) s (at + 1) (omega arith))) in
    let c = rw add_assoc at (ap little_endian (next-byte (suc n) s (at + 2) (omega arith))) in
    let d = rw add_assoc at (ap little_endian (next-byte n s (at + 3) (omega arith))) in
    omega arith

-- std's reading of as many bytes as a width has is the definition's
pub read_bytes : (w : Width) (f : Format) (s : List ℕ) → byte_len w ≡ byte_width f → length s ≡ byte_width f → from_le_bytes w s ≡ little_endian s
unfolding little_endian
read_bytes w binary32 s e h =
    let whole : take 4 s ≡ s = ap (λ (n : ℕ). take n s) (sym h) ∙ take-length s in
    let value = four_bytes 0 s 0 (omega arith) in
    rw e (omega (arith, value, ap little_endian whole))
read_bytes w binary64 s e h =
    let whole : take 8 s ≡ s = ap (λ (n : ℕ). take n s) (sym h) ∙ take-length s in
    let value = four_bytes 4 s 0 (omega arith) in
    let high = four_bytes 0 s 4 (omega arith) in
    rw e (omega (arith, value, high, ap little_endian whole))

pub read_4 : (s : List ℕ) → length s ≡ 4 → from_le_bytes w32 s ≡ little_endian s
read_4 s h = read_bytes w32 binary32 s refl h

pub read_8 : (s : List ℕ) → length s ≡ 8 → from_le_bytes w64 s ≡ little_endian s
read_8 s h = read_bytes w64 binary64 s refl h

pub ruleset reads = (read_4, read_8)

-- whether a number is finite, by the bits of its exponent
pub finite_32 : (s : List ℕ) (n : ℕ) → n ≡ little_endian s → not (nat_eq (n % 2147483648 / 8388608) 255) ≡ finite (from_bits binary32 (little_endian s))
finite_32 s n e = ap (λ (m : ℕ). not (nat_eq (m % 2147483648 / 8388608) 255)) e ∙ sym (finite-field binary32 (little_endian s))

pub finite_64 : (s : List ℕ) (n : ℕ) → n ≡ little_endian s → not (nat_eq (n % 9223372036854775808 / 4503599627370496) 2047) ≡ finite (from_bits binary64 (little_endian s))
finite_64 s n e = ap (λ (m : ℕ). not (nat_eq (m % 9223372036854775808 / 4503599627370496) 2047)) e ∙ sym (finite-field binary64 (little_endian s))

-- ---- the numbers of a list of bytes

pub numbers_length : (f w : Format) (n : ℕ) (l : List ℕ) → length (numbers f w n l) ≡ n
unfolding numbers
numbers_length f w zero l = refl
numbers_length f w (suc n) l = ap suc (numbers_length f w n (drop (byte_width w) l))

-- number i stands i sizes further
pub numbers_at : (f w : Format) (n : ℕ) (l : List ℕ) (i : ℕ) → i < n → at (numbers f w n l) i ≡ kept_as f w (from_bits w (little_endian (take (byte_width w) (drop (i * byte_width w) l))))
unfolding numbers
numbers_at f w zero l i h = absurd (not-suc-le-zero h)
numbers_at f w (suc n) l zero h = let e : 0 ≡ 0 * byte_width w = omega arith in ap (λ (m : ℕ). kept_as f w (from_bits w (little_endian (take (byte_width w) (drop m l))))) e
numbers_at f w (suc n) l (suc i) h =
    let e : byte_width w + i * byte_width w ≡ suc i * byte_width w = omega (arith, suc-mul i (byte_width w)) in
    numbers_at f w n (drop (byte_width w) l) i (le_of_suc-le-suc h)
    ∙ ap (λ (m : List ℕ). kept_as f w (from_bits w (little_endian (take (byte_width w) m)))) (drop-drop (i * byte_width w) (byte_width w) l)
    ∙ ap (λ (m : ℕ). kept_as f w (from_bits w (little_endian (take (byte_width w) (drop m l))))) e

-- one that is not narrowed is kept as it is written
pub whole_at : (f w : Format) (n : ℕ) (l : List ℕ) (i : ℕ) → i < n → byte_width w ≤ byte_width f
    → from_bits w (little_endian (take (byte_width w) (drop (i * byte_width w) l))) ≡ at (numbers f w n l) i
whole_at binary32 binary32 n l i h e = sym (numbers_at binary32 binary32 n l i h)
whole_at binary32 binary64 n l i h e = absurd (omega arith)
whole_at binary64 w n l i h e = sym (numbers_at binary64 w n l i h)

-- a finite number that is to be above zero
pub above_kept : (positive b : Bool) (x : Float) → positive ≡ true → finite x ≡ true → b ≡ lt zero₃₂ x → b ≡ kept positive x
unfolding kept
above_kept positive b x e f h = h ∙ rw (e, f) refl

-- what is kept is finite, and only of a number that is finite as it is written
as_written : (w : Format) (x : Float) → kept_as w w x ≡ x
as_written binary32 x = refl
as_written binary64 x = refl

pub kept_one : (positive : Bool) (f w : Format) (x : Float) → kept positive (kept_as f w x) ≡ true → finite x ≡ true
unfolding kept narrowed
kept_one true binary32 binary32 x e = (and_holds (finite x) (lt zero₃₂ x) e).0
kept_one false binary32 binary32 x e = e
kept_one true binary32 binary64 nan e = absurd (false≢true e)
kept_one false binary32 binary64 nan e = absurd (false≢true e)
kept_one true binary32 binary64 (inf s) e = absurd (false≢true e)
kept_one false binary32 binary64 (inf s) e = absurd (false≢true e)
kept_one positive binary32 binary64 (fin s m k) e = refl
kept_one true binary64 w x e = (and_holds (finite x) (lt zero₃₂ x) e).0
kept_one false binary64 w x e = e

pub kept_finite : (positive : Bool) (f w : Format) (n : ℕ) (l : List ℕ) → all_of (kept positive) (numbers f w n l) ≡ true → all_of finite (numbers w w n l) ≡ true
kept_finite positive f w n l e =
    at_each finite nan (numbers w w n l)
    (λ k h.
    let i : k < n = omega (arith, h, numbers_length w w n l) in
    let there : k < length (numbers f w n l) = omega (arith, numbers_length f w n l) in
    ap finite (numbers_at w w n l k i ∙ as_written w _)
    ∙ kept_one positive f w _ (ap (kept positive) (sym (numbers_at f w n l k i)) ∙ each_at (kept positive) nan (numbers f w n l) k e there))

pub finite_at : (f : Format) (n : ℕ) (l : List ℕ) (i : ℕ) → i < n → all_of finite (numbers f f n l) ≡ true
    → finite (from_bits f (little_endian (take (byte_width f) (drop (i * byte_width f) l)))) ≡ true
finite_at f n l i h e =
    let there : i < length (numbers f f n l) = omega (arith, numbers_length f f n l) in
    ap finite (sym (numbers_at f f n l i h ∙ as_written f _)) ∙ each_at finite nan (numbers f f n l) i e there

-- a test that let the reader go on
pub went_on : (b : Bool) → 0 ≡ first_of ((not b, 6) ∷ []) → b ≡ true
unfolding first_of
went_on true e = refl
went_on false e = absurd (omega (arith, e))

-- the format, by its bytes
pub of_four : (f : Format) → byte_width f ≡ 4 → f ≡ binary32
of_four binary32 e = refl
of_four binary64 e = absurd (omega arith)

pub of_eight : (f : Format) → (byte_width f ≡ 4 → ⊥) → f ≡ binary64
of_eight binary32 e = absurd (e refl)
of_eight binary64 e = refl

-- equal lists, place by place
pub filled : (xs : List Float) (f w : Format) (n : ℕ) (l : List ℕ) → length xs ≡ n → ((k : ℕ) → k < n → at xs k ≡ at (numbers f w n l) k) → xs ≡ numbers f w n l
filled xs f w n l long same =
    same_lists xs (numbers f w n l) (long ∙ sym (numbers_length f w n l))
    (λ k d h. get_or_default xs k d nan h ∙ same k (omega (arith, long)) ∙ sym (get_or_default (numbers f w n l) k d nan (omega (arith, long, numbers_length f w n l))))

-- whether all are to keep: each is, or one is not
pub all_kept : (positive : Bool) (xs : List Float) → ((k : ℕ) → k < length xs → kept positive (at xs k) ≡ true) → all_of (kept positive) xs ≡ true
all_kept positive xs each = at_each (kept positive) nan xs each

pub one_not_kept : (positive : Bool) (xs : List Float) (k : ℕ) → k < length xs → kept positive (at xs k) ≡ false → all_of (kept positive) xs ≡ false
one_not_kept positive xs k h e = by-test (all_of (kept positive) xs) (λ t. absurd (false≢true (sym e ∙ each_at (kept positive) nan xs k t h))) (λ t. t)
