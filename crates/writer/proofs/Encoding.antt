-- Laws of the bytes of numbers and sizes: how long they are, what is read from them, and that they come apart again. Each is one law over the width.
use mathlib.Core.Path.{◌≡◌, refl, sym, ap, ◌∙◌, subst}
use mathlib.Core.Bool.{Bool, true, false, false≢true}
use mathlib.Core.List.{List, [], ◌∷◌, ◌++◌, map, append_assoc, map-id}
use Prim.Native.Nat.{ℕ, zero, suc, ◌+◌, ◌*◌, ◌/◌, ◌%◌, ◌^◌, ◌<◌}
use native.Mathlib.Nat.{mod-add-div, div-lt_iff_lt-mul, pow-suc, suc-mul, zero-mul}
use native.Mathlib.Omega.{arith}
use lib.Dec.{T}
use lib.ListN.{length, take, drop, length-append}
use lib.Seq.{take_at, drop_at}
use lib.Ieee.{Float, Format, binary32, binary64, of_bits, to_bits, fits}
use lib.Ieee.Bits.{of_bits-to_bits, to_bits-lt}
use Rattle.loops.specs.Lists.{all_of}
use Rattle.loops.proofs.Choose.{and_holds}
use Rattle.floats.specs.Real.{byte_width, kept_as}
use Rattle.definition.specs.Reader.{little_endian, numbers}
use Rattle.writer.specs.Written.{low_bytes, numbers_bytes, size_bytes}

-- ---- lists that come apart

module _ {A : Type 0} where
  pub apart : (a b s t : List A) → length a ≡ length b → a ++ s ≡ b ++ t → (a ≡ b) × (s ≡ t)
  apart a b s t l e = (
    sym (take_at a s (length a) refl) ∙ ap (take (length a)) e ∙ take_at b t (length a) (sym l),
    sym (drop_at a s (length a) refl) ∙ ap (drop (length a)) e ∙ drop_at b t (length a) (sym l),
  )

  -- the same start
  pub past : (a s t : List A) → a ++ s ≡ a ++ t → s ≡ t
  past a s t e = (apart a a s t refl e).1

-- ---- bytes from low to high

pub length-low : (n x : ℕ) → length (low_bytes n x) ≡ n
unfolding low_bytes
length-low zero x = refl
length-low (suc n) x = ap suc (length-low n (x / 256))

pub low_back : (n x : ℕ) → x < 256 ^ n → little_endian (low_bytes n x) ≡ x
unfolding low_bytes little_endian
low_back zero x h = omega arith
low_back (suc n) x h =
    let l : x / 256 < 256 ^ n = (div-lt_iff_lt-mul {k = 256} {x = x} {y = 256 ^ n} (omega arith)).1 (subst (λ (k : ℕ). x < k) (pow-suc 256 n) h) in
    ap (λ (k : ℕ). x % 256 + 256 * k) (low_back n (x / 256) l) ∙ mod-add-div x 256

-- ---- floats

holds : (b : Bool) → b ≡ true → T b
holds true e = tt
holds false e = absurd (false≢true e)

bits_below : (f : Format) (x : Float) → fits f x ≡ true → to_bits f x < 256 ^ byte_width f
bits_below binary32 x h = to_bits-lt binary32 x (holds _ h)
bits_below binary64 x h = to_bits-lt binary64 x (holds _ h)

pub number_back : (f : Format) (x : Float) → fits f x ≡ true → of_bits f (little_endian (low_bytes (byte_width f) (to_bits f x))) ≡ x
number_back f x h = ap (of_bits f) (low_back (byte_width f) (to_bits f x) (bits_below f x h)) ∙ of_bits-to_bits f x (holds _ h)

pub length-numbers : (f : Format) (xs : List Float) → length (numbers_bytes f xs) ≡ length xs * byte_width f
unfolding numbers_bytes
length-numbers f [] = sym (zero-mul (byte_width f))
length-numbers f (x ∷ xs) =
    omega (arith, length-append (low_bytes (byte_width f) (to_bits f x)) (numbers_bytes f xs), length-low (byte_width f) (to_bits f x), length-numbers f xs, suc-mul (length xs) (byte_width f))

-- what is read from the bytes of a list, as a table of width t keeps it
pub numbers_back : (t f : Format) (xs : List Float) (rest : List ℕ) → all_of (fits f) xs ≡ true
    → numbers t f (length xs) (numbers_bytes f xs ++ rest) ≡ map (kept_as t f) xs
unfolding numbers numbers_bytes all_of
numbers_back t f [] rest h = refl
numbers_back t f (x ∷ xs) rest h =
    let first : List ℕ = low_bytes (byte_width f) (to_bits f x) in
    let l : length first ≡ byte_width f = length-low (byte_width f) (to_bits f x) in
    let k = and_holds (fits f x) (all_of (fits f) xs) h in
    ap (λ (b : List ℕ). kept_as t f (of_bits f (little_endian (take (byte_width f) b))) ∷ numbers t f (length xs) (drop (byte_width f) b)) (append_assoc first (numbers_bytes f xs) rest)
    ∙ ap (λ (b : List ℕ). kept_as t f (of_bits f (little_endian b)) ∷ numbers t f (length xs) (drop (byte_width f) (first ++ (numbers_bytes f xs ++ rest)))) (take_at first _ (byte_width f) l)
    ∙ ap (λ (y : Float). kept_as t f y ∷ numbers t f (length xs) (drop (byte_width f) (first ++ (numbers_bytes f xs ++ rest)))) (number_back f x k.0)
    ∙ ap (λ (b : List ℕ). kept_as t f x ∷ numbers t f (length xs) b) (drop_at first _ (byte_width f) l)
    ∙ ap (λ (ys : List Float). kept_as t f x ∷ ys) (numbers_back t f xs rest k.1)

own_width : (f : Format) (xs : List Float) → map (kept_as f f) xs ≡ xs
own_width binary32 xs = map-id xs
own_width binary64 xs = map-id xs

-- ---- bytes that come apart: as many numbers, and a size below 2 ^ 32

pub numbers_apart : (f : Format) (xs ys : List Float) (s t : List ℕ) → length xs ≡ length ys → all_of (fits f) xs ≡ true → all_of (fits f) ys ≡ true
    → numbers_bytes f xs ++ s ≡ numbers_bytes f ys ++ t → (xs ≡ ys) × (s ≡ t)
numbers_apart f xs ys s t l p q e =
    let n : length (numbers_bytes f xs) ≡ length (numbers_bytes f ys) = length-numbers f xs ∙ ap (λ (k : ℕ). k * byte_width f) l ∙ sym (length-numbers f ys) in (
      sym (own_width f xs) ∙ sym (numbers_back f f xs s p) ∙ ap (numbers f f (length xs)) e ∙ ap (λ (k : ℕ). numbers f f k (numbers_bytes f ys ++ t)) l
          ∙ numbers_back f f ys t q ∙ own_width f ys,
      (apart (numbers_bytes f xs) (numbers_bytes f ys) s t n e).1,
    )

pub size-apart : (n m : ℕ) (s t : List ℕ) → n < 2 ^ 32 → m < 2 ^ 32 → size_bytes n ++ s ≡ size_bytes m ++ t → (n ≡ m) × (s ≡ t)
size-apart n m s t p q e =
    let h = apart (size_bytes n) (size_bytes m) s t (ap suc (length-low 4 n ∙ sym (length-low 4 m))) e in
    (sym (low_back 4 n p) ∙ ap (λ (l : List ℕ). little_endian (drop 1 l)) h.0 ∙ low_back 4 m q, h.1)
