-- The bytes of sizes and numbers as code has them, numbers one by one, and the parts of a list that are written one after the other.
use mathlib.Core.Path.{◌≡◌, refl, sym, ap, ◌∙◌}
use mathlib.Core.Bool.{true}
use mathlib.Core.List.{List, [], ◌∷◌, ◌++◌, map, append_assoc, append-nil}
use Prim.Native.Nat.{ℕ, zero, suc, ◌+◌, ◌-◌, ◌*◌, ◌/◌, ◌%◌, ◌^◌, ◌≤◌, ◌<◌}
use native.Mathlib.Nat.{div-div-eq-div-mul, div-one, pow-zero, pow-suc, suc-mul, mul-le-mul_right}
use native.Mathlib.Numerals.{add-one}
use native.Mathlib.Omega.{arith}
use lib.ListN.{length, get_or, take, drop, length-map}
use lib.Seq.{length-take-le, take_all}
use lib.Ieee.{Float, nan, Format, binary32, binary64, to_bits}
use lib.Ieee.Scale.{finite}
use Rattle.std.specs.Int.{w64, byte_at, bytes_low_first, to_le_bytes}
use Rattle.floats.specs.Real.{by_width, byte_width}
use Rattle.loops.specs.Lists.{all_of}
use Rattle.loops.proofs.Parts.{lent_is}
use Rattle.loops.proofs.Tests.{each_at}
use Rattle.definition.specs.Kaldi.{vector_tag, matrix_tag, packed_tag}
use Rattle.writer.specs.declared.byte_writer.Writer.{Writer}
use Rattle.writer.specs.Wrote.{HasRoom, Wrote}
use Rattle.writer.proofs.Chain.{together, wrote_as}
use Rattle.writer.specs.Written.{low_bytes, numbers_bytes, ended, part}
use Rattle.writer.specs.Lent.{AllFinite}
use Rattle.writer.proofs.Encoding.{length-numbers}
use Rattle.writer.proofs.Shapes.{fit-part}
use Rattle.writer.proofs.Order.{at_map, length_map}

-- ---- a number's bytes

byte_is : (i n : ℕ) → byte_at i n ≡ n / 256 ^ i % 256
byte_is zero n = ap (λ (k : ℕ). k % 256) (sym (ap (λ (p : ℕ). n / p) (pow-zero 256) ∙ div-one n))
byte_is (suc i) n = refl

low_first : (k i n : ℕ) → bytes_low_first i k n ≡ low_bytes k (n / 256 ^ i)
unfolding low_bytes
low_first zero i n = refl
low_first (suc k) i n =
    let next : n / 256 ^ i / 256 ≡ n / 256 ^ suc i = div-div-eq-div-mul n (256 ^ i) 256 ∙ ap (λ (p : ℕ). n / p) (sym (pow-suc 256 i)) in
    ap (λ (b : ℕ). b ∷ bytes_low_first (suc i) k n) (byte_is i n) ∙ ap (λ (l : List ℕ). n / 256 ^ i % 256 ∷ l) (low_first k (suc i) n ∙ ap (low_bytes k) (sym next))

take_low : (k m n : ℕ) → k ≤ m → take k (low_bytes m n) ≡ low_bytes k n
unfolding low_bytes
take_low zero m n h = refl
take_low (suc k) zero n h = absurd (omega arith)
take_low (suc k) (suc m) n h = ap (λ (l : List ℕ). n % 256 ∷ l) (take_low k m (n / 256) (omega arith))

-- the first k of the eight that std gives
pub front : (k n : ℕ) → k ≤ 8 → take k (to_le_bytes w64 n) ≡ low_bytes k n
front k n h = ap (take k) (low_first 8 0 n ∙ ap (low_bytes 8) (ap (λ (p : ℕ). n / p) (pow-zero 256) ∙ div-one n)) ∙ take_low k 8 n h

pub numbers_one : (f : Format) (x : Float) → numbers_bytes f (x ∷ []) ≡ low_bytes (byte_width f) (to_bits f x)
unfolding numbers_bytes
numbers_one f x = append-nil _

-- ---- a tag, by the letter of the width

pub vector_head : (f : Format) (m : ℕ) → m ≡ by_width 70 68 f → ◌≡◌ {A = List ℕ} (m ∷ 86 ∷ 32 ∷ []) (ended (vector_tag f))
vector_head binary32 m e = ap (λ (k : ℕ). k ∷ 86 ∷ 32 ∷ []) e
vector_head binary64 m e = ap (λ (k : ℕ). k ∷ 86 ∷ 32 ∷ []) e

pub matrix_head : (f : Format) (m : ℕ) → m ≡ by_width 70 68 f → ◌≡◌ {A = List ℕ} (m ∷ 77 ∷ 32 ∷ []) (ended (matrix_tag f))
matrix_head binary32 m e = ap (λ (k : ℕ). k ∷ 77 ∷ 32 ∷ []) e
matrix_head binary64 m e = ap (λ (k : ℕ). k ∷ 77 ∷ 32 ∷ []) e

pub packed_head : (f : Format) (m : ℕ) → m ≡ by_width 70 68 f → ◌≡◌ {A = List ℕ} (m ∷ 80 ∷ 32 ∷ []) (ended (packed_tag f))
packed_head binary32 m e = ap (λ (k : ℕ). k ∷ 80 ∷ 32 ∷ []) e
packed_head binary64 m e = ap (λ (k : ℕ). k ∷ 80 ∷ 32 ∷ []) e

-- ---- numbers of type A that stand for floats, one by one

numbers_append : (f : Format) (xs ys : List Float) → numbers_bytes f (xs ++ ys) ≡ numbers_bytes f xs ++ numbers_bytes f ys
unfolding numbers_bytes
numbers_append f [] ys = refl
numbers_append f (x ∷ xs) ys = ap (λ (l : List ℕ). low_bytes (byte_width f) (to_bits f x) ++ l) (numbers_append f xs ys) ∙ sym (append_assoc (low_bytes (byte_width f) (to_bits f x)) _ _)

module _ {A : Type 0} (h : A → Float) where
  map_take : (n : ℕ) (xs : List A) → map h (take n xs) ≡ take n (map h xs)
  map_take zero xs = refl
  map_take (suc n) [] = refl
  map_take (suc n) (x ∷ xs) = ap (λ (l : List Float). h x ∷ l) (map_take n xs)

  map_drop : (n : ℕ) (xs : List A) → map h (drop n xs) ≡ drop n (map h xs)
  map_drop zero xs = refl
  map_drop (suc n) [] = refl
  map_drop (suc n) (x ∷ xs) = map_drop n xs

  -- part i as code lends it
  pub lent_part : (n i : ℕ) (xs : List A) → map h (take (i * n + n - i * n) (drop (i * n) xs)) ≡ part n i (map h xs)
  lent_part n i xs = ap (map h) (lent_is (i * n) n (i * n + n) xs refl) ∙ map_take n (drop (i * n) xs) ∙ ap (take n) (map_drop (i * n) xs)

  -- where all of a list are finite, those of a part are, and so is an item
  pub part_finite : (n i : ℕ) (xs : List A) → AllFinite h xs → AllFinite h (take (i * n + n - i * n) (drop (i * n) xs))
  part_finite n i xs a = ap (all_of finite) (lent_part n i xs) ∙ fit-part finite n i (map h xs) a

  pub item_finite : (i : ℕ) (xs : List A) (x : A) → i < length xs → x ≡ get_or xs i x → AllFinite h xs → finite (h x) ≡ true
  item_finite i xs x l e a = ap finite (sym (at_map h xs i x l e)) ∙ each_at finite nan (map h xs) i a (omega (arith, length_map h xs))

  -- one number more
  map_next : (i : ℕ) (xs : List A) (x : A) → i < length xs → x ≡ get_or xs i x → map h (take (i + 1) xs) ≡ map h (take i xs) ++ (h x ∷ [])
  map_next i [] x l e = absurd (omega arith)
  map_next zero (y ∷ ys) x l e = ap (λ (z : A). h z ∷ []) (sym e)
  map_next (suc i) (y ∷ ys) x l e =
      ap (λ (k : ℕ). map h (take k (y ∷ ys))) (add-one (suc i)) ∙ ap (λ (l : List Float). h y ∷ l) (ap (λ (k : ℕ). map h (take k ys)) (sym (add-one i)) ∙ map_next i ys x (omega arith) e)

  module _ (f : Format) (xs : List A) where
    -- the first i numbers
    abbrev pub Numbered : ℕ → Writer → Writer → Type 0
    Numbered i u v = Wrote (numbers_bytes f (map h (take i xs))) u v

    long : (ys : List A) → length (numbers_bytes f (map h ys)) ≡ length ys * byte_width f
    long ys = length-numbers f (map h ys) ∙ ap (λ (k : ℕ). k * byte_width f) (length-map ys h)

    pub number_room : {u v : Writer} (i : ℕ) (x : A) → HasRoom (numbers_bytes f (map h xs)) u → Numbered i u v → i < length xs → HasRoom (numbers_bytes f (h x ∷ [])) v
    number_room i x r w l =
        record {
          fits = omega (arith, r.fits, w.next_is, w.long, long xs, long (take i xs), ap (λ (k : ℕ). k * byte_width f) (length-take-le i xs (omega arith)), long (x ∷ []), suc-mul i (byte_width f), mul-le-mul_right (byte_width f) l);
        }

    pub number_turn : {u v w : Writer} (i : ℕ) (x : A) → i < length xs → x ≡ get_or xs i x → Numbered i u v → Wrote (numbers_bytes f (h x ∷ [])) v w → Numbered (i + 1) u w
    number_turn i x l e a b = wrote_as (sym (ap (numbers_bytes f) (map_next i xs x l e) ∙ numbers_append f (map h (take i xs)) (h x ∷ []))) (together a b)

    pub number_end : {u v : Writer} (i : ℕ) → length xs ≤ i → Numbered i u v → Wrote (numbers_bytes f (map h xs)) u v
    number_end i l w = wrote_as (ap (λ (k : List A). numbers_bytes f (map h k)) (take_all i xs l)) w
