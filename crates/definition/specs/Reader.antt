-- The vocabulary of a reader. A parser takes a list of bytes and a position, and answers the number of a refusal, or a value and the next
-- position. `do` runs one after the other and stops at the first refusal: so a refusal is the one at the first faulty place.
use Rattle.std.specs.Prelude.{ℕ, zero, suc, ◌+◌, ◌-◌, ◌*◌, Bool, true, false, ◌&&◌, List, [], ◌∷◌, length, take, drop, get_or, leb, ltb, eqb, Float, if◌then◌else◌}
use Prim.Native.Char.{code}
use Prim.Native.String.{String, len, char_at}
use Rattle.std.specs.Float.{Format}
use Rattle.std.specs.Float.Ieee.{of_bits, lt}
use Rattle.std.specs.Float.Ieee.Scale.{finite}
use Rattle.loops.specs.Lists.{all_of, pairwise}
use Rattle.floats.specs.Operators.{zero₃₂}
use Rattle.floats.specs.Real.{byte_width, kept_as}

pub data Got (A : Type 0) : Type 0 where
  refused : ℕ → Got A
  read : A → ℕ → Got A

abbrev pub Parser : Type 0 → Type 0
Parser A = List ℕ → ℕ → Got A

abbrev pub after : {A B : Type 0} → Got A → (A → Parser B) → List ℕ → Got B
after (refused n) k s = refused n
after (read a i) k s = k a s i

infixl 20 ◌>>=◌ ◌>>◌
abbrev pub ◌>>=◌ : {A B : Type 0} → Parser A → (A → Parser B) → Parser B
◌>>=◌ p k s i = after (p s i) k s

abbrev pub ◌>>◌ : {A B : Type 0} → Parser A → Parser B → Parser B
◌>>◌ p q s i = after (p s i) (λ _. q) s

-- a value, with nothing read
abbrev pub give : {A : Type 0} → A → Parser A
give a s i = read a i

-- refusal n unless the test passes
abbrev pub need : Bool → ℕ → Parser (Unit {0})
need true n s i = read tt i
need false n s i = refused n

-- n items, one after the other
unfoldable pub times : {A : Type 0} → ℕ → Parser A → Parser (List A)
times zero p s i = read [] i
times (suc n) p s i = after (p s i) (λ x t q. after (times n p t q) (λ xs. give (x ∷ xs)) t) s

-- the next n bytes; 2 where fewer are left
unfoldable pub bytes : ℕ → Parser (List ℕ)
bytes n s i = if leb n (length s - i) then read (take n (drop i s)) (i + n) else refused 2

-- how many bytes in front pass a test
unfoldable pub run : (ℕ → Bool) → List ℕ → ℕ
run t [] = 0
run t (b ∷ s) = elim (t b) [ true ↦ suc (run t s) | false ↦ 0 ]

-- whether there is a byte at a place, and it passes a test
unfoldable pub here : (ℕ → Bool) → List ℕ → ℕ → Bool
here t s i = ltb i (length s) && t (get_or s i 0)

-- a token's bytes: ASCII
abbrev pub letters : ℕ → ℕ → String → List ℕ
letters zero i t = []
letters (suc n) i t = code (char_at t i) ∷ letters n (suc i) t

abbrev pub text : String → List ℕ
text t = letters (len t) 0 t

abbrev pub same : List ℕ → List ℕ → Bool
same = pairwise eqb

-- a number from its bytes, the lowest first
unfoldable pub little_endian : List ℕ → ℕ
little_endian [] = 0
little_endian (b ∷ s) = b + 256 * little_endian s

-- the first n floats of a list of bytes, written at width w, as a table of width f keeps them
unfoldable pub numbers : Format → Format → ℕ → List ℕ → List Float
numbers f w zero b = []
numbers f w (suc n) b = kept_as f w (of_bits w (little_endian (take (byte_width w) b))) ∷ numbers f w n (drop (byte_width w) b)

-- what a kept number has to be: finite, and above 0 where `positive` says so
unfoldable pub kept : Bool → Float → Bool
kept false x = finite x
kept true x = finite x && lt zero₃₂ x

-- n kept floats, their whole extent (2) before their values (6), which are judged as they are kept
unfoldable pub floats : Format → Format → Bool → ℕ → Parser (List Float)
floats f w positive n = do
  b ← bytes (n * byte_width w)
  need (all_of (kept positive) (numbers f w n b)) 6
  give (numbers f w n b)
