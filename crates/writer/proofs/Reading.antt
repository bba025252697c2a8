-- A parser judges what was written: wherever an item's bytes stand, the parser of the item gives it and goes past them, or refuses it by the number of the first
-- test that holds (`Judges`; `Reads` where none can). One law for each way to put parsers together, then one for each item and block, over the width that it is
-- written at and the width that it is kept at.
use mathlib.Core.Path.{◌≡◌, refl, sym, ap, ◌∙◌, subst}
use mathlib.Core.Bool.{Bool, true, false, not, ◌&&◌}
use mathlib.Core.List.{List, [], ◌∷◌, ◌++◌, map, append_assoc, append-nil, map-id}
use Prim.Native.Nat.{ℕ, zero, suc, ◌+◌, ◌-◌, ◌*◌, ◌≤◌, ◌<◌, ◌^◌}
use native.Mathlib.Nat.{add-zero, zero-mul}
use native.Mathlib.Omega.{arith}
use borrow.Author.Tests.{not-true, le-leb, lt-ltb}
use lib.ListN.{length, take, drop, length-append}
use lib.Seq.{take_at, drop_at}
use lib.Ieee.{Float, Format, binary32, binary64, of_bits, to_bits, fits}
use lib.Ieee.Scale.{finite}
use Rattle.loops.specs.Lists.{flat, build, all_of}
use Rattle.loops.specs.Refusal.{first_of, taken}
use Rattle.loops.proofs.Choose.{and_holds}
use Rattle.loops.proofs.Refusal.{Numbered, NoneFirst, none_first, first-none, first_past, first_then, first_already, taken_old}
use Rattle.loops.proofs.Tests.{each_of, same-pair}
use Rattle.definition.specs.Options.{within, max_feat}
use Rattle.floats.specs.Real.{byte_width, kept_as}
use Rattle.definition.specs.Reader.{Got, read, refused, Parser, after, ◌>>=◌, ◌>>◌, give, need, times, bytes, run, same, little_endian, numbers, kept, floats}
use Rattle.definition.specs.Kaldi.{binary, blank, word, token, dim, vector_tag, matrix_tag, packed_tag, width_by, block_width, vector, skipped, Matrix, matrix, triangle, Packed, packed_matrix, single}
use Rattle.writer.specs.Written.{low_bytes, numbers_bytes, size_bytes, mark, ended, vector_bytes, matrix_bytes, packed_bytes, outside}
use Rattle.writer.proofs.Encoding.{length-low, low_back, number_back, length-numbers, numbers_back}

-- refused by r; read as a where r is 0
pub record Judges {A : Type 0} (p : Parser A) (b : List ℕ) (r : ℕ) (a : A) : Type 0 where
  pub at : (front rest : List ℕ) → p (front ++ (b ++ rest)) (length front) ≡ taken r (read a (length front + length b)) (refused r)

abbrev pub Reads : {A : Type 0} → Parser A → List ℕ → A → Type 0
Reads p b a = Judges p b 0 a

-- ---- one parser after another

-- nothing is read
pub reads_none : {A : Type 0} {p : Parser A} {a : A} → ((s : List ℕ) (i : ℕ) → p s i ≡ read a i) → Reads p [] a
reads_none {a = a} h = record { at = λ front rest. h _ _ ∙ ap (read a) (sym (add-zero (length front))) }

pub reads_need : (t : Bool) (n : ℕ) → t ≡ true → Reads (need t n) [] tt
reads_need t n e = reads_none (λ s i. ap (λ (b : Bool). need b n s i) e)

pub reads_give : {A : Type 0} (a : A) → Reads (give a) [] a
reads_give a = reads_none (λ s i. refl)

pub reads_then : {A B : Type 0} {p : Parser A} (k : A → Parser B) {x y : List ℕ} {r : ℕ} {a : A} {b : B} → Reads p x a → Judges (k a) y r b → Judges (p >>= k) (x ++ y) r b
reads_then {p = p} k {x} {y} {r} {a} {b} g h = record { at = at }
  where
    at : (front rest : List ℕ) → (p >>= k) (front ++ ((x ++ y) ++ rest)) (length front) ≡ taken r (read b (length front + length (x ++ y))) (refused r)
    at front rest =
        let s : List ℕ = front ++ ((x ++ y) ++ rest) in
        let e : s ≡ front ++ (x ++ (y ++ rest)) = ap (λ (l : List ℕ). front ++ l) (append_assoc x y rest) in
        let o : s ≡ (front ++ x) ++ (y ++ rest) = e ∙ sym (append_assoc front x (y ++ rest)) in
        let first : p s (length front) ≡ read a (length front + length x) = ap (λ (l : List ℕ). p l (length front)) e ∙ g.at front (y ++ rest) in
        let far : length (front ++ x) + length y ≡ length front + length (x ++ y) = omega (arith, length-append front x, length-append x y) in
        ap (λ (r : Got _). after r k s) first
        ∙ ap (λ (l : List ℕ). k a l (length front + length x)) o
        ∙ ap (λ (n : ℕ). k a ((front ++ x) ++ (y ++ rest)) n) (sym (length-append front x))
        ∙ h.at (front ++ x) rest ∙ ap (λ (n : ℕ). taken r (read b n) (refused r)) far

-- a first one that refuses
stops : {A B : Type 0} {p : Parser A} (k : A → Parser B) {x : List ℕ} {a : A} (y : List ℕ) (b : B) (r : ℕ) → (r ≡ 0 → ⊥) → Judges p x r a → Judges (p >>= k) (x ++ y) r b
stops {p = p} k {x} {a} y b r n g = record { at = at }
  where
    at : (front rest : List ℕ) → (p >>= k) (front ++ ((x ++ y) ++ rest)) (length front) ≡ taken r (read b (length front + length (x ++ y))) (refused r)
    at front rest =
        let s : List ℕ = front ++ ((x ++ y) ++ rest) in
        let e : s ≡ front ++ (x ++ (y ++ rest)) = ap (λ (l : List ℕ). front ++ l) (append_assoc x y rest) in
        let first : p s (length front) ≡ refused r = ap (λ (l : List ℕ). p l (length front)) e ∙ g.at front (y ++ rest) ∙ taken_old r _ (refused r) n in
        ap (λ (r : Got _). after r k s) first ∙ sym (taken_old r _ (refused r) n)

-- the tests of the one, then those of the other, which may rest on the first ones' failing
pub judges_then : {A B : Type 0} {p : Parser A} (k : A → Parser B) {x y : List ℕ} {a : A} {b : B} (ts us : List (Bool × ℕ)) → Numbered ts
    → Judges p x (first_of ts) a → (NoneFirst ts → Judges (k a) y (first_of us) b) → Judges (p >>= k) (x ++ y) (first_of (ts ++ us)) b
judges_then {p = p} k {x} {y} {a} {b} ts us n g h = go (first_of ts) refl
  where
    go : (r : ℕ) → first_of ts ≡ r → Judges (p >>= k) (x ++ y) (first_of (ts ++ us)) b
    go zero e =
        subst (λ (r : ℕ). Judges (p >>= k) (x ++ y) r b) (sym (first_then ts us n e))
        (reads_then k (subst (λ (r : ℕ). Judges p x r a) e g) (h (none_first ts n e)))
    go (suc r) e =
        let some : first_of ts ≡ 0 → ⊥ = λ z. omega arith in
        subst (λ (r : ℕ). Judges (p >>= k) (x ++ y) r b) (sym (first_already ts us some)) (stops k y b (first_of ts) some g)

-- the last one reads nothing
pub reads_end : {A B : Type 0} {p : Parser A} (k : A → Parser B) {x : List ℕ} {r : ℕ} {a : A} {b : B} → Reads p x a → Judges (k a) [] r b → Judges (p >>= k) x r b
reads_end {p = p} k {x} {r} {b = b} g h = subst (λ (l : List ℕ). Judges (p >>= k) l r b) (append-nil x) (reads_then k g h)

pub judges_end : {A B : Type 0} {p : Parser A} (k : A → Parser B) {x : List ℕ} {a : A} {b : B} (ts us : List (Bool × ℕ)) → Numbered ts
    → Judges p x (first_of ts) a → (NoneFirst ts → Judges (k a) [] (first_of us) b) → Judges (p >>= k) x (first_of (ts ++ us)) b
judges_end {p = p} k {x} {b = b} ts us n g h = subst (λ (l : List ℕ). Judges (p >>= k) l (first_of (ts ++ us)) b) (append-nil x) (judges_then k ts us n g h)

pub reads_as : {A : Type 0} {p : Parser A} {x y : List ℕ} {r : ℕ} {a : A} → x ≡ y → Judges p x r a → Judges p y r a
reads_as {p = p} {r = r} {a} e g = subst (λ (l : List ℕ). Judges p l r a) e g

pub reads_value : {A : Type 0} {p : Parser A} {x : List ℕ} {r : ℕ} {a b : A} → a ≡ b → Judges p x r a → Judges p x r b
reads_value {p = p} {x} {r} e g = subst (λ v. Judges p x r v) e g

pub judges_as : {A : Type 0} {p : Parser A} {x : List ℕ} {r q : ℕ} {a : A} → r ≡ q → Judges p x r a → Judges p x q a
judges_as {p = p} {x} {a = a} e g = subst (λ (r : ℕ). Judges p x r a) e g

-- where no test can hold
pub judges_none : {A : Type 0} {p : Parser A} {x : List ℕ} {a : A} → Reads p x a → Judges p x (first_of []) a
unfolding first_of
judges_none g = g

pub judges_need : (t : Bool) (n : ℕ) → Judges (need t (suc n)) [] (first_of ((not t, suc n) ∷ [])) tt
unfolding first_of
judges_need true n = reads_none (λ s i. refl)
judges_need false n = record { at = λ front rest. refl }

-- where none of them holds
pub reads_when : {A : Type 0} {p : Parser A} {x : List ℕ} {a : A} (ts : List (Bool × ℕ)) → NoneFirst ts → Judges p x (first_of ts) a → Reads p x a
reads_when ts h g = judges_as (sym (first-none ts h)) g

-- a test that is known to fail
pub judges_past : {A : Type 0} {p : Parser A} {x : List ℕ} {a : A} (t : Bool × ℕ) (ts : List (Bool × ℕ)) → t.0 ≡ false → Judges p x (first_of (t ∷ ts)) a → Judges p x (first_of ts) a
judges_past t ts e g = judges_as (first_past t ts e) g

-- one item after another, each with a test of its own
pub judges_times : {A : Type 0} (n num : ℕ) (p : Parser A) (B : ℕ → List ℕ) (X : ℕ → A) (good : ℕ → Bool)
    → ((i : ℕ) → i < n → Judges p (B i) (first_of ((not (good i), suc num) ∷ [])) (X i))
    → Judges (times n p) (flat n B) (first_of ((not (all_of (λ (b : Bool). b) (build n good)), suc num) ∷ [])) (build n X)
unfolding times flat build all_of first_of
judges_times zero num p B X good h = reads_none (λ s i. refl)
judges_times (suc n) num p B X good h =
    judges_as (both (good 0) (all_of (λ (b : Bool). b) (build n (λ k. good (suc k)))))
    (judges_then (λ x. times n p >>= (λ xs. give (x ∷ xs))) ((not (good 0), suc num) ∷ []) ((not (all_of (λ (b : Bool). b) (build n (λ k. good (suc k)))), suc num) ∷ []) tt (h 0 (omega arith))
    (λ _. judges_end (λ xs. give (X 0 ∷ xs)) ((not (all_of (λ (b : Bool). b) (build n (λ k. good (suc k)))), suc num) ∷ []) [] tt
    (judges_times n num p (λ k. B (suc k)) (λ k. X (suc k)) (λ k. good (suc k)) (λ i l. h (suc i) (omega arith))) (λ _. reads_give _)))
  where
    both : (a b : Bool) → first_of ((not a, suc num) ∷ (not b, suc num) ∷ []) ≡ first_of ((not (a && b), suc num) ∷ [])
    both true b = refl
    both false b = refl

-- a first item that is refused
pub judges_first : {A : Type 0} (n r : ℕ) (p : Parser A) (B : ℕ → List ℕ) (x : A) (xs : List A) → 1 ≤ n → Judges p (B 0) (suc r) x → Judges (times n p) (flat n B) (suc r) xs
unfolding times flat
judges_first zero r p B x xs h g = absurd (omega arith)
judges_first (suc n) r p B x xs h g = stops (λ x. times n p >>= (λ xs. give (x ∷ xs))) (flat n (λ k. B (suc k))) xs (suc r) (λ z. omega arith) g

-- ---- items

pub reads_bytes : (n : ℕ) (x : List ℕ) → length x ≡ n → Reads (bytes n) x x
unfolding bytes
reads_bytes n x l = record { at = at }
  where
    at : (front rest : List ℕ) → bytes n (front ++ (x ++ rest)) (length front) ≡ read x (length front + length x)
    at front rest =
        let far : n ≤ length (front ++ (x ++ rest)) - length front = omega (arith, length-append front (x ++ rest), length-append x rest) in
        let part : take n (drop (length front) (front ++ (x ++ rest))) ≡ x = ap (take n) (drop_at front (x ++ rest) (length front) refl) ∙ take_at x rest n l in
        simp (le-leb n (length (front ++ (x ++ rest)) - length front) far, part, ← l)

run-stop : (t : ℕ → Bool) (x : List ℕ) (c : ℕ) (rest : List ℕ) → all_of t x ≡ true → t c ≡ false → run t (x ++ (c ∷ rest)) ≡ length x
unfolding run all_of
run-stop t [] c rest h e = rw e
run-stop t (b ∷ x) c rest h e = let k = and_holds (t b) (all_of t x) h in rw k.0 (ap suc (run-stop t x c rest k.1 e))

pub run_none : (t : ℕ → Bool) (b : ℕ) (rest : List ℕ) → t b ≡ false → run t (b ∷ rest) ≡ 0
unfolding run
run_none t b rest e = rw (e, run)

space-ends : not (blank 32) ≡ false
unfolding blank
space-ends = refl

-- a word: a byte that is no blank, and others
abbrev pub Solid : List ℕ → Type 0
Solid [] = ⊥
Solid (b ∷ t) = all_of (λ c. not (blank c)) (b ∷ t) ≡ true

pub reads_word : (t : List ℕ) → Solid t → Reads word (ended t) t
unfolding word
reads_word [] h = absurd h
reads_word (b ∷ t) h = record { at = at }
  where
    at : (front rest : List ℕ) → word (front ++ (ended (b ∷ t) ++ rest)) (length front) ≡ read (b ∷ t) (length front + length (ended (b ∷ t)))
    at front rest =
        let s : List ℕ = front ++ (ended (b ∷ t) ++ rest) in
        let i : ℕ = length front in
        let tail : drop i s ≡ (b ∷ t) ++ (32 ∷ rest) = drop_at front (ended (b ∷ t) ++ rest) i refl ∙ append_assoc (b ∷ t) (32 ∷ []) rest in
        let first : run blank (drop i s) ≡ 0 = ap (run blank) tail ∙ run_none blank b (t ++ (32 ∷ rest)) (not-true (blank b) (each_of (λ c. not (blank c)) (b ∷ t) h).0) in
        let from : i + run blank (drop i s) ≡ i = ap (λ (k : ℕ). i + k) first ∙ add-zero i in
        let many : run (λ c. not (blank c)) (drop i s) ≡ length (b ∷ t) = ap (run (λ c. not (blank c))) tail ∙ run-stop (λ c. not (blank c)) (b ∷ t) 32 rest h space-ends in
        let inside : i + length (b ∷ t) < length s = omega (arith, length-append front (ended (b ∷ t) ++ rest), length-append (ended (b ∷ t)) rest, length-append (b ∷ t) (32 ∷ [])) in
        let far : i + length (b ∷ t) + 1 ≡ i + length (ended (b ∷ t)) = omega (arith, length-append (b ∷ t) (32 ∷ [])) in
        let part : take (length (b ∷ t)) (drop i s) ≡ b ∷ t = ap (take (length (b ∷ t))) tail ∙ take_at (b ∷ t) (32 ∷ rest) (length (b ∷ t)) refl in
        simp (from, many, lt-ltb (i + length (b ∷ t)) (length s) inside, part, far)

pub reads_token : (t : List ℕ) → Solid t → Reads (token t) (ended t) tt
unfolding token
reads_token t h = reads_end (λ w. need (same w t) 3) (reads_word t h) (reads_need _ 3 (same-pair t t refl))

pub reads_mark : Reads binary mark tt
unfolding binary
reads_mark = reads_end (λ b. need (same b (0 ∷ 66 ∷ [])) 3) (reads_bytes 2 mark refl) (reads_need _ 3 refl)

pub judges_dim : (high n : ℕ) → n < 2 ^ 32 → Judges (dim 1 high) (size_bytes n) (first_of (outside high n ∷ [])) n
unfolding dim
judges_dim high n l =
    let back : little_endian (low_bytes 4 n) ≡ n = low_back 4 n l in
    reads_then (λ z. need (same z (4 ∷ [])) 3 >> (bytes 4 >>= (λ b. need (within 1 high (little_endian b)) 4 >> give (little_endian b)))) {x = 4 ∷ []} (reads_bytes 1 (4 ∷ []) refl)
    (reads_then (λ _. bytes 4 >>= (λ b. need (within 1 high (little_endian b)) 4 >> give (little_endian b))) {x = []} (reads_need true 3 refl)
    (reads_end (λ b. need (within 1 high (little_endian b)) 4 >> give (little_endian b)) (reads_bytes 4 (low_bytes 4 n) (length-low 4 n))
    (judges_as (ap (λ (k : ℕ). first_of (outside high k ∷ [])) back)
    (judges_then (λ _. give (little_endian (low_bytes 4 n))) {x = []} (outside high (little_endian (low_bytes 4 n)) ∷ []) [] tt (judges_need (within 1 high (little_endian (low_bytes 4 n))) 3)
    (λ _. judges_none (reads_value back (reads_give _)))))))

-- a length of 0, of what is skipped
pub reads_zero : Reads (dim 0 1_000_000) (size_bytes 0) 0
unfolding dim
reads_zero =
    reads_then (λ z. need (same z (4 ∷ [])) 3 >> (bytes 4 >>= (λ b. need (within 0 1_000_000 (little_endian b)) 4 >> give (little_endian b)))) {x = 4 ∷ []} (reads_bytes 1 (4 ∷ []) refl)
    (reads_then (λ _. bytes 4 >>= (λ b. need (within 0 1_000_000 (little_endian b)) 4 >> give (little_endian b))) {x = []} (reads_need true 3 refl)
    (reads_end (λ b. need (within 0 1_000_000 (little_endian b)) 4 >> give (little_endian b)) (reads_bytes 4 (low_bytes 4 0) (length-low 4 0))
    (reads_then (λ _. give (little_endian (low_bytes 4 0))) {x = []} (reads_need _ 4 (ap (within 0 1_000_000) (low_back 4 0 (omega arith)))) (reads_value (low_back 4 0 (omega arith)) (reads_give _)))))

-- ---- widths

-- each width's mark is told from the other's
pub record Told (marks : Format → List ℕ) : Type 0 where
  pub tell : (f : Format) (s : List ℕ) (i : ℕ) → width_by marks (marks f) s i ≡ read f i
  pub solid : (f : Format) → Solid (marks f)

vector-told : Told vector_tag
unfolding width_by all_of blank
vector-told = record { tell = tell; solid = solid }
  where
    tell : (f : Format) (s : List ℕ) (i : ℕ) → width_by vector_tag (vector_tag f) s i ≡ read f i
    tell binary32 s i = refl
    tell binary64 s i = refl

    solid : (f : Format) → Solid (vector_tag f)
    solid binary32 = refl
    solid binary64 = refl

pub matrix-told : Told matrix_tag
unfolding width_by all_of blank
matrix-told = record { tell = tell; solid = solid }
  where
    tell : (f : Format) (s : List ℕ) (i : ℕ) → width_by matrix_tag (matrix_tag f) s i ≡ read f i
    tell binary32 s i = refl
    tell binary64 s i = refl

    solid : (f : Format) → Solid (matrix_tag f)
    solid binary32 = refl
    solid binary64 = refl

packed-told : Told packed_tag
unfolding width_by all_of blank
packed-told = record { tell = tell; solid = solid }
  where
    tell : (f : Format) (s : List ℕ) (i : ℕ) → width_by packed_tag (packed_tag f) s i ≡ read f i
    tell binary32 s i = refl
    tell binary64 s i = refl

    solid : (f : Format) → Solid (packed_tag f)
    solid binary32 = refl
    solid binary64 = refl

pub reads_width : (tags : Format → List ℕ) → Told tags → (f : Format) → Reads (block_width tags) (ended (tags f)) f
unfolding block_width
reads_width tags h f = reads_end (width_by tags) (reads_word (tags f) (h.solid f)) (reads_none (h.tell f))

-- ---- numbers

module _ (t f : Format) (positive : Bool) where
  all_map : (xs : List Float) → all_of (kept positive) (map (kept_as t f) xs) ≡ all_of (λ x. kept positive (kept_as t f x)) xs
  unfolding all_of
  all_map [] = refl
  all_map (x ∷ xs) = ap (λ (b : Bool). kept positive (kept_as t f x) && b) (all_map xs)

  -- the test of numbers: whether some are not to be kept
  abbrev pub spoilt : List Float → Bool × ℕ
  spoilt xs = (not (all_of (λ x. kept positive (kept_as t f x)) xs), 6)

  -- n numbers of the width
  pub record Wide (n : ℕ) (xs : List Float) : Type 0 where
    pub long : length xs ≡ n
    pub fit : all_of (fits f) xs ≡ true

  judges_floats : (n : ℕ) (xs : List Float) → Wide n xs → Judges (floats t f positive n) (numbers_bytes f xs) (first_of (spoilt xs ∷ [])) (map (kept_as t f) xs)
  unfolding floats
  judges_floats n xs h =
      let b : List ℕ = numbers_bytes f xs in
      let are : numbers t f n b ≡ map (kept_as t f) xs =
      ap (λ (k : ℕ). numbers t f k b) (sym h.long) ∙ ap (numbers t f (length xs)) (sym (append-nil b)) ∙ numbers_back t f xs [] h.fit in
      reads_end (λ b. need (all_of (kept positive) (numbers t f n b)) 6 >> give (numbers t f n b)) (reads_bytes (n * byte_width f) b (length-numbers f xs ∙ ap (λ (k : ℕ). k * byte_width f) h.long))
      (judges_as (ap (λ (b : Bool). first_of ((not b, 6) ∷ [])) (ap (all_of (kept positive)) are ∙ all_map xs))
      (judges_then (λ _. give (numbers t f n b)) {x = []} ((not (all_of (kept positive) (numbers t f n b)), 6) ∷ []) [] tt (judges_need (all_of (kept positive) (numbers t f n b)) 5)
      (λ _. judges_none (reads_value are (reads_give _)))))

  -- ---- blocks

  pub judges_vector : (most n : ℕ) (xs : List Float) → n < 2 ^ 32 → Wide n xs → Judges (vector t positive most) (vector_bytes f n xs) (first_of (outside most n ∷ spoilt xs ∷ [])) (map (kept_as t f) xs)
  unfolding vector
  judges_vector most n xs l h =
      reads_then (λ w. dim 1 most >>= (λ n. floats t w positive n)) (reads_width vector_tag vector-told f)
      (judges_then (λ n. floats t f positive n) (outside most n ∷ []) (spoilt xs ∷ []) tt (judges_dim most n l) (λ _. judges_floats n xs h))

  pub judges_matrix : (mr mc r c : ℕ) (xs : List Float) → r < 2 ^ 32 → c < 2 ^ 32 → Wide (r * c) xs
      → Judges (matrix t positive mr mc) (matrix_bytes f r c xs) (first_of (outside mr r ∷ outside mc c ∷ spoilt xs ∷ [])) (record { rows = r; cols = c; nums = map (kept_as t f) xs })
  unfolding matrix
  judges_matrix mr mc r c xs l k h =
      reads_then (λ w. dim 1 mr >>= (λ r. dim 1 mc >>= (λ c. floats t w positive (r * c) >>= (λ xs. give (record { rows = r; cols = c; nums = xs }))))) (reads_width matrix_tag matrix-told f)
      (judges_then (λ r. dim 1 mc >>= (λ c. floats t f positive (r * c) >>= (λ xs. give {A = Matrix} (record { rows = r; cols = c; nums = xs })))) (outside mr r ∷ []) (outside mc c ∷ spoilt xs ∷ []) tt (judges_dim mr r l)
      (λ _. judges_then (λ c. floats t f positive (r * c) >>= (λ xs. give {A = Matrix} (record { rows = r; cols = c; nums = xs }))) (outside mc c ∷ []) (spoilt xs ∷ []) tt (judges_dim mc c k)
      (λ _. judges_end (λ xs. give {A = Matrix} (record { rows = r; cols = c; nums = xs })) (spoilt xs ∷ []) [] tt (judges_floats (r * c) xs h) (λ _. judges_none (reads_give _)))))

module _ (f : Format) where
  pub judges_packed : (n : ℕ) (xs : List Float) → n < 2 ^ 32 → Wide binary64 f false (triangle n) xs
      → Judges packed_matrix (packed_bytes f n xs) (first_of (outside max_feat n ∷ spoilt binary64 f false xs ∷ [])) (record { rows = n; nums = xs })
  unfolding packed_matrix
  judges_packed n xs l h =
      reads_then (λ w. dim 1 max_feat >>= (λ n. floats binary64 w false (triangle n) >>= (λ xs. give {A = Packed} (record { rows = n; nums = xs })))) (reads_width packed_tag packed-told f)
      (judges_then (λ n. floats binary64 f false (triangle n) >>= (λ xs. give {A = Packed} (record { rows = n; nums = xs }))) (outside max_feat n ∷ []) (spoilt binary64 f false xs ∷ []) tt (judges_dim max_feat n l)
      (λ _. judges_end (λ xs. give {A = Packed} (record { rows = n; nums = xs })) (spoilt binary64 f false xs ∷ []) [] tt (reads_value (map-id xs) (judges_floats binary64 f false (triangle n) xs h)) (λ _. judges_none (reads_give _))))

  -- an empty vector, skipped
  pub reads_skipped : Reads skipped (vector_bytes f 0 []) tt
  unfolding skipped numbers_bytes
  reads_skipped =
      reads_then (λ w. dim 0 1_000_000 >>= (λ n. bytes (n * byte_width w) >> give tt)) (reads_width vector_tag vector-told f)
      (reads_then (λ n. bytes (n * byte_width f) >> give tt) reads_zero
      (reads_end (λ _. give tt) (reads_bytes (0 * byte_width f) [] (sym (zero-mul (byte_width f)))) (reads_give tt)))

  size_told : (s : List ℕ) (i : ℕ) → width_by (λ f. byte_width f ∷ []) (byte_width f ∷ []) s i ≡ read f i
  unfolding width_by
  size_told = go f
    where
      go : (f : Format) (s : List ℕ) (i : ℕ) → width_by (λ f. byte_width f ∷ []) (byte_width f ∷ []) s i ≡ read f i
      go binary32 s i = refl
      go binary64 s i = refl

  -- a number by itself
  pub judges_single : (x : Float) → fits f x ≡ true → Judges single (byte_width f ∷ numbers_bytes f (x ∷ [])) (first_of ((not (finite x), 6) ∷ [])) x
  unfolding single numbers_bytes
  judges_single x l =
      let b : List ℕ = low_bytes (byte_width f) (to_bits f x) in
      let back : of_bits f (little_endian b) ≡ x = number_back f x l in
      reads_then (λ z. width_by (λ f. byte_width f ∷ []) z >>= (λ w. bytes (byte_width w) >>= (λ b. need (finite (of_bits w (little_endian b))) 6 >> give (of_bits w (little_endian b)))))
      {x = byte_width f ∷ []} (reads_bytes 1 (byte_width f ∷ []) refl)
      (reads_then (λ w. bytes (byte_width w) >>= (λ b. need (finite (of_bits w (little_endian b))) 6 >> give (of_bits w (little_endian b)))) {x = []} (reads_none size_told)
      (reads_as (sym (append-nil b)) (reads_end (λ b. need (finite (of_bits f (little_endian b))) 6 >> give (of_bits f (little_endian b))) (reads_bytes (byte_width f) b (length-low (byte_width f) (to_bits f x)))
      (judges_as (ap (λ (y : Float). first_of ((not (finite y), 6) ∷ [])) back)
      (judges_then (λ _. give (of_bits f (little_endian b))) {x = []} ((not (finite (of_bits f (little_endian b))), 6) ∷ []) [] tt (judges_need (finite (of_bits f (little_endian b))) 5)
      (λ _. judges_none (reads_value back (reads_give _))))))))
