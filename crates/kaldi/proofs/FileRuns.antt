-- Laws of a run of items.
use mathlib.Core.Path.{◌≡◌, refl, sym, ap, ◌∙◌}
use mathlib.Core.Bool.{Bool, true, ◌&&◌, and_assoc, and-true}
use mathlib.Core.List.{List, [], ◌∷◌}
use Prim.Native.Nat.{ℕ, zero, suc, ◌+◌, ◌-◌, ◌≤◌, ◌<◌}
use native.Mathlib.Nat.{add-zero}
use native.Mathlib.Omega.{arith}
use lib.ListN.{length, drop, get_or}
use lib.Seq.{get_or-drop, drop-drop}
use Rattle.loops.specs.Lists.{all_of}
use Rattle.definition.specs.Reader.{Got, Parser, after, give, times, refused, read}
use Rattle.kaldi.specs.Inner.KaldiIoAnswers.{place_of}
use Rattle.kaldi.proofs.Chain.{not-read, same-value, same_place, same_refusal}
use Rattle.kaldi.specs.Inner.KaldiFilesAnswers.{items}
use Rattle.kaldi.specs.Inner.KaldiFiles.{tally}

-- ---- item by item

module _ {A : Type 0} (p : Parser A) (s : List ℕ) where
  times_none : (at : ℕ) → times 0 p s at ≡ read [] at
  unfolding times
  times_none at = refl

  times_stop : (at n e : ℕ) → p s at ≡ refused e → times (suc n) p s at ≡ refused e
  unfolding times
  times_stop at n e x = simp x

  times_more : (at n : ℕ) (x : A) (q : ℕ) → p s at ≡ read x q → times (suc n) p s at ≡ after (times n p s q) (λ xs. give (x ∷ xs)) s
  unfolding times
  times_more at n x q e = simp e

  -- a run of at least one: by the first and the rest
  module _ (at count : ℕ) (h : 1 ≤ count) where
    grown : count ≡ suc (count - 1)
    grown = omega arith

    pub first_refused : (e : ℕ) → p s at ≡ refused e → times count p s at ≡ refused e
    first_refused e x = ap (λ (k : ℕ). times k p s at) grown ∙ times_stop at (count - 1) e x

    module _ (x : A) (q : ℕ) (one : p s at ≡ read x q) where
      joined : {g : Got (List A)} → times (count - 1) p s q ≡ g → times count p s at ≡ after g (λ xs. give (x ∷ xs)) s
      joined y = ap (λ (k : ℕ). times k p s at) grown ∙ times_more at (count - 1) x q one ∙ ap (λ (g : Got (List A)). after g (λ xs. give (x ∷ xs)) s) y

      pub rest_refused : (e : ℕ) → times (count - 1) p s q ≡ refused e → times count p s at ≡ refused e
      rest_refused e y = joined y

      pub rest_read : (xs : List A) (z : ℕ) → times (count - 1) p s q ≡ read xs z → times count p s at ≡ read (x ∷ xs) z
      rest_read xs z y = joined y

-- ---- whether all its items pass a test

module _ {A : Type 0} (t : A → Bool) where
  pub tally_refused : (b : Bool) (g : Got (List A)) {n : ℕ} → tally b t g ≡ refused n → g ≡ refused n
  tally_refused b (refused m) e = ap (λ (k : ℕ). refused k) (same_refusal e)
  tally_refused b (read xs z) e = absurd (not-read (sym e))

  module _ {v : Bool} {z : ℕ} where
    pub tally_stands : (b : Bool) (g : Got (List A)) → tally b t g ≡ read v z → g ≡ read (items g) z
    unfolding items
    tally_stands b (refused n) e = absurd (not-read e)
    tally_stands b (read xs y) e = ap (λ (k : ℕ). read xs k) (same_place e)

    pub tally_value : (b : Bool) (g : Got (List A)) → tally b t g ≡ read v z → (b && all_of t (items g)) ≡ v
    unfolding items
    tally_value b (refused n) e = absurd (not-read e)
    tally_value b (read xs y) e = same-value e

  tally_more : (b : Bool) (s : List ℕ) (x : A) (g : Got (List A)) → tally b t (after g (λ xs. give (x ∷ xs)) s) ≡ tally (b && t x) t g
  unfolding all_of
  tally_more b s x (refused n) = refl
  tally_more b s x (read xs z) = ap (λ (v : Bool). read v z) (sym (and_assoc b (t x) (all_of t xs)))

  tally_none : (b : Bool) (z : ℕ) → tally b t (read [] z) ≡ read b z
  unfolding all_of
  tally_none b z = ap (λ (v : Bool). read v z) (and-true b)

  -- ---- as the loop over it goes

  pub tally_start : (p : Parser A) (s : List ℕ) (at count : ℕ) → tally true t (times count p s at) ≡ tally true t (times (count - 0) p s at)
  tally_start p s at count = let n : count ≡ count - 0 = omega arith in ap (λ (k : ℕ). tally true t (times k p s at)) n

  -- the first i are passed, and q is the place of the next
  module _ (p : Parser A) (s : List ℕ) (at count : ℕ) (b : Bool) (q i : ℕ) (so_far : tally true t (times count p s at) ≡ tally b t (times (count - i) p s q)) where
    turn : (k : ℕ) → count - i ≡ k → {g : Got (List A)} → times k p s q ≡ g → tally true t (times count p s at) ≡ tally b t g
    turn k e h = so_far ∙ ap (λ (k : ℕ). tally b t (times k p s q)) e ∙ ap (tally b t) h

    pub tally_stop : i < count → {e : ℕ} → p s q ≡ refused e → refused e ≡ tally true t (times count p s at)
    tally_stop h x = sym (turn (suc (count - (i + 1))) (omega arith) (times_stop p s q (count - (i + 1)) _ x))

    pub tally_turn : i < count → {x : A} {z : ℕ} → p s q ≡ read x z → {v : Bool} → v ≡ (b && t x) → tally true t (times count p s at) ≡ tally v t (times (count - (i + 1)) p s z)
    tally_turn h {x} {z} e {v} y =
        turn (suc (count - (i + 1))) (omega arith) (times_more p s q (count - (i + 1)) x z e)
        ∙ tally_more b s x (times (count - (i + 1)) p s z)
        ∙ ap (λ (v : Bool). tally v t (times (count - (i + 1)) p s z)) (sym y)

    pub tally_end : count ≤ i → read b q ≡ tally true t (times count p s at)
    tally_end h = sym (turn 0 (omega arith) (times_none p s q) ∙ tally_none b q)

-- ---- read again, item by item

module _ {A : Type 0} (p : Parser A) (s : List ℕ) (d : A) where
  parted : (g : Got A) (n : ℕ) (l : List A) {z : ℕ} → after g (λ x t q. after (times n p t q) (λ ys. give (x ∷ ys)) t) s ≡ read l z
      → (g ≡ read (get_or l 0 d) (place_of g)) × (times n p s (place_of g) ≡ read (drop 1 l) z) × (l ≡ get_or l 0 d ∷ drop 1 l)
  parted (refused r) n l e = absurd (not-read e)
  parted (read x q) n l {z} e = rest (times n p s q) e
    where
      rest : (g : Got (List A)) → after g (λ ys. give (x ∷ ys)) s ≡ read l z → (read x q ≡ read (get_or l 0 d) q) × (g ≡ read (drop 1 l) z) × (l ≡ get_or l 0 d ∷ drop 1 l)
      rest (refused r) e = absurd (not-read e)
      rest (read ys y) e =
          let h : x ∷ ys ≡ l = same-value e in (
            ap (λ (l : List A). read (get_or l 0 d) q) h,
            ap (λ (l : List A). read (drop 1 l) y) h ∙ ap (λ (y : ℕ). read (drop 1 l) y) (same_place e),
            sym h ∙ ap (λ (l : List A). get_or l 0 d ∷ drop 1 l) h,
          )

  pub times_length : (n at : ℕ) {xs : List A} {z : ℕ} → times n p s at ≡ read xs z → length xs ≡ n
  unfolding times
  times_length zero at e = sym (ap length (same-value e))
  times_length (suc n) at {xs} e = let h = parted (p s at) n xs e in ap length h.2 ∙ ap suc (times_length n (place_of (p s at)) h.1)

  -- item i stands at q, and the others after it
  module _ (n i q : ℕ) (xs : List A) {z : ℕ} (l : i < n) (there : times (n - i) p s q ≡ read (drop i xs) z) where
    both_parts : (p s q ≡ read (get_or (drop i xs) 0 d) (place_of (p s q))) × (times (n - (i + 1)) p s (place_of (p s q)) ≡ read (drop 1 (drop i xs)) z)
    unfolding times
    both_parts =
        let e : n - i ≡ suc (n - (i + 1)) = omega arith in
        let h = parted (p s q) (n - (i + 1)) (drop i xs) (sym (ap (λ (k : ℕ). times k p s q) e) ∙ there) in
        (h.0, h.1)

    pub item_there : p s q ≡ read (get_or xs i d) (place_of (p s q))
    item_there = both_parts.0 ∙ ap (λ (x : A). read x (place_of (p s q))) (get_or-drop i xs 0 d ∙ ap (λ (k : ℕ). get_or xs k d) (add-zero i))

    pub rest_there : times (n - (i + 1)) p s (place_of (p s q)) ≡ read (drop (i + 1) xs) z
    rest_there = both_parts.1 ∙ ap (λ (l : List A). read l z) (drop-drop 1 i xs)
