-- The lines of a text, blanks left off, and the first line with a key, as the loops over them go.
use Rattle.std.specs.Prelude.{if◌then◌else◌}
use mathlib.Core.Path.{◌≡◌, refl, sym, ap, ◌∙◌}
use mathlib.Core.Bool.{Bool, true, false, not}
use mathlib.Core.List.{List, [], ◌∷◌, ◌++◌}
use native.Mathlib.Nat.{le_refl}
use Prim.Native.Nat.{ℕ, zero, suc, ◌+◌, ◌-◌, ◌≤◌, ◌<◌}
use native.Mathlib.Decide.{dec_lt}
use native.Mathlib.Omega.{arith}
use borrow.Author.Tests.{le-leb, lt-leb}
use lib.Dec.{eqb}
use lib.ListN.{length, take, drop, get_or, length-drop}
use lib.Seq.{take-suc, take_all, take-length, drop-drop}
use Rattle.std.specs.List.{suffix_len}
use Rattle.std.proofs.lemmas.List.Sums.{suffix_len-take_yes, suffix_len-take_no}
use Rattle.loops.proofs.Choose.{by-test}
use Rattle.definition.specs.Reader.{run, same}
use Rattle.definition.specs.Text.{space}
use Rattle.kaldi.specs.Settings.{onto, lines, closed, trim_end, trim, value}
use Rattle.kaldi.specs.Inner.Settings.{lines_from}

-- ---- the first line, and those behind it

abbrev pub going : ℕ → Bool
going b = not (eqb b 10)

no_less : (n : ℕ) → n < 0 → ⊥
no_less n h = omega arith

lines-first : (l : List ℕ) → run going l < length l → lines l ≡ take (run going l) l ∷ lines (drop (suc (run going l)) l)
unfolding lines run
lines-first [] h = absurd (no_less 0 h)
lines-first (b ∷ l) h = go (lines-first l) (eqb b 10) h
  where
    go : (run going l < length l → lines l ≡ take (run going l) l ∷ lines (drop (suc (run going l)) l)) → (x : Bool) → (elim (not x) as (λ _. ℕ) [ true ↦ suc (run going l) | false ↦ 0 ]) < suc (length l)
        → (if x then [] ∷ lines l else onto b (lines l))
        ≡ take (elim (not x) as (λ _. ℕ) [ true ↦ suc (run going l) | false ↦ 0 ]) (b ∷ l) ∷ lines (drop (suc (elim (not x) as (λ _. ℕ) [ true ↦ suc (run going l) | false ↦ 0 ])) (b ∷ l))
    go r true h = refl
    go r false h = ap (onto b) (r (omega arith))

lines-last : (l : List ℕ) → length l ≤ run going l → lines l ≡ l ∷ []
unfolding lines run
lines-last [] h = refl
lines-last (b ∷ l) h = go (lines-last l) (eqb b 10) h
  where
    none : (n : ℕ) → suc n ≤ 0 → ⊥
    none n k = omega arith

    go : (length l ≤ run going l → lines l ≡ l ∷ []) → (x : Bool) → suc (length l) ≤ (elim (not x) as (λ _. ℕ) [ true ↦ suc (run going l) | false ↦ 0 ]) → (if x then [] ∷ lines l else onto b (lines l)) ≡ (b ∷ l) ∷ []
    go r true h = absurd (none (length l) h)
    go r false h = ap (onto b) (r (omega arith))

module _ (s : List ℕ) (at : ℕ) where
  pub from_in : at ≤ length s → lines_from s at ≡ lines (drop at s)
  unfolding lines_from
  from_in h = simp (le-leb at (length s) h)

  pub from_out : length s < at → lines_from s at ≡ []
  unfolding lines_from
  from_out h = simp (lt-leb at (length s) h)

-- the line at a place inside the text, and those behind its end
module _ (s : List ℕ) (at end : ℕ) (inside : at ≤ length s) (ends : end ≡ at + run going (drop at s)) where
  abbrev l : List ℕ
  l = drop at s

  n_is : end - at ≡ run going l
  n_is = omega arith

  next_split : Dec (run going l < length l) → lines l ≡ take (end - at) l ∷ lines_from s (end + 1)
  next_split (yes h) =
      let k : at + suc (run going l) ≡ end + 1 = omega arith in
      lines-first l h
      ∙ ap (λ (n : ℕ). take n l ∷ lines (drop (suc (run going l)) l)) (sym n_is)
      ∙ ap (λ (x : List ℕ). take (end - at) l ∷ lines x) (drop-drop (suc (run going l)) at s ∙ ap (λ (n : ℕ). drop n s) k)
      ∙ ap (λ (x : List (List ℕ)). take (end - at) l ∷ x) (sym (from_in s (end + 1) (omega (arith, length-drop at s))))
  next_split (no h) =
      let k : length l ≤ end - at = omega arith in
      lines-last l (omega arith)
      ∙ ap (λ (x : List ℕ). x ∷ []) (sym (take_all (end - at) l k))
      ∙ ap (λ (x : List (List ℕ)). take (end - at) l ∷ x) (sym (from_out s (end + 1) (omega (arith, length-drop at s))))

  pub next_line : lines_from s at ≡ take (end - at) (drop at s) ∷ lines_from s (end + 1)
  next_line = from_in s at inside ∙ next_split (dec_lt (run going l) (length l))

-- ---- blanks at the end

trim-blank : (x : List ℕ) (b : ℕ) → space b ≡ true → trim_end (x ++ (b ∷ [])) ≡ trim_end x
unfolding trim_end
trim-blank [] b e = rw e
trim-blank (a ∷ x) b e = ap (closed a) (trim-blank x b e)

trim_full : (x : List ℕ) (b : ℕ) → space b ≡ false → trim_end (x ++ (b ∷ [])) ≡ x ++ (b ∷ [])
unfolding trim_end
trim_full [] b e = rw e
trim_full (a ∷ x) b e = ap (closed a) (trim_full x b e) ∙ kept x
  where
    kept : (x : List ℕ) → closed a (x ++ (b ∷ [])) ≡ a ∷ (x ++ (b ∷ []))
    kept [] = refl
    kept (y ∷ x) = refl

trim-nothing : trim_end [] ≡ []
unfolding trim_end
trim-nothing = refl

-- the first n bytes: the blanks at their end are std's `suffix_len`
trim_front : (s : List ℕ) (n : ℕ) → n ≤ length s → trim_end (take n s) ≡ take (n - suffix_len space (take n s)) s
trim_front s zero h = trim-nothing
trim_front s (suc n) h = by-test (space (get_or s n 0)) (blank (trim_front s n (omega arith))) full
  where
    l : n < length s
    l = omega arith

    split : take (suc n) s ≡ take n s ++ (get_or s n 0 ∷ [])
    split = take-suc s n 0 l

    k : suc n - 1 ≡ n
    k = omega arith

    blank : trim_end (take n s) ≡ take (n - suffix_len space (take n s)) s → space (get_or s n 0) ≡ true → trim_end (take (suc n) s) ≡ take (suc n - suffix_len space (take (suc n) s)) s
    blank r e =
        let p : suffix_len space (take (suc n) s) ≡ 1 + suffix_len space (take (suc n - 1) s) = suffix_len-take_yes space s (suc n) 0 (omega arith) h (rw k e) in
        let q : suffix_len space (take (suc n) s) ≡ 1 + suffix_len space (take n s) = rw k at p in
        let z : n - suffix_len space (take n s) ≡ suc n - suffix_len space (take (suc n) s) = omega (arith, q) in
        ap trim_end split ∙ trim-blank (take n s) (get_or s n 0) e ∙ r ∙ ap (λ (m : ℕ). take m s) z

    full : space (get_or s n 0) ≡ false → trim_end (take (suc n) s) ≡ take (suc n - suffix_len space (take (suc n) s)) s
    full e =
        let q = suffix_len-take_no {X = ℕ} space s (suc n) 0 (omega arith) h (rw k e) in
        let z : suc n ≡ suc n - suffix_len space (take (suc n) s) = omega (arith, q) in
        ap trim_end split ∙ trim_full (take n s) (get_or s n 0) e ∙ sym split ∙ ap (λ (m : ℕ). take m s) z

pub end_trimmed : (s : List ℕ) → take (length s - suffix_len space s) s ≡ trim_end s
end_trimmed s = sym (ap trim_end (sym (take-length s)) ∙ trim_front s (length s) (le_refl (length s)) ∙ ap (λ (l : List ℕ). take (length s - suffix_len space l) s) (take-length s))

-- the rest of a list, as a part up to its end
pub rest_is : (s : List ℕ) (from : ℕ) → take (length s - from) (drop from s) ≡ drop from s
rest_is s from = take_all (length s - from) (drop from s) (omega (arith, length-drop from s))

pub trim_is : (s : List ℕ) {from : ℕ} → from ≡ run space s → trim_end (take (length s - from) (drop from s)) ≡ trim s
unfolding trim
trim_is s {from} e = ap trim_end (rest_is s from) ∙ ap (λ (n : ℕ). trim_end (drop n s)) e

-- ---- the first line with a key

module _ (key l : List ℕ) (ls : List (List ℕ)) where
  pub value_found : same (take (length key) (trim l)) key ≡ true → value key (l ∷ ls) ≡ trim (drop (length key) (trim l))
  unfolding value
  value_found e = rw e

  pub value_next : same (take (length key) (trim l)) key ≡ false → value key (l ∷ ls) ≡ value key ls
  unfolding value
  value_next e = rw e

pub value_none : (key : List ℕ) → value key [] ≡ []
unfolding value
value_none key = refl

-- the line at a place: it has the key, or the first one with it is behind it
module _ (s key : List ℕ) (at : ℕ) {n : ℕ} (inside : at ≤ length s) (ends : n ≡ run going (drop at s))
    {line : List ℕ} (is : line ≡ trim (take (at + n - at) (drop at s))) where
  next_here : lines_from s at ≡ take (at + n - at) (drop at s) ∷ lines_from s (at + n + 1)
  next_here = next_line s at (at + n) inside (omega (arith, ends))

  begins_here : {b : Bool} → same (take (length key) line) key ≡ b → same (take (length key) (trim (take (at + n - at) (drop at s)))) key ≡ b
  begins_here e = ap (λ (l : List ℕ). same (take (length key) l) key) (sym is) ∙ e

  pub found_here : same (take (length key) line) key ≡ true → {v : List ℕ} → v ≡ trim (drop (length key) line) → v ≡ value key (lines_from s at)
  found_here e h =
      h ∙ ap (λ (l : List ℕ). trim (drop (length key) l)) is ∙ sym (value_found key (take (at + n - at) (drop at s)) (lines_from s (at + n + 1)) (begins_here e)) ∙ sym (ap (value key) next_here)

  pub not_here : same (take (length key) line) key ≡ false → value key (lines_from s at) ≡ value key (lines_from s (at + n + 1))
  not_here e = ap (value key) next_here ∙ value_next key (take (at + n - at) (drop at s)) (lines_from s (at + n + 1)) (begins_here e)
