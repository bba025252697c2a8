-- The next word, as code finds it: std's run of blanks, and its run of other bytes behind them.
use Rattle.std.proofs.Common.{◌≡◌, ℕ, suc, ◌+◌, ◌<◌, ◌≤◌, Bool, true, false, not, cond, List, [], ◌∷◌, length, take, drop, sym, ap, refl, ◌∙◌, arith, drop-drop, length-drop, le-ltb, lt-ltb}
use Rattle.std.proofs.lemmas.List.{take_rest}
use Rattle.std.specs.List.{prefix_len}
use Rattle.definition.specs.Reader.{run, read, refused}
use Rattle.definition.specs.Kaldi.{blank, word}

one_more : (x : Bool) (n : ℕ) → cond x (1 + n) 0 ≡ elim x as (λ _. ℕ) [ true ↦ suc n | false ↦ 0 ]
one_more true n = omega arith
one_more false n = refl

-- the definition's run of bytes is std's
pub run-prefix : (t : ℕ → Bool) (l : List ℕ) → prefix_len t l ≡ run t l
unfolding run
run-prefix t [] = refl
run-prefix t (b ∷ l) = ap (λ (n : ℕ). cond (t b) (1 + n) 0) (run-prefix t l) ∙ one_more (t b) (run t l)

-- where what is left begins, and what of it is a word
abbrev rest : List ℕ → ℕ → List ℕ
rest s at = drop (prefix_len blank (drop at s)) (drop at s)

abbrev len : List ℕ → ℕ → ℕ
len s at = prefix_len (λ b. not (blank b)) (rest s at)

module _ (s : List ℕ) (at : ℕ) where
  start_is : prefix_len blank (drop at s) ≡ run blank (drop at s)
  start_is = run-prefix blank (drop at s)

  rest_is : rest s at ≡ drop (at + run blank (drop at s)) s
  rest_is = drop-drop (prefix_len blank (drop at s)) at s ∙ ap (λ (n : ℕ). drop (at + n) s) start_is

  len_is : len s at ≡ run (λ b. not (blank b)) (drop (at + run blank (drop at s)) s)
  len_is = run-prefix _ (rest s at) ∙ ap (run (λ b. not (blank b))) rest_is

  pub word_cut : length (rest s at) ≤ len s at → word s at ≡ refused 2
  unfolding word
  word_cut h =
      let l : length s ≤ at + run blank (drop at s) + run (λ b. not (blank b)) (drop (at + run blank (drop at s)) s) = omega (arith, h, len_is, ap length rest_is, length-drop (at + run blank (drop at s)) s) in
      simp (le-ltb _ _ l)

  pub word_found : len s at < length (rest s at) → word s at ≡ read (take (len s at) (rest s at)) (at + (prefix_len blank (drop at s) + len s at + 1))
  unfolding word
  word_found h =
      let l : at + run blank (drop at s) + run (λ b. not (blank b)) (drop (at + run blank (drop at s)) s) < length s = omega (arith, h, len_is, ap length rest_is, length-drop (at + run blank (drop at s)) s) in
      let e : at + (run blank (drop at s) + run (λ b. not (blank b)) (drop (at + run blank (drop at s)) s) + 1) ≡ at + run blank (drop at s) + run (λ b. not (blank b)) (drop (at + run blank (drop at s)) s) + 1 = omega arith in
      rw (len_is, rest_is, start_is, e) (simp (lt-ltb _ _ l))

  -- the same of a word that code cuts: `l` is what is left, `r` what is left behind the blanks
  pub word_read : (l r : List ℕ) (from n : ℕ) → l ≡ drop at s → from ≡ prefix_len blank l → r ≡ drop from l → n ≡ prefix_len (λ b. not (blank b)) r → n < length r
      → read (take n r) (at + from + n + 1) ≡ word s at
  word_read l r from n left blanks behind letters h =
      let f : from ≡ prefix_len blank (drop at s) = blanks ∙ ap (prefix_len blank) left in
      let k : r ≡ rest s at = behind ∙ ap (λ (m : List ℕ). drop from m) left ∙ ap (λ (m : ℕ). drop m (drop at s)) f in
      let m : n ≡ len s at = letters ∙ ap (prefix_len (λ b. not (blank b))) k in
      let there : len s at < length (rest s at) = omega (arith, h, m, ap length k) in
      let e : at + from + n + 1 ≡ at + (prefix_len blank (drop at s) + len s at + 1) = omega (arith, f, m) in
      rw (e, m, k) (sym (word_found there))

pub ruleset words = (word_cut, word_found, take_rest)
