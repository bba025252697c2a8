-- Laws of the posteriors that two rooms hold.
use mathlib.Core.Path.{◌≡◌, refl, sym, ap, ◌∙◌}
use mathlib.Core.List.{List, [], ◌∷◌, ◌++◌, map, foldl, zip_with}
use Prim.Native.Nat.{ℕ, ◌+◌, ◌≤◌, ◌<◌}
use native.Mathlib.Numerals.{add-one}
use native.Mathlib.Omega.{arith}
use Rattle.std.proofs.lemmas.List.{get_or-set_same, get_or-set_other, length-set}
use lib.ListN.{length, get_or, set, take, drop, take-append-drop}
use lib.Seq.{get_or-take, take-take, length-take-le}
use lib.Ieee.{Float, nan}
use Rattle.loops.specs.Lists.{build}
use Rattle.loops.specs.Inner.{fill}
use Rattle.loops.proofs.Build.{map-build, build_ext, build_snoc}
use Rattle.loops.proofs.Fill.{fill_at, length_fill}
use Rattle.loops.proofs.Folds.{iter_foldl}
use Rattle.loops.proofs.Parts.{zip_at, zip_long, zip_build}
use Rattle.floats.specs.Operators.{◌+₃₂◌, ◌*₃₂◌, at, sum₃₂}
use Rattle.definition.specs.Posteriors.{Post}
use Rattle.gmm.specs.Inner.Leading.{post, posts_in}

pub held_none : (chosen : List ℕ) (posts : List Float) → posts_in 0 chosen posts ≡ []
unfolding posts_in
held_none chosen posts = refl

module _ (n : ℕ) (chosen : List ℕ) (posts : List Float) (h : n ≤ length chosen) (l : n ≤ length posts) where
  pub held_build : posts_in n chosen posts ≡ build n (λ k. (get_or chosen k 0, at posts k))
  unfolding posts_in
  held_build = zip_build post 0 nan chosen posts n h l

  pub length_held : length (posts_in n chosen posts) ≡ n
  unfolding posts_in
  length_held = length-take-le n (zip_with post chosen posts) (zip_long post chosen posts n h l)

  pub held_at : (d : Post) (k : ℕ) → k < n → get_or (posts_in n chosen posts) k d ≡ (get_or chosen k 0, at posts k)
  unfolding posts_in
  held_at d k s = get_or-take n (zip_with post chosen posts) k d s ∙ zip_at post 0 nan d chosen posts k (omega arith) (omega arith)

  -- the first m of them
  pub held_take : (m : ℕ) → m ≤ n → take m (posts_in n chosen posts) ≡ posts_in m chosen posts
  unfolding posts_in
  held_take m s = take-take m n (zip_with post chosen posts) s

  -- the first m of them, and the rest
  pub held_parts : (m : ℕ) → m ≤ n → posts_in n chosen posts ≡ posts_in m chosen posts ++ drop m (posts_in n chosen posts)
  held_parts m s = sym (take-append-drop m (posts_in n chosen posts)) ∙ ap (λ (r : List Post). r ++ drop m (posts_in n chosen posts)) (held_take m s)

  -- their total, as the code adds it
  pub held_total : (s : Float) → sum₃₂ s n (at posts) ≡ foldl (λ a p. a +₃₂ p.1) s (posts_in n chosen posts)
  held_total s = iter_foldl (λ a (p : Post). a +₃₂ p.1) (λ k. (get_or chosen k 0, at posts k)) n s ∙ ap (foldl (λ a (p : Post). a +₃₂ p.1) s) (sym held_build)

-- rooms that agree in the first n places
pub held_same : (n : ℕ) (chosen chosen₁ : List ℕ) (posts posts₁ : List Float) → n ≤ length chosen → n ≤ length posts → n ≤ length chosen₁ → n ≤ length posts₁
    → ((k : ℕ) → k < n → get_or chosen k 0 ≡ get_or chosen₁ k 0) → ((k : ℕ) → k < n → at posts k ≡ at posts₁ k) → posts_in n chosen posts ≡ posts_in n chosen₁ posts₁
held_same n chosen chosen₁ posts posts₁ h l h1 l1 e f =
    held_build n chosen posts h l ∙ build_ext n _ _ (λ k s. ap (λ (g : ℕ). (g, at posts k)) (e k s) ∙ ap (λ (x : Float). (get_or chosen₁ k 0, x)) (f k s))
    ∙ sym (held_build n chosen₁ posts₁ h1 l1)

module _ (n : ℕ) (chosen : List ℕ) (posts : List Float) (h : n < length chosen) (l : n < length posts) where
  -- one more
  pub held_next : posts_in (n + 1) chosen posts ≡ posts_in n chosen posts ++ ((get_or chosen n 0, at posts n) ∷ [])
  held_next =
      held_build (n + 1) chosen posts (omega arith) (omega arith) ∙ ap (λ (i : ℕ). build i (λ k. (get_or chosen k 0, at posts k))) (add-one n)
      ∙ build_snoc n (λ k. (get_or chosen k 0, at posts k)) ∙ ap (λ (r : List Post). r ++ ((get_or chosen n 0, at posts n) ∷ [])) (sym (held_build n chosen posts (omega arith) (omega arith)))

  -- written at place n, which is none of theirs, and one of one more
  pub held_before : (g : ℕ) (p : Float) → posts_in n (set chosen n g) (set posts n p) ≡ posts_in n chosen posts
  held_before g p =
      held_same n (set chosen n g) chosen (set posts n p) posts (omega (arith, length-set chosen n g)) (omega (arith, length-set posts n p)) (omega arith) (omega arith)
      (λ k s. get_or-set_other chosen n k g 0 (omega arith)) (λ k s. get_or-set_other posts n k p nan (omega arith))

  pub held_put : (g : ℕ) (p : Float) → posts_in (n + 1) (set chosen n g) (set posts n p) ≡ posts_in n chosen posts ++ ((g, p) ∷ [])
  held_put g p =
      held_build (n + 1) (set chosen n g) (set posts n p) (omega (arith, length-set chosen n g)) (omega (arith, length-set posts n p))
      ∙ ap (λ (i : ℕ). build i (λ k. (get_or (set chosen n g) k 0, at (set posts n p) k))) (add-one n) ∙ build_snoc n (λ k. (get_or (set chosen n g) k 0, at (set posts n p) k))
      ∙ ap (λ (r : List Post). r ++ ((get_or (set chosen n g) n 0, at (set posts n p) n) ∷ []))
      (sym (held_build n (set chosen n g) (set posts n p) (omega (arith, length-set chosen n g)) (omega (arith, length-set posts n p))) ∙ held_before g p)
      ∙ ap (λ (i : ℕ). posts_in n chosen posts ++ ((i, at (set posts n p) n) ∷ [])) (get_or-set_same chosen n g 0 h)
      ∙ ap (λ (x : Float). posts_in n chosen posts ++ ((g, x) ∷ [])) (get_or-set_same posts n p nan l)

-- each times v
pub posts_in-scaled : (v : Float) (n : ℕ) (chosen : List ℕ) (posts : List Float) {q : List Float} → n ≤ length chosen → n ≤ length posts → q ≡ fill n (λ k. at posts k *₃₂ v) posts
    → posts_in n chosen q ≡ map (λ p. (p.0, p.1 *₃₂ v)) (posts_in n chosen posts)
posts_in-scaled v n chosen posts {q} h l e =
    let f : ℕ → Float = λ k. at posts k *₃₂ v in
    let g : length q ≡ length posts = ap length e ∙ length_fill f n posts l in
    held_build n chosen q h (omega arith)
    ∙ build_ext n _ _ (λ k s. ap (λ (x : Float). (get_or chosen k 0, x)) (ap (λ (q : List Float). at q k) e ∙ fill_at nan f n posts k s))
    ∙ sym (ap (map (λ p. (p.0, p.1 *₃₂ v))) (held_build n chosen posts h l) ∙ map-build (λ (p : Post). (p.0, p.1 *₃₂ v)) n _)
