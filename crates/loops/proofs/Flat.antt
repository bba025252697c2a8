-- Laws of lists one after the other, and of tables: rows of equal width.
use mathlib.Core.Path.{◌≡◌, refl, sym, ap, ◌∙◌}
use mathlib.Core.List.{List, [], ◌++◌, append-nil, append_assoc}
use Prim.Native.Nat.{ℕ, zero, suc, ◌+◌, ◌*◌, ◌≤◌, ◌<◌}
use native.Mathlib.Nat.{zero-mul, suc-mul, zero-add, suc-add}
use native.Mathlib.Numerals.{add-one}
use native.Mathlib.Omega.{arith}
use lib.ListN.{length, take, drop, length-append}
use Rattle.loops.specs.Lists.{build, flat, over}
use Rattle.loops.specs.Ring.{put}
use Rattle.loops.proofs.Loop.{at_end}
use Rattle.loops.proofs.Build.{length_build}
use Rattle.loops.proofs.Fill.{over_none, over_put, put_back}

module _ {A : Type 0} where
  pub flat_none : (f : ℕ → List A) → flat 0 f ≡ []
  unfolding flat
  flat_none f = refl

  pub flat_snoc : (n : ℕ) (f : ℕ → List A) → flat (suc n) f ≡ flat n f ++ f n
  unfolding flat
  flat_snoc zero f = append-nil (f 0)
  flat_snoc (suc n) f = ap (λ (s : List A). f 0 ++ s) (flat_snoc n (λ k. f (suc k))) ∙ sym (append_assoc (f 0) _ (f (suc n)))

  -- as code counts
  pub flat_more : (n : ℕ) (f : ℕ → List A) → flat (n + 1) f ≡ flat n f ++ f n
  flat_more n f = ap (λ (k : ℕ). flat k f) (add-one n) ∙ flat_snoc n f

  pub flat_ext : (n : ℕ) (f g : ℕ → List A) → ((k : ℕ) → k < n → f k ≡ g k) → flat n f ≡ flat n g
  unfolding flat
  flat_ext zero f g h = refl
  flat_ext (suc n) f g h = rw (h 0 (omega arith), flat_ext n (λ k. f (suc k)) (λ k. g (suc k)) (λ k l. h (suc k) (omega arith)))

  pub flat_add : (a n : ℕ) (f : ℕ → List A) → flat (a + n) f ≡ flat a f ++ flat n (λ k. f (a + k))
  unfolding flat
  flat_add zero n f = simp zero-add
  flat_add (suc a) n f = simp suc-add (ap (λ (s : List A). f 0 ++ s) (flat_add a n (λ k. f (suc k))) ∙ sym (append_assoc (f 0) _ _))

  -- ---- rows of width w

  pub length_flat : (w n : ℕ) (f : ℕ → List A) → ((k : ℕ) → k < n → length (f k) ≡ w) → length (flat n f) ≡ n * w
  unfolding flat
  length_flat w zero f h = sym (zero-mul w)
  length_flat w (suc n) f h =
      omega (arith, length-append (f 0) (flat n (λ k. f (suc k))), h 0 (omega arith), length_flat w n (λ k. f (suc k)) (λ k l. h (suc k) (omega arith)), suc-mul n w)

  -- rows of at most w
  pub flat_most : (w n : ℕ) (f : ℕ → List A) → ((k : ℕ) → k < n → length (f k) ≤ w) → length (flat n f) ≤ n * w
  unfolding flat
  flat_most w zero f h = omega (arith, zero-mul w)
  flat_most w (suc n) f h =
      omega (arith, length-append (f 0) (flat n (λ k. f (suc k))), h 0 (omega arith), flat_most w n (λ k. f (suc k)) (λ k l. h (suc k) (omega arith)), suc-mul n w)

  -- a table by two indices, h rows of width w
  pub length_cells : (h w : ℕ) (g : ℕ → ℕ → A) → length (flat h (λ a. build w (g a))) ≡ h * w
  length_cells h w g = length_flat w h _ (λ k l. length_build w (g k))

  -- ---- a room that is written row by row

  module _ (f : ℕ → List A) where
    pub rows_none : (room : List A) → room ≡ over (flat 0 f) room
    rows_none room = over_none room ∙ ap (λ (s : List A). over s room) (sym (flat_none f))

    pub rows_put : (i : ℕ) (room : List A) {a : ℕ} {s t : List A} → length (flat i f) ≡ a → s ≡ over (flat i f) room → t ≡ put a (f i) s → t ≡ over (flat (i + 1) f) room
    rows_put i room {a} p e q =
        q ∙ ap (put a (f i)) e ∙ over_put (flat i f) (f i) room a p ∙ ap (λ (l : List A). over l room) (sym (flat_more i f))

    -- row i as a part that is lent and comes back
    pub rows_turn : (i : ℕ) (room : List A) {a k : ℕ} {s new : List A} → length (flat i f) ≡ a → s ≡ over (flat i f) room → new ≡ f i → length new ≡ k
        → take a s ++ (new ++ drop k (drop a s)) ≡ over (flat (i + 1) f) room
    rows_turn i room {a} {k} {s} {new} p e q l = rows_put i room p e (put_back a k new s l ∙ ap (λ (x : List A). put a x s) q)

    pub rows_end : (i n : ℕ) (room : List A) {s : List A} → i ≤ n → n ≤ i → s ≡ over (flat i f) room → s ≡ over (flat n f) room
    rows_end i n room = at_end (λ k. over (flat k f) room) i n
