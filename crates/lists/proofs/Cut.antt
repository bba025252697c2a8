-- Parts of slices as code has them, from one index to another and cut at the end; the numbers of an answer written one by one; a lent part of the
-- outputs that is back with a vector at its front.
use mathlib.Core.Path.{◌≡◌, refl, sym, ap, ap₂, ◌∙◌}
use mathlib.Core.List.{List, [], ◌∷◌, ◌++◌, append_assoc}
use Prim.Native.Nat.{ℕ, ◌+◌, ◌-◌, ◌≤◌, min}
use native.Mathlib.Nat.{add-zero}
use native.Mathlib.Omega.{arith}
use native.Mathlib.Decide.{dec_le}
use lib.ListN.{length, take, drop, length-append, length-drop, drop_of_length-le, take-append-drop}
use lib.Seq.{take_all, drop-drop, drop-append-le}
use Rattle.loops.specs.Lists.{over}
use Rattle.loops.specs.Ring.{put}
use Rattle.lists.specs.Listed.{part}

-- ---- from a to b, cut at the end

-- the length of the part
pub cut_length : (a b n from : ℕ) {count : ℕ} → from ≡ min a n → count ≡ min (b - a) (n - from) → count ≡ min (b - a) (n - a)
cut_length a b n from f e = omega arith

module _ {A : Type 0} where
  take_cut : (k : ℕ) (l : List A) → take (min k (length l)) l ≡ take k l
  take_cut k l = go (dec_le k (length l))
    where
      go : Dec (k ≤ length l) → take (min k (length l)) l ≡ take k l
      go (yes h) = let e : min k (length l) ≡ k = omega arith in ap (λ (j : ℕ). take j l) e
      go (no h) = take_all (min k (length l)) l (omega arith) ∙ sym (take_all k l (omega arith))

  drop_cut : (k : ℕ) (l : List A) → drop (min k (length l)) l ≡ drop k l
  drop_cut k l = go (dec_le k (length l))
    where
      go : Dec (k ≤ length l) → drop (min k (length l)) l ≡ drop k l
      go (yes h) = let e : min k (length l) ≡ k = omega arith in ap (λ (j : ℕ). drop j l) e
      go (no h) = drop_of_length-le l (omega arith) ∙ sym (drop_of_length-le l (omega arith))

  module _ (a b : ℕ) (l : List A) where
    pub part_is : {from count : ℕ} → from ≡ min a (length l) → count ≡ min (b - a) (length (take (length l - from) (drop from l)))
        → take count (take (length l - from) (drop from l)) ≡ part a b l
    unfolding part
    part_is {from} {count} f e =
        let rest : take (length l - from) (drop from l) ≡ drop a l = take_all (length l - from) (drop from l) (omega (arith, length-drop from l)) ∙ ap (λ (j : ℕ). drop j l) f ∙ drop_cut a l in
        ap₂ (λ (n : ℕ) (x : List A). take n x) (e ∙ ap (λ (x : List A). min (b - a) (length x)) rest) rest ∙ take_cut (b - a) (drop a l)

-- ---- the outputs: with no vector; and where k numbers from a on were lent, with v at their front

pub put-nothing : (a : ℕ) (outs : List ℕ) → outs ≡ put a [] outs
unfolding put
put-nothing a outs = sym (ap (λ (k : ℕ). take a outs ++ drop k outs) (add-zero a) ∙ take-append-drop a outs)

pub over_nothing : (v : List ℕ) → [] ≡ over v [] → v ≡ []
unfolding over
over_nothing [] e = refl
over_nothing (x ∷ v) e = let z : ◌≡◌ {A = ℕ} 0 1 = cc in absurd (omega arith)

pub lent_back : (a k : ℕ) (v outs : List ℕ) {out : List ℕ} → length out ≡ length (take k (drop a outs)) → out ≡ over v (take k (drop a outs))
    → take a outs ++ (out ++ drop k (drop a outs)) ≡ put a v outs
unfolding over put
lent_back a k v outs {out} l e =
    let lent : List ℕ = take k (drop a outs) in
    let few : length v ≤ length lent = omega (arith, ap length e, length-append v (drop (length v) lent), length-drop (length v) lent) in
    ap (λ (x : List ℕ). take a outs ++ (x ++ drop k (drop a outs))) e
    ∙ ap (λ (x : List ℕ). take a outs ++ x)
    (append_assoc v (drop (length v) lent) (drop k (drop a outs))
    ∙ ap (λ (x : List ℕ). v ++ x)
    (sym (drop-append-le (length v) lent (drop k (drop a outs)) few)
    ∙ ap (drop (length v)) (take-append-drop k (drop a outs))
    ∙ drop-drop (length v) a outs))
