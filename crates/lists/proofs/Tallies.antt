-- Counts by tally: one more at a place at each step is, at the end, how many there are of each (`tally_is`).
use Rattle.std.specs.Prelude.{if◌then◌else◌}
use mathlib.Core.Path.{◌≡◌, refl, ap, ◌∙◌}
use mathlib.Core.Bool.{Bool, true, false}
use mathlib.Core.List.{List, [], ◌∷◌, map, foldl}
use Prim.Native.Nat.{ℕ, suc, ◌+◌, ◌<◌}
use native.Mathlib.Omega.{arith}
use native.Mathlib.Decide.{ℕ_discrete}
use lib.ListN.{length, get_or, set, replicate, length-replicate, get_or-replicate}
use lib.Seq.{get_or-set_same, get_or-set_other}
use lib.Dec.{eqb}
use borrow.Author.Tests.{eq-eqb, ne_eqb}
use Rattle.loops.specs.Lists.{build, those}
use Rattle.loops.proofs.Build.{build_ext, build_is}
use Rattle.definition.specs.Machine.{Call, Answer}
use Rattle.lists.specs.Inner.TryNotes.{counted, Tally, tally}
use Rattle.lists.proofs.Counted.{length-counted}
use Rattle.lists.specs.Totals.{kind_of, how_many, refusal_of, totals_from, totals}
use Rattle.lists.specs.Inner.TryPlay.{tallied}

many-none : (k : ℕ) → how_many k [] ≡ 0
unfolding how_many those
many-none k = refl

-- one step and the rest
many-step : (c l : List ℕ) (x k : ℕ) → k < length c → get_or (counted c x) k 0 + how_many k l ≡ get_or c k 0 + how_many k (x ∷ l)
unfolding counted how_many those
many-step c l x k h = go (ℕ_discrete k x)
  where
    by : (b : Bool) → eqb k x ≡ b → how_many k (x ∷ l) ≡ (if b then suc (how_many k l) else how_many k l)
    by true e = rw e
    by false e = rw e

    go : Dec (k ≡ x) → get_or (set c x (get_or c x 0 + 1)) k 0 + how_many k l ≡ get_or c k 0 + how_many k (x ∷ l)
    go (yes e) =
        let a : get_or (set c x (get_or c x 0 + 1)) k 0 ≡ get_or c x 0 + 1 = ap (λ (j : ℕ). get_or (set c x (get_or c x 0 + 1)) j 0) e ∙ get_or-set_same c x (get_or c x 0 + 1) 0 (omega arith) in
        let b : get_or c k 0 ≡ get_or c x 0 = ap (λ (j : ℕ). get_or c j 0) e in
        omega (arith, a, b, by true (eq-eqb k x e))
    go (no n) = omega (arith, get_or-set_other c x k (get_or c x 0 + 1) 0 n, by false (ne_eqb k x n))

folded : (l c : List ℕ) → foldl counted c l ≡ build (length c) (λ k. get_or c k 0 + how_many k l)
folded [] c = build_is 0 (length c) (λ k. get_or c k 0 + how_many k []) c refl (λ k h. omega (arith, many-none k))
folded (x ∷ l) c =
    folded l (counted c x)
    ∙ ap (λ (n : ℕ). build n (λ k. get_or (counted c x) k 0 + how_many k l)) (length-counted c x)
    ∙ build_ext (length c) (λ k. get_or (counted c x) k 0 + how_many k l) (λ k. get_or c k 0 + how_many k (x ∷ l)) (many-step c l x)

pub tally_is : (n : ℕ) (l : List ℕ) → foldl counted (replicate n 0) l ≡ build n (λ k. how_many k l)
tally_is n l =
    folded l (replicate n 0)
    ∙ ap (λ (m : ℕ). build m (λ k. get_or (replicate n 0) k 0 + how_many k l)) (length-replicate n 0)
    ∙ build_ext n (λ k. get_or (replicate n 0) k 0 + how_many k l) (λ k. how_many k l) (λ k h. omega (arith, get_or-replicate {A = ℕ} n k 0 0 h))

-- the totals, from the tally that began at zeros
pub totals_are : (cs : List Call) (rs : List Answer) {s : Tally} → s ≡ tallied (tally (replicate 5 0) (replicate 34 0) 0) cs rs
    → totals_from 0 s.calls s.refusals s.most ≡ totals cs rs
unfolding tallied totals
totals_are cs rs e =
    ap (λ (s : Tally). totals_from 0 s.calls s.refusals s.most) e
    ∙ rw (tally_is 5 (map kind_of cs), tally_is 34 (map refusal_of rs))
