-- One entry more in a batch: the Gaussians seen, and each one's sums.
use Rattle.std.proofs.Common.{◌≡◌, ℕ, Bool, true, false, eqb, List, [], ◌∷◌, ◌++◌, map, sym, refl, ap, ◌∙◌, true≢false, eq-eqb, eqb-true, if◌then◌else◌}
use mathlib.Core.List.{foldl, foldl-append, map-append}
use lib.Ieee.{Float}
use Rattle.loops.specs.Lists.{those, any_of}
use Rattle.loops.proofs.Choose.{by-test, or_fails}
use Rattle.loops.proofs.Tests.{those_append}
use Rattle.floats.specs.Operators.{◌+₆₄◌, zero₆₄, total₆₄}
use Rattle.definition.specs.Statistics.{Entry, seen, sum_for}
use Rattle.gmm.proofs.Totals.{total_append}

-- the test of `sum_for`
abbrev of : ℕ → Entry → Bool
of g e = eqb e.gauss g

module _ (es : List Entry) (e : Entry) where
  pub seen_again : any_of (eqb e.gauss) (seen es) ≡ true → seen (es ++ (e ∷ [])) ≡ seen es
  unfolding seen
  seen_again t = foldl-append _ [] es (e ∷ []) ∙ rw t

  pub seen_first : any_of (eqb e.gauss) (seen es) ≡ false → seen (es ++ (e ∷ [])) ≡ seen es ++ (e.gauss ∷ [])
  unfolding seen
  seen_first t = foldl-append _ [] es (e ∷ []) ∙ rw t

  module _ (g : ℕ) (v : Entry → Float) where
    sum_split : sum_for (es ++ (e ∷ [])) g v ≡ total₆₄ (sum_for es g v) (map v (those (of g) (e ∷ [])))
    unfolding sum_for
    sum_split =
        ap (λ (l : List Entry). total₆₄ zero₆₄ (map v l)) (those_append (of g) es (e ∷ []))
        ∙ ap (total₆₄ zero₆₄) (map-append v (those (of g) es) _)
        ∙ total_append zero₆₄ (map v (those (of g) es)) _

    pub sum_own : eqb e.gauss g ≡ true → sum_for (es ++ (e ∷ [])) g v ≡ sum_for es g v +₆₄ v e
    unfolding those
    sum_own t = sum_split ∙ rw t

    pub sum_other : eqb e.gauss g ≡ false → sum_for (es ++ (e ∷ [])) g v ≡ sum_for es g v
    unfolding those
    sum_other t = sum_split ∙ rw t

-- ---- a Gaussian that was not seen has no entry

pub any_append : {A : Type 0} (p : A → Bool) (xs ys : List A) → any_of p (xs ++ ys) ≡ false → (any_of p xs ≡ false) × (any_of p ys ≡ false)
unfolding any_of
any_append p [] ys e = (refl, e)
any_append p (x ∷ xs) ys e =
    let h = or_fails (p x) (any_of p (xs ++ ys)) e in
    let r = any_append p xs ys h.1 in
    (rw h.0 r.0, r.1)

abbrev next : List ℕ → Entry → List ℕ
next gs e = if any_of (eqb e.gauss) gs then gs else gs ++ (e.gauss ∷ [])

unseen_next : (g : ℕ) (gs : List ℕ) (e : Entry) → any_of (eqb g) (next gs e) ≡ false → (any_of (eqb g) gs ≡ false) × (of g e ≡ false)
unfolding any_of
unseen_next g gs e h =
    by-test (any_of (eqb e.gauss) gs)
    (λ t. let h' : any_of (eqb g) gs ≡ false = rw t at h in
    (h', by-test (of g e) (λ q. absurd (true≢false (sym t ∙ ap (λ (k : ℕ). any_of (eqb k) gs) (eqb-true e.gauss g q) ∙ h'))) (λ q. q)))
    (λ t. let h' : any_of (eqb g) (gs ++ (e.gauss ∷ [])) ≡ false = rw t at h in
    let r = any_append (eqb g) gs (e.gauss ∷ []) h' in
    let f = (or_fails (eqb g e.gauss) false r.1).0 in
    (r.0, by-test (of g e) (λ q. absurd (true≢false (sym (eq-eqb g e.gauss (sym (eqb-true e.gauss g q))) ∙ f))) (λ q. q)))

unseen_from : (g : ℕ) (gs : List ℕ) (es : List Entry) → any_of (eqb g) (foldl next gs es) ≡ false → (any_of (eqb g) gs ≡ false) × (those (of g) es ≡ [])
unfolding those
unseen_from g gs [] h = (h, refl)
unseen_from g gs (e ∷ es) h =
    let r = unseen_from g (next gs e) es h in
    let q = unseen_next g gs e r.0 in
    (q.0, rw q.1 r.1)

pub sum_unseen : (es : List Entry) (g : ℕ) (v : Entry → Float) → any_of (eqb g) (seen es) ≡ false → sum_for es g v ≡ zero₆₄
unfolding seen sum_for
sum_unseen es g v h = rw (unseen_from g [] es h).1
