-- Each Gaussian has one slot, so there is a place for a new one.
use Rattle.std.proofs.Common.{◌≡◌, ℕ, zero, suc, ◌+◌, ◌*◌, ◌<◌, ◌≤◌, eqb, ltb, List, length, get_or, set, sym, ap, ◌∙◌, not-suc-le-zero, arith, get_or-set_other, get_or-set_same, ltb-false, ltb-true, le-ltb, lt-ltb, eqb-true, if◌then◌else◌}
use lib.Ieee.{Float}
use borrow.Author.Tests.{eqb-false}
use Rattle.loops.proofs.Choose.{by-test}
use Rattle.loops.proofs.Cells.{row_in_lem}
use Rattle.gmm.specs.Inner.Posteriors.{Fair}
use Rattle.gmm.specs.Batch.{Slots}

-- f with its value at j in the place of the value n
moved : (ℕ → ℕ) → ℕ → ℕ → ℕ → ℕ
moved f j n k = if eqb (f k) n then f j else f k

-- numbers below n, none of them twice, are at most n
pigeonhole : (n r : ℕ) (f : ℕ → ℕ) → ((k : ℕ) → k < r → f k < n) → ((j k : ℕ) → j < k → k < r → f j ≡ f k → ⊥) → r ≤ n
unfolding moved
pigeonhole n zero f below once = omega arith
pigeonhole zero (suc r) f below once = absurd (not-suc-le-zero (below 0 (omega arith)))
pigeonhole (suc n) (suc r) f below once =
    let last : (k : ℕ) → k < r → f k ≡ f r → ⊥ = λ k l. once k r l (omega arith) in
    let h = pigeonhole n r (moved f r n)
    (λ k l. by-test (eqb (f k) n)
    (λ t. let e = eqb-true (f k) n t in let u = below r (omega arith) in let q : f r ≡ n → ⊥ = λ e'. last k l (e ∙ sym e') in rw t (omega arith))
    (λ t. let q = eqb-false (f k) n t in let u = below k (omega arith) in rw t (omega arith)))
    (λ j k l p e. by-test (eqb (f j) n)
    (λ t. by-test (eqb (f k) n)
    (λ u. once j k l (omega arith) (eqb-true (f j) n t ∙ sym (eqb-true (f k) n u)))
    (λ u. last k p (sym (rw (t, u) at e))))
    (λ t. by-test (eqb (f k) n)
    (λ u. last j (omega arith) (rw (t, u) at e))
    (λ u. once j k l (omega arith) (rw (t, u) at e)))) in
    omega arith

-- g, which is not among the first r, is put behind the first m
module _ (n m g : ℕ) (gs : List ℕ) (fair : Fair n m gs) (low : g < n) (r : ℕ) (all : m ≤ r) (new : (k : ℕ) → k < r → get_or gs k 0 ≡ g → ⊥) where
  module _ (f : ℕ → ℕ) (last : f m ≡ g) (same : (k : ℕ) → k < m → f k ≡ get_or gs k 0) where
    pub below_more : (k : ℕ) → k < m + 1 → f k < n
    below_more k l =
        by-test (eqb k m) (λ t. rw (eqb-true k m t, last) low) (λ t. let q = eqb-false k m t in rw (same k (omega arith)) (fair.below k (omega arith)))

    pub once_more : (j k : ℕ) → j < k → k < m + 1 → f j ≡ f k → ⊥
    once_more j k l p =
        by-test (eqb k m) (λ t. let q = eqb-true k m t in rw (q, last, same j (omega arith)) (new j (omega arith)))
        (λ t. let q = eqb-false k m t in rw (same j (omega arith), same k (omega arith)) (fair.once j k l (omega arith)))

  pub has_place : m < n
  has_place =
      let f : ℕ → ℕ = λ k. if ltb k m then get_or gs k 0 else g in
      let last : f m ≡ g = rw (le-ltb m m (omega arith)) in
      let same : (k : ℕ) → k < m → f k ≡ get_or gs k 0 = λ k l. rw (lt-ltb k m l) in
      let h = pigeonhole n (m + 1) f (below_more f last same) (once_more f last same) in
      omega arith

  pub fair_more : {gs' : List ℕ} → m < length gs → gs' ≡ set gs m g → Fair n (m + 1) gs'
  fair_more {gs'} l e =
      let last : get_or gs' m 0 ≡ g = ap (λ (s : List ℕ). get_or s m 0) e ∙ get_or-set_same gs m g 0 l in
      let same : (k : ℕ) → k < m → get_or gs' k 0 ≡ get_or gs k 0 = λ k p. ap (λ (s : List ℕ). get_or s k 0) e ∙ get_or-set_other gs m k g 0 (λ q. omega arith) in
      record { below = below_more (λ k. get_or gs' k 0) last same; once = once_more (λ k. get_or gs' k 0) last same }

-- two slots have two Gaussians
pub slots_apart : (n m : ℕ) (gs : List ℕ) → Fair n m gs → (j k : ℕ) → j < m → k < m → (j ≡ k → ⊥) → get_or gs j 0 ≡ get_or gs k 0 → ⊥
slots_apart n m gs fair j k p q ne e =
    by-test (ltb j k) (λ t. fair.once j k (ltb-true j k t) q e) (λ t. let l = ltb-false j k t in fair.once k j (omega arith) p (sym e))

-- ---- the rooms of a batch

module _ (n d m : ℕ) (gs : List ℕ) (tot sum : List Float) (z : Slots n d m gs tot sum) where
  pub slot_tot : (k : ℕ) → k < n → k < length tot
  slot_tot k l = omega (arith, z.tot_long)

  pub slot_sum : (k : ℕ) → k < n → k * d + d ≤ length sum
  slot_sum k l = row_in_lem k n d (length sum) z.sum_long l

  pub slots_kept : (r : ℕ) {gs' : List ℕ} {tot' sum' : List Float} → length gs' ≡ length gs → length tot' ≡ length tot → length sum' ≡ length sum → r ≤ n → Fair n r gs'
      → Slots n d r gs' tot' sum'
  slots_kept r e f g l fair =
      record { seen_long = omega (arith, z.seen_long); tot_long = omega (arith, z.tot_long); sum_long = omega (arith, z.sum_long); room = l; fair = fair }
