-- One more at a place of the counts: what a step of a tally leaves, and that no count is above the number of steps.
use mathlib.Core.Path.{◌≡◌, sym, ap, ◌∙◌}
use mathlib.Core.List.{List}
use Prim.Native.Nat.{ℕ, ◌+◌, ◌≤◌}
use native.Mathlib.Omega.{arith}
use native.Mathlib.Decide.{dec_le, ℕ_discrete}
use lib.ListN.{length, get_or, set, length-set}
use lib.Seq.{get_or-set_same, get_or-set_other, set_out}
use Rattle.lists.specs.Inner.TryNotes.{counted}

pub counted-set : (l : List ℕ) (k : ℕ) {n : ℕ} → n ≡ get_or l k 0 + 1 → set l k n ≡ counted l k
unfolding counted
counted-set l k e = ap (set l k) e

pub counted_out : (l : List ℕ) (k : ℕ) → length l ≤ k → l ≡ counted l k
unfolding counted
counted_out l k h = sym (set_out l k _ h)

pub length-counted : (l : List ℕ) (k : ℕ) → length (counted l k) ≡ length l
unfolding counted
length-counted l k = length-set l k _

pub counted-few : (l : List ℕ) (k i : ℕ) → ((j : ℕ) → get_or l j 0 ≤ i) → (j : ℕ) → get_or (counted l k) j 0 ≤ i + 1
unfolding counted
counted-few l k i h j = go (ℕ_discrete j k)
  where
    here : j ≡ k → get_or (set l k (get_or l k 0 + 1)) j 0 ≤ i + 1
    here e = within (dec_le (length l) k)
      where
        within : Dec (length l ≤ k) → get_or (set l k (get_or l k 0 + 1)) j 0 ≤ i + 1
        within (yes o) = rw (set_out l k (get_or l k 0 + 1) o) (omega (arith, h j))
        within (no o) =
            let v : get_or (set l k (get_or l k 0 + 1)) j 0 ≡ get_or l k 0 + 1 = ap (λ (x : ℕ). get_or (set l k (get_or l k 0 + 1)) x 0) e ∙ get_or-set_same l k (get_or l k 0 + 1) 0 (omega arith) in
            omega (arith, v, h k)

    go : Dec (j ≡ k) → get_or (set l k (get_or l k 0 + 1)) j 0 ≤ i + 1
    go (yes e) = here e
    go (no n) = rw (get_or-set_other l k j (get_or l k 0 + 1) 0 n) (omega (arith, h j))
