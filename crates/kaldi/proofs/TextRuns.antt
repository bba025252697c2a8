-- The definition's run of bytes is std's; and what a test that went through tells.
use Rattle.std.proofs.Common.{◌≡◌, ℕ, suc, ◌+◌, ◌<◌, Bool, true, false, cond, not, List, [], ◌∷◌, ap, refl, ◌∙◌, arith}
use Rattle.std.specs.List.{prefix_len}
use Rattle.loops.specs.Refusal.{first_of}
use Rattle.definition.specs.Reader.{run}

one_more : (x : Bool) (n : ℕ) → cond x (1 + n) 0 ≡ elim x as (λ _. ℕ) [ true ↦ suc n | false ↦ 0 ]
one_more true n = omega arith
one_more false n = refl

pub run-prefix : (t : ℕ → Bool) (l : List ℕ) → prefix_len t l ≡ run t l
unfolding run
run-prefix t [] = refl
run-prefix t (b ∷ l) = ap (λ (n : ℕ). cond (t b) (1 + n) 0) (run-prefix t l) ∙ one_more (t b) (run t l)

-- what a `need` that went through tells
pub passed : (t : Bool) (n : ℕ) → 0 < n → 0 ≡ first_of ((not t, n) ∷ []) → t ≡ true
unfolding first_of
passed true n h e = refl
passed false n h e = absurd (omega arith)
