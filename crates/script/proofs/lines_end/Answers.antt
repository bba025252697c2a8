-- The last whole line ends behind the last byte that is 10, which the search from the back finds: none of those behind it is (`end_above`, Scanning.antt).
use mathlib.Core.Path.{◌≡◌, ◌∙◌}
use mathlib.Core.List.{List}
use Prim.Native.Nat.{ℕ, suc, ◌+◌, ◌≤◌, ◌<◌}
use native.Mathlib.Omega.{arith}
use lib.ListN.{length, get_or}
use Rattle.std.proofs.Common.{rules}
use Rattle.std.specs.Prelude.{Option, Some, None, MatchOption}
use Rattle.script.specs.Scan.{lines_end}
use Rattle.script.proofs.Scanning.{end_first, end_found, end_above}
use Rattle.script.proofs.lines_end.Goals.{After-map_or}
use Rattle.script.proofs.lines_end.Goals as goal

-- what the search from the back says of places
abbrev Found : List ℕ → Option ℕ → Type 0
Found text r = MatchOption r ((i : ℕ) → i < length text → get_or text i 0 ≡ 10 → ⊥) (λ k. (k < length text) × (get_or text k 0 ≡ 10) × ((i : ℕ) → k < i → i < length text → get_or text i 0 ≡ 10 → ⊥))

found : (c : After-map_or) → Found c.args.text.now c.rposition.result
found c = search rules

counted : (c : After-map_or) → MatchOption c.rposition.result (c.map_or.result ≡ 0) (λ k. c.map_or.result ≡ k + 1)
counted c = search rules

up : (text : List ℕ) (r : Option ℕ) (m : ℕ) → Found text r → MatchOption r (m ≡ 0) (λ k. m ≡ k + 1) → (m ≡ lines_end text (length text)) × (m ≤ length text)
up text None m h e = (e ∙ end_first text ∙ end_above text (length text) 0 (omega arith) (λ i a b. h i b), omega (arith, e))
up text (Some k) m h e =
    let f : m ≡ suc k = omega (arith, e) in
    (f ∙ end_found text k h.1 ∙ end_above text (length text) (suc k) (omega (arith, h.0)) (λ i a b. h.2 i (omega (arith, a)) b), omega (arith, e, h.0))

pub returns-clause-end : goal.returns-clause-end
returns-clause-end c = (up c.args.text.now c.rposition.result c.map_or.result (found c) (counted c)).0

pub returns-clause-bound : goal.returns-clause-bound
returns-clause-bound c = (up c.args.text.now c.rposition.result c.map_or.result (found c) (counted c)).1
