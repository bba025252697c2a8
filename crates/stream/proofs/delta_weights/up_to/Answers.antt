-- `delta_weights::up_to` meets its contract: the last frame up to f is in place k, and those behind it are above f; or all are.
use mathlib.Core.Path.{◌≡◌, ap, ◌∙◌}
use mathlib.Core.Bool.{true}
use mathlib.Core.List.{List}
use Prim.Native.Nat.{ℕ, ◌+◌, ◌-◌, ◌≤◌, ◌<◌}
use native.Mathlib.Omega.{arith}
use lib.Dec.{leb}
use lib.ListN.{length, get_or}
use lib.Seq.{take-length}
use Rattle.std.proofs.Common.{rules}
use Rattle.std.specs.Prelude.{Option, Some, None, MatchOption}
use Rattle.loops.specs.Lists.{those}
use Rattle.definition.specs.Stream.{rising}
use Rattle.program.proofs.InOrder.{found_last, found_none}
use Rattle.stream.proofs.delta_weights.up_to.Goals.{After-map_or}
use Rattle.stream.proofs.delta_weights.up_to.Goals as goal

-- what the search from the back says of places
abbrev Found : List ℕ → ℕ → Option ℕ → Type 0
Found fs f r = MatchOption r ((i : ℕ) → i < length fs → f < get_or fs i 0) (λ k. (k < length fs) × (get_or fs k 0 ≤ f) × ((i : ℕ) → k < i → i < length fs → f < get_or fs i 0))

found : (c : After-map_or) → Found c.args.frames.now c.args.f c.rposition.result
found c = search rules

counted : (c : After-map_or) → MatchOption c.rposition.result (c.map_or.result ≡ 0) (λ k. c.map_or.result ≡ k + 1)
counted c = search rules

module _ (fs : List ℕ) (f : ℕ) (o : rising 0 fs ≡ true) where
  up : (r : Option ℕ) (m : ℕ) → Found fs f r → MatchOption r (m ≡ 0) (λ k. m ≡ k + 1) → (m ≡ length (those (λ g. leb g f) fs)) × (m ≤ length fs)
  up None m h e =
      let n = found_none fs (length fs) f (omega arith) 0 (omega arith) (λ i p q. h i q) in
      (e ∙ n ∙ ap (λ xs. length (those (λ g. leb g f) xs)) (take-length fs), omega (arith, e))
  up (Some k) m h e =
      let last : k + 1 - 1 ≡ k = omega arith in
      let n = found_last fs (length fs) f (omega arith) (k + 1) (rw (take-length fs) o) (omega arith) (omega (arith, h.0)) (rw last h.1) (λ i p q. h.2 i (omega arith) q) in
      (e ∙ n ∙ ap (λ xs. length (those (λ g. leb g f) xs)) (take-length fs), omega (arith, e, h.0))

pub returns : goal.returns
returns c = up c.args.frames.now c.args.f c.requires c.rposition.result c.map_or.result (found c) (counted c)
