-- `rows_held` meets its contract, by its two subtractions; no search is asked.
use mathlib.Core.Path.{ap, ◌∙◌}
use Prim.Native.Nat.{ℕ, ◌+◌, ◌-◌}
use Rattle.definition.specs.Machine.{rows_held}
use Rattle.limits.proofs.rows_held.Goals as goal

pub returns : goal.returns
unfolding rows_held
returns c = c.saturating_sub.ensures ∙ ap (λ (n : ℕ). c.args.accepted + 1 - n) c.saturating_sub-first.ensures
