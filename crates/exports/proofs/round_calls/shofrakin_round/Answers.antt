-- `shofrakin_round` meets its contract: `round` says result and bench in one equation, of which the outcome's is one part and the bench's the other (`round_told`).
use Rattle.std.specs.Prelude.{Result}
use mathlib.Core.Path.{◌≡◌, ap, ◌∙◌}
use mathlib.Core.List.{List}
use mathlib.Core.Bool.{false}
use lib.Ieee.{Float}
use borrow.Author.Rules.{rules}
use Rattle.rounds.specs.declared.trigger_steps.RoundOutcome.{RoundOutcome}
use Rattle.rounds.specs.declared.trigger_steps.RoundEnd.{RoundEnd}
use Rattle.rounds.specs.declared.trigger_steps.Halt.{Halt}
use Rattle.rounds.specs.Round.{Bench, Round, round_from, worked, round_outcome}
use Rattle.exports.proofs.round_calls.shofrakin_round.Goals as goal

round_told :
    {o : RoundOutcome} {r : Result RoundEnd Halt} {b : Bench} {x : Round} {n m : List Float} → o ≡ round_outcome r
    → round_from r b ≡ x → (worked r ≡ false → m ≡ n)
    → (o ≡ round_outcome x.result) × (b ≡ x.bench) × (worked x.result ≡ false → m ≡ n)
round_told e h s =
    (e ∙ ap (λ (x : Round). round_outcome x.result) h, ap (λ (x : Round). x.bench) h, λ w. s (ap (λ (x : Round). worked x.result) h ∙ w))

pub returns : goal.returns
returns c = round_told c.round_outcome.ensures (search rules) (λ w. search (rules, c.round-done.ensures.scratch w))
