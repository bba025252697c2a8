-- `table_answer` meets its contract, by what it is given: the default is all zeros, which is the definition's record.
use mathlib.Core.Path.{◌≡◌, refl, ap}
use Rattle.std.proofs.Common.{rules}
use Rattle.definition.specs.declared.SilenceWeighting.{SilenceWeighting}
use Rattle.answers.specs.declared.NewTableAnswer.{NewTableAnswer}
use Rattle.answers.specs.Answers.{no_table, new_table_answer}
use Rattle.answers.proofs.table_answer.Goals as goal

pub returns-in-Ok : goal.returns-in-Ok
unfolding new_table_answer
returns-in-Ok c = rw c.in-Ok.is refl

pub returns-in-Err : goal.returns-in-Err
unfolding new_table_answer
returns-in-Err c =
    let zeros : c.default.result ≡ no_table = search rules in
    let beside : SilenceWeighting → NewTableAnswer = λ s. record { refusal = c.in-Err.number; silence = s } in
    rw c.in-Err.is (ap beside zeros)
