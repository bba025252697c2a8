-- `from` meets its contract: the answer is that of the table with its refusal as a number; no search is asked.
use mathlib.Core.Path.{ap, ◌∙◌}
use Rattle.answers.specs.Answers.{new_table_answer}
use Rattle.answers.proofs.NewTableAnswerFromResultSilenceWeightingRefusal.from.Goals as goal

pub returns : goal.returns
returns c = c.table_answer.ensures ∙ ap new_table_answer c.numbered.ensures
