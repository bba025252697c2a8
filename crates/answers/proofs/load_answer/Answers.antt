-- `load_answer` meets its contract, by what it is given; no search is asked.
use mathlib.Core.Path.{refl}
use Rattle.answers.specs.Answers.{load_answer}
use Rattle.answers.proofs.load_answer.Goals as goal

pub returns-in-Ok : goal.returns-in-Ok
unfolding load_answer
returns-in-Ok c = rw c.in-Ok.is refl

pub returns-in-Err : goal.returns-in-Err
unfolding load_answer
returns-in-Err c = rw (c.in-Err.is, c.no_info-info.ensures) refl
