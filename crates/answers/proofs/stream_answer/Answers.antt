-- `stream_answer` meets its contract, by what it is given; no search is asked.
use mathlib.Core.Path.{refl}
use Rattle.answers.specs.Answers.{new_stream_answer}
use Rattle.answers.proofs.stream_answer.Goals as goal

pub returns-in-Ok : goal.returns-in-Ok
unfolding new_stream_answer
returns-in-Ok c = rw c.in-Ok.is refl

pub returns-in-Err : goal.returns-in-Err
unfolding new_stream_answer
returns-in-Err c =
    let zeros = c.default.ensures.1 in
    rw (c.in-Err.is, zeros.0, zeros.1.0, zeros.1.1.0, zeros.1.1.1, c.no_stream.ensures) refl
