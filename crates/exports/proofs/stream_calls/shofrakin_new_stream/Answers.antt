-- A start over a record of its own, and its answer as a record (Fresh.antt).
use borrow.Author.Rules.{rules}
use Rattle.exports.proofs.Fresh.{fresh_few, fresh_told}
use Rattle.exports.proofs.stream_calls.shofrakin_new_stream.Goals as goal

pub start_answer-requires : goal.start_answer-requires
start_answer-requires c = fresh_few _ _ _ _ _ _ c.start-started.ensures.fresh

pub returns : goal.returns
returns c =
    let e = c.start-started.ensures in
    fresh_told c.args.info _ _ c.start-started.result _ _ _ e.refusal e.fresh c.start_answer.ensures (search rules) (search rules)
