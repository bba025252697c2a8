-- `ring_step` meets its contract: each command by the contract of its call, and what `told` writes of it (Commands.antt).
use mathlib.Core.Path.{sym, ◌∙◌}
use mathlib.Core.Bool.{false}
use Rattle.stream.specs.Stream.{record_of, rings_of}
use Rattle.board.proofs.Commands.{told_as, nothing, push_done, finish_done, forget_done, none_done}
use Rattle.board.proofs.registers.ring_step.Goals as goal

pub returns-in-Push-clause-done : goal.returns-in-Push-clause-done
returns-in-Push-clause-done c =
    push_done (record_of c.args.stream.now) (rings_of c.args.stream.now) c.args.block.now c.args.frame.now (told_as _ false _ _ 0 0 c.number_or_0.ensures c.told.ensures)
    (sym c.in-Push.is ∙ c.requires.asked) c.push-pushed.ensures.call

pub returns-in-Finish-clause-done : goal.returns-in-Finish-clause-done
returns-in-Finish-clause-done c =
    finish_done (record_of c.args.stream.now) (rings_of c.args.stream.now) c.args.block.now c.args.frame.now (told_as _ false _ _ 0 0 c.number_or_0-in-Finish.ensures c.told-in-Finish.ensures)
    (sym c.in-Finish.is ∙ c.requires.asked) c.finish-finished.ensures.call

pub returns-in-Forget-clause-done : goal.returns-in-Forget-clause-done
returns-in-Forget-clause-done c =
    forget_done (record_of c.args.stream.now) (rings_of c.args.stream.now) c.args.block.now c.args.frame.now (told_as _ false _ _ 0 0 c.number_or_0-in-Forget.ensures c.told-in-Forget.ensures)
    (sym c.in-Forget.is ∙ c.requires.asked) c.frame_number-at.result c.frame_number-at.ensures c.forget-forgotten.ensures.call

pub returns-in_default-clause-done : goal.returns-in_default-clause-done
returns-in_default-clause-done c =
    let d = c.in_default in
    none_done (record_of c.args.stream.now) (rings_of c.args.stream.now) c.args.block.now c.args.frame.now
    (nothing c.args.command d.not-Push d.not-Finish d.not-Forget c.requires.no_fetch ∙ c.requires.asked) c.settle.ensures
