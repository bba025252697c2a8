-- `step` meets its contract: a block of another length is left, a fetch is `fetch` and what `told` writes of it, any other command is `ring_step` (Commands.antt).
use mathlib.Core.Path.{sym, ap, ◌∙◌}
use mathlib.Core.Bool.{true}
use lib.ListN.{length}
use Rattle.definition.specs.Lent.{tables_in}
use Rattle.program.specs.Rooms.{EstimateRooms, rooms_from}
use Rattle.program.specs.Session.{program}
use Rattle.stream.specs.Stream.{record_of, rings_of, rooms_of, estimate_of, program_of}
use Rattle.board.specs.Board.{Board, board}
use Rattle.board.proofs.Commands.{told_as, block-long, block-whole, fetch_done, scratch_kept_is, step-whole, step_refused}
use Rattle.board.proofs.registers.step.Goals.{Start}
use Rattle.board.proofs.registers.step.Goals as goal

abbrev lent : Start → Board
lent c = board (program_of c.args.stream.now) c.args.block.now c.args.out.now

pub returns-then-block-ne16-clause-refusal : goal.returns-then-block-ne16-clause-refusal
returns-then-block-ne16-clause-refusal c = block-long c.args.block.now c.if-block-ne16.true

pub returns-then-block-ne16-clause-board : goal.returns-then-block-ne16-clause-board
returns-then-block-ne16-clause-board c =
    let o = (goal.at.returns-then-block-ne16-clause-board c).Start in
    step_refused (tables_in c.args.tables) (length c.args.stream.now.scratch.now) c.args.frame.now (lent o) c.if-block-ne16.true

pub returns-in-Fetch-clause-refusal : goal.returns-in-Fetch-clause-refusal
returns-in-Fetch-clause-refusal c = block-whole c.args.block.now c.if-block-ne16.false

pub returns-in-Fetch-clause-board : goal.returns-in-Fetch-clause-board
returns-in-Fetch-clause-board c =
    let a = c.args in
    let s = a.stream.now in
    let o = (goal.at.returns-in-Fetch-clause-board c).Start in
    let n = length s.scratch.now in
    fetch_done (tables_in a.tables) n (record_of s) (rooms_of s) a.block.now a.frame.now a.out.now (sym c.in-Fetch.is ∙ c.from.ensures) c.frame_number-at.result c.frame_number-at.ensures
    c.fetch-fetched.ensures.call (told_as _ true _ _ _ _ c.fetch_number.ensures c.told.ensures)
    ∙ step-whole (tables_in a.tables) n a.frame.now (lent o) c.if-block-ne16.false

pub returns-in-Fetch-clause-scratch : goal.returns-in-Fetch-clause-scratch
returns-in-Fetch-clause-scratch c =
    let a = c.args in
    let s = a.stream.now in
    scratch_kept_is (tables_in a.tables) (length s.scratch.now) (record_of s) (rooms_of s) a.block.now a.frame.now a.out.now (sym c.in-Fetch.is ∙ c.from.ensures) c.frame_number-at.result
    c.frame_number-at.ensures c.fetch-fetched.ensures.scratch c.if-block-ne16.false

pub returns-in_default : goal.returns-in_default
returns-in_default c =
    let a = c.args in
    let s = a.stream.now in
    let t = c.ring_step.new.stream in
    let o = (goal.at.returns-in_default c).Start in
    let e = c.ring_step.ensures in
    record {
      refusal = block-whole a.block.now c.if-block-ne16.false;
      board =
          ap (λ (e : EstimateRooms). board (program (record_of t) (rooms_from (rings_of t) e)) c.ring_step.new.block a.out.now) e.rest.estimate
          ∙ e.done (tables_in a.tables) (length s.scratch.now) (estimate_of s) a.out.now
          ∙ step-whole (tables_in a.tables) (length s.scratch.now) a.frame.now (lent o) c.if-block-ne16.false;
      scratch = λ h. e.rest.scratch;
      loans = e.rest.loans;
    }
