-- `turn` meets its contract: a call on the rings is a step of the program by its kind (`ring_turned`), so is a window call (`window_turned`), and a fetch over its part of the outputs
-- (`fetch_turned`). The laws are in Lists.antt; what a number says of its kind is `Means`.
use mathlib.Core.Path.{refl, ap, ◌∙◌}
use native.Mathlib.Omega.{arith}
use lib.ListN.{length}
use Rattle.definition.specs.Lent.{tables_in}
use Rattle.program.specs.Calls.{done_on}
use Rattle.stream.specs.Stream.{record_of, rooms_of}
use Rattle.lists.proofs.Branches.{push_done, finish_done, change_done, forget_done}
use Rattle.lists.proofs.Lists.{ring_turned, window_turned, fetch_turned}
use Rattle.lists.proofs.run_calls.turn.Goals as goal

pub returns-in-Push-clause-call : goal.returns-in-Push-clause-call
returns-in-Push-clause-call c =
    let a = c.args in
    let kind = c.in-Push.ensures in
    let e = c.push-pushed.ensures in
    ring_turned a.call a.lists.now a.samples.now (tables_in a.tables) (length a.stream.now.scratch.now) (record_of a.stream.now) (rooms_of a.stream.now) a.outs.now
    (omega (arith, kind)) c.part-frame.ensures refl refl (e.call ∙ ap (done_on _ _) (push_done _ _ _ _ _ _ _ kind)) c.answered.ensures e.rest.estimate

pub returns-in-Finish-clause-call : goal.returns-in-Finish-clause-call
returns-in-Finish-clause-call c =
    let a = c.args in
    let kind = c.in-Finish.ensures in
    let e = c.finish-finished.ensures in
    ring_turned a.call a.lists.now a.samples.now (tables_in a.tables) (length a.stream.now.scratch.now) (record_of a.stream.now) (rooms_of a.stream.now) a.outs.now
    (omega (arith, kind)) refl refl refl (e.call ∙ ap (done_on _ _) (finish_done _ _ _ _ _ _ _ kind)) c.answered-in-Finish.ensures e.rest.estimate

pub returns-in-Change-clause-call : goal.returns-in-Change-clause-call
returns-in-Change-clause-call c =
    let a = c.args in
    let kind = c.in-Change.ensures in
    let e = c.change-changed.ensures in
    ring_turned a.call a.lists.now a.samples.now (tables_in a.tables) (length a.stream.now.scratch.now) (record_of a.stream.now) (rooms_of a.stream.now) a.outs.now
    (omega (arith, kind)) refl c.part-delta_frames.ensures c.part-delta_weights.ensures (e.call ∙ ap (done_on _ _) (change_done _ _ _ _ _ _ _ kind)) c.answered-in-Change.ensures e.rest.estimate

pub returns-in-Forget-clause-call : goal.returns-in-Forget-clause-call
returns-in-Forget-clause-call c =
    let a = c.args in
    let kind = c.in-Forget.ensures in
    let e = c.forget-forgotten.ensures in
    ring_turned a.call a.lists.now a.samples.now (tables_in a.tables) (length a.stream.now.scratch.now) (record_of a.stream.now) (rooms_of a.stream.now) a.outs.now
    (omega (arith, kind)) refl refl refl (e.call ∙ ap (done_on _ _) (forget_done _ _ _ _ _ _ _ kind)) c.answered-in-Forget.ensures e.rest.estimate

pub returns-in-Window-clause-call : goal.returns-in-Window-clause-call
returns-in-Window-clause-call c =
    let a = c.args in
    let e = c.set_window-set.ensures in
    window_turned a.call a.lists.now a.samples.now (tables_in a.tables) (length a.stream.now.scratch.now) (record_of a.stream.now) (rooms_of a.stream.now) a.outs.now
    c.in-Window.ensures e.call c.answered-in-Window.ensures e.rest.estimate

pub returns-in-Fetch-clause-call : goal.returns-in-Fetch-clause-call
returns-in-Fetch-clause-call c =
    let a = c.args in
    fetch_turned a.call a.lists.now a.samples.now (tables_in a.tables) (length a.stream.now.scratch.now) (record_of a.stream.now) (rooms_of a.stream.now) a.outs.now
    c.min-from.result c.min-count.result c.in-Fetch.ensures.0 c.in-Fetch.ensures.1 c.min-from.ensures (rw c.saturating_sub.ensures at c.min-count.ensures)
    c.fetch-fetched.auto.out c.fetch-fetched.ensures.call c.fetch_answer.ensures
