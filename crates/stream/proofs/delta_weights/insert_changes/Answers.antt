-- `insert_changes` meets its contract, by the invariant in Invariants.antt (`Now` and `call_turn` in Inserted.antt).
use native.Mathlib.Omega.{arith}
use Rattle.loops.specs.Lists.{over}
use Rattle.loops.proofs.Loop.{at_end}
use Rattle.program.specs.Rooms.{frames_of, weights_of}
use Rattle.program.proofs.WaitingRooms.{frames_waiting, weights_waiting}
use Rattle.stream.proofs.Inserted.{Now, call_none, call_length, call_rising, call_turn}
use Rattle.stream.proofs.delta_weights.insert_changes.Goals as goal

pub loop-i-init : goal.loop-i-init
loop-i-init c =
    let fs = c.args.frames.now in
    let ws = c.args.weights.now in
    let f = frames_waiting c.args.n fs ws (omega arith) in
    let w = weights_waiting c.args.n fs ws (omega arith) in
    record {
      few = omega arith;
      changes = (call_none _ _ _ _ _ (λ d. d.0) fs (omega arith) f, call_none _ _ _ _ _ (λ d. d.1) ws (omega arith) w);
    }

pub insert_change-requires-clause-frames : goal.insert_change-requires-clause-frames
insert_change-requires-clause-frames c =
    omega (arith, c.requires.frames, c.loop-i-test.true, call_length _ _ _ _ _ (λ d. d.0) _ _ c.loop-i.invariant.changes.0 (omega (arith, c.requires.frames, c.loop-i-test.true)))

pub insert_change-requires-clause-weights : goal.insert_change-requires-clause-weights
insert_change-requires-clause-weights c =
    omega (arith, c.requires.weights, c.loop-i-test.true, call_length _ _ _ _ _ (λ d. d.1) _ _ c.loop-i.invariant.changes.1 (omega (arith, c.requires.weights, c.loop-i-test.true)))

pub insert_change-requires-clause-order : goal.insert_change-requires-clause-order
insert_change-requires-clause-order c =
    let h = c.loop-i.invariant.changes in call_rising _ _ _ _ _ c.loop-i.i h.0 h.1 (omega (arith, c.requires.frames)) c.requires.order

pub loop-i-preserved : goal.loop-i-preserved
loop-i-preserved c =
    let loop = c.loop-i.invariant in
    let h = loop.changes in
    let e = c.insert_change.ensures in
    let i = c.loop-i.i in
    record {
      few = omega (arith, c.loop-i-test.true);
      changes = (
        call_turn _ _ _ _ _ i h.0 h.1 (λ d. d.0) c.args.frames.now h.0 e.0,
        call_turn _ _ _ _ _ i h.0 h.1 (λ d. d.1) c.args.weights.now h.1 e.1,
      );
    }

pub returns : goal.returns
returns c =
    let loop = c.loop-i in
    let h = loop.invariant in
    let a = c.args in
    let fs = a.frames.now in
    let ws = a.weights.now in (
      at_end (λ j. over (frames_of (Now a.delta_frames.now a.delta_weights.now a.n fs ws j)) fs) loop.i _ h.few c.loop-i-test.false h.changes.0,
      at_end (λ j. over (weights_of (Now a.delta_frames.now a.delta_weights.now a.n fs ws j)) ws) loop.i _ h.few c.loop-i-test.false h.changes.1,
    )
