-- `play_calls` meets its contract, by the invariant in Invariants.antt.
use Rattle.std.proofs.Common.{rules}
use mathlib.Core.Path.{◌≡◌, refl, ◌∙◌}
use lib.ListN.{length}
use native.Mathlib.Omega.{arith}
use Rattle.lists.proofs.Places.{placed_none, placed_next}
use Rattle.lists.proofs.Going.{going_first, going_again, going_last, zeros_few}
use Rattle.stream.proofs.Loans.{still_lent}
use Rattle.lists.proofs.try_play.play_calls.Goals as goal

pub loop-i-init : goal.loop-i-init
loop-i-init c =
    record { going = going_first _ _ _ _ _ _ _ _ (placed_none _ _) (zeros_few 5) (zeros_few 34); scratch = refl; rooms = search rules }

pub loop-i-preserved : goal.loop-i-preserved
loop-i-preserved c =
    let l = c.loop-i in
    let a = c.args in
    let was = l.invariant in
    let same = c.turn-told.ensures in
    let next = c.next_place-p.ensures in
    let one : length l.outs ≡ 1 = search rules in
    record {
      going =
          going_again _ _ _ _ _ _ _ _ _ _ _ _ _ _ _ _ _ _ _ _ was.going (omega (arith, c.loop-i-test.true, l.auto.i-end)) was.scratch c.draw_call-call.ensures.0 c.draw_call-call.ensures.1 one same.call
          c.note-greatest.ensures (placed_next a.dim a.seed l.i l.p c.next_place-p.result was.going.placed next.0 next.1);
      scratch = same.scratch ∙ was.scratch;
      rooms = still_lent was.rooms same.rooms;
    }

pub returns-clause-played : goal.returns-clause-played
returns-clause-played c = going_last _ _ _ _ _ _ _ _ _ _ _ c.loop-i.invariant.going (omega (arith, c.loop-i-test.false, c.loop-i.auto.i-end))
