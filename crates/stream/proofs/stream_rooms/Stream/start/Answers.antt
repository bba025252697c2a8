-- `start` meets its contract: refused, all is as it was; taken, the record is the fresh one and each room has its first values.
-- Once it is taken the rooms have the lengths that the functions below require.
use mathlib.Core.Path.{refl, ap₂}
use native.Mathlib.Omega.{arith}
use Rattle.program.specs.Calls.{fresh_stream, fresh_rooms}
use Rattle.program.specs.Session.{program}
use Rattle.stream.proofs.Refusals.{new_taken}
use Rattle.stream.proofs.Replies.{rings_are, estimate_is, rooms_are}
use Rattle.stream.proofs.stream_rooms.Stream.start.Goals as goal

pub clear_front-requires : goal.clear_front-requires
clear_front-requires c = (new_taken _ _ _ (rw c.lengths-lengths.ensures at c.in_ok-new_refusal.ensures) refl).row_long

pub overflow_add-d : goal.overflow_add-d
overflow_add-d c = omega (arith, (new_taken _ _ _ (rw c.lengths-lengths.ensures at c.in_ok-new_refusal.ensures) refl).dims_are)

pub clear_front-requires-2 : goal.clear_front-requires-2
clear_front-requires-2 c = (new_taken _ _ _ (rw c.lengths-lengths.ensures at c.in_ok-new_refusal.ensures) refl).rooms_are.cmvn_fits

pub fresh_estimate-requires : goal.fresh_estimate-requires
fresh_estimate-requires c =
    let k = new_taken _ _ _ (rw c.lengths-lengths.ensures at c.in_ok-new_refusal.ensures) refl in
    record {
      some = k.dims_are.some_ivector;
      bound = k.dims_are.ivector_is;
      linear = k.rooms_are.linear_fits;
      quadratic = k.rooms_are.quadratic_fits;
      current = k.rooms_are.current_fits;
    }

pub returns-clause-fresh : goal.returns-clause-fresh
unfolding fresh_stream fresh_rooms
returns-clause-fresh c =
    let fresh = c.fresh_estimate.ensures in
    let rings = rings_are refl c.clear_front.ensures refl refl in
    let estimate = estimate_is c.clear_front-2.ensures fresh.linear fresh.quadratic fresh.current in
    rw c.lengths-lengths.ensures (ap₂ program refl (rooms_are rings estimate))
