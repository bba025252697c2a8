-- `bring_in` meets its contract: a frame that is in the statistics already changes nothing (`stream_same`, `rooms_same`, `nans_same`); for another `in_force` puts the window in, `up_to`
-- counts the changes, `update_rooms` does the work and `remove_first` drops the changes that it used (`stream_up`, `rooms_up`, `nans_up`). The laws are those of FetchSteps.antt.
use mathlib.Core.Path.{refl}
use native.Mathlib.Omega.{arith}
use lib.ListN.{length}
use Rattle.definition.specs.declared.IvectorStream.{IvectorStream}
use Rattle.definition.specs.Model.{Tables, table_lengths_of}
use Rattle.definition.specs.Lent.{tables_in}
use Rattle.program.specs.Rooms.{Rooms}
use Rattle.program.specs.Calls.{get_frame}
use Rattle.stream.specs.Stream.{record_of, rooms_of}
use Rattle.stream.proofs.FetchRefusals.{FetchTaken, fetch_taken, record_is, tables_fit_is, rooms_fit_is}
use Rattle.stream.proofs.FetchSteps.{asked, counted, frames_in_is, weights_in, early_at, few_frames, stream_up, rooms_up, nans_up, stream_same, rooms_same, nans_same}
use Rattle.stream.proofs.stream_rooms.Stream.bring_in.Goals.{Start}
use Rattle.stream.proofs.stream_rooms.Stream.bring_in.Goals as goal

abbrev st : Start → IvectorStream
st c = record_of c.args.self.now

abbrev held : Start → Rooms
held c = rooms_of c.args.self.now

abbrev lent : Start → Tables
lent c = tables_in c.args.tables

abbrev Taken : Start → Type 0
Taken c = FetchTaken (st c) (table_lengths_of (lent c)) (held c) (length c.args.self.now.scratch.now) c.args.frame c.args.n

known : (c : Start) → Taken c
known c = fetch_taken _ _ _ _ _ _ (asked (st c) (lent c) (held c) (length c.args.self.now.scratch.now) c.args.frame c.args.n c.requires)

pub returns-then-frame-s-clause-record : goal.returns-then-frame-s-clause-record
unfolding get_frame
returns-then-frame-s-clause-record c =
    let o = (goal.at.returns-then-frame-s-clause-record c).Start in stream_same (st o) (lent o) (held o) c.args.frame (known o) c.if-frame-s.true

pub returns-then-frame-s-clause-rooms : goal.returns-then-frame-s-clause-rooms
unfolding get_frame
returns-then-frame-s-clause-rooms c =
    let o = (goal.at.returns-then-frame-s-clause-rooms c).Start in rooms_same (st o) (lent o) (held o) c.args.frame (known o) c.if-frame-s.true

pub returns-then-frame-s-clause-nans : goal.returns-then-frame-s-clause-nans
unfolding get_frame
returns-then-frame-s-clause-nans c =
    let o = (goal.at.returns-then-frame-s-clause-nans c).Start in nans_same (st o) (lent o) (held o) c.args.frame (known o) c.if-frame-s.true

pub changes_up_to-changes-requires : goal.changes_up_to-changes-requires
changes_up_to-changes-requires c =
    let o = (goal.at.changes_up_to-changes-requires c).Start in
    record { within = frames_in_is (st o) (lent o) (held o) c.args.frame (known o); order = (known o).passed.whole_is.in_order }

pub overflow_add-intake : goal.overflow_add-intake
overflow_add-intake c = let T = known (goal.at.overflow_add-intake c).Start in omega (arith, T.below, T.passed.whole_is.few)

pub update_rooms-update-requires : goal.update_rooms-update-requires
update_rooms-update-requires c =
    let o = (goal.at.update_rooms-update-requires c).Start in
    let T = known o in
    let s = st o in
    let f = c.args.frame in
    let z : Rooms = held o in
    let fits = frames_in_is s (lent o) z f T in
    let heavy = weights_in s (lent o) z f T in
    let n = counted f s.waiting refl fits c.changes_up_to-changes.ensures in
    record {
      sound = rw c.in_force-now.ensures (record_is _ _ _ _ _ _ T);
      tables_fit = rw c.in_force-now.ensures (tables_fit_is _ _ _ _ _ _ T);
      rooms_fit = rw c.in_force-now.ensures (rooms_fit_is _ _ _ _ _ _ T);
      held = record {
        in_order = omega (arith, c.if-frame-s.false);
        there = omega (arith, T.below);
        few = T.passed.whole_is.few;
        frames_wait = λ _. omega (arith, n.1, fits);
        weights_wait = λ _. omega (arith, n.1, heavy);
        in_reach = λ _. λ j p. omega (arith, early_at s z f c.changes_up_to-changes.result fits T.passed.whole_is.in_order n.0 n.1 j p, T.below);
        short = omega (arith, few_frames s z f c.changes_up_to-changes.result fits T.passed.whole_is.in_order n.0 n.1 c.in_force-now.ensures, T.below, T.passed.whole_is.few);
      };
    }

pub remove_first-requires-clause-frames : goal.remove_first-requires-clause-frames
remove_first-requires-clause-frames c =
    let o = (goal.at.remove_first-requires-clause-frames c).Start in frames_in_is (st o) (lent o) (held o) c.args.frame (known o)

pub remove_first-requires-clause-weights : goal.remove_first-requires-clause-weights
remove_first-requires-clause-weights c =
    let o = (goal.at.remove_first-requires-clause-weights c).Start in weights_in (st o) (lent o) (held o) c.args.frame (known o)

pub overflow_add-self : goal.overflow_add-self
overflow_add-self c = let T = known (goal.at.overflow_add-self c).Start in omega (arith, T.below, T.passed.whole_is.few)

pub returns-clause-record : goal.returns-clause-record
unfolding get_frame
returns-clause-record c =
    let o = (goal.at.returns-clause-record c).Start in
    let T = known o in
    let fits = frames_in_is (st o) (lent o) (held o) c.args.frame T in
    let n = counted c.args.frame (st o).waiting refl fits c.changes_up_to-changes.ensures in
    stream_up (st o) (held o) c.args.frame c.changes_up_to-changes.result fits T.passed.whole_is.in_order n.0 n.1 (lent o) c.if-frame-s.false c.in_force-now.ensures c.update_rooms-update.ensures.0

pub returns-clause-rooms : goal.returns-clause-rooms
unfolding get_frame
returns-clause-rooms c =
    let o = (goal.at.returns-clause-rooms c).Start in
    let T = known o in
    let fits = frames_in_is (st o) (lent o) (held o) c.args.frame T in
    let n = counted c.args.frame (st o).waiting refl fits c.changes_up_to-changes.ensures in
    let left = c.remove_first.ensures in
    rooms_up (st o) (held o) c.args.frame c.changes_up_to-changes.result fits T.passed.whole_is.in_order n.0 n.1 (lent o) c.if-frame-s.false c.in_force-now.ensures left.0 left.1 c.update_rooms-update.ensures.1

pub returns-clause-nans : goal.returns-clause-nans
unfolding get_frame
returns-clause-nans c =
    let o = (goal.at.returns-clause-nans c).Start in
    let T = known o in
    let fits = frames_in_is (st o) (lent o) (held o) c.args.frame T in
    let n = counted c.args.frame (st o).waiting refl fits c.changes_up_to-changes.ensures in
    nans_up (st o) (held o) c.args.frame c.changes_up_to-changes.result fits T.passed.whole_is.in_order n.0 n.1 (lent o) c.if-frame-s.false c.in_force-now.ensures c.update_rooms-update.ensures.2
