-- `fetch` meets its contract: refused, all is as it was; taken, the record and the rooms are those that `bring_in` leaves, and the vector is of the current one there.
use mathlib.Core.Path.{◌≡◌, refl, sym, ap, ◌∙◌}
use Rattle.std.proofs.lemmas.Result.{err_from_is_err_and}
use native.Mathlib.Omega.{arith}
use lib.ListN.{length}
use Rattle.definition.specs.Model.{table_lengths_of}
use Rattle.definition.specs.Lent.{tables_in}
use Rattle.definition.specs.Number.{refused_by}
use Rattle.definition.proofs.Ranges.{fitting}
use Rattle.program.specs.Rooms.{room_lengths_of}
use Rattle.program.specs.Calls.{get_frame, fetch_refusal, call_of}
use Rattle.stream.specs.Stream.{record_of, rooms_of}
use Rattle.stream.proofs.FetchRefusals.{FetchTaken, fetch_taken, fetch_few, rooms_fit_is}
use Rattle.stream.proofs.FetchSteps.{asked, current_long, still_few, fetch_made, prior_is}
use Rattle.stream.proofs.stream_rooms.Stream.fetch.Goals.{In_ok-fetch_refusal}
use Rattle.stream.proofs.stream_rooms.Stream.fetch.Goals as goal

none : (c : In_ok-fetch_refusal) → fetch_refusal (record_of c.args.self.now) (table_lengths_of (tables_in c.args.tables)) (room_lengths_of (rooms_of c.args.self.now) (length c.args.self.now.scratch.now))
    c.args.self.now.waiting_frames.now c.args.frame (length c.args.out.now) ≡ 0
none c =
    let s = c.args.self.now in
    asked (record_of s) (tables_in c.args.tables) (rooms_of s) (length s.scratch.now) c.args.frame (length c.args.out.now) (sym c.fetch_refusal.ensures ∙ ap refused_by c.in_ok-fetch_refusal.was)

known : (c : In_ok-fetch_refusal) → FetchTaken (record_of c.args.self.now) (table_lengths_of (tables_in c.args.tables)) (rooms_of c.args.self.now) (length c.args.self.now.scratch.now) c.args.frame (length c.args.out.now)
known c = fetch_taken _ _ _ _ _ _ (none c)

pub write_current-not_finite-requires : goal.write_current-not_finite-requires
unfolding get_frame
write_current-not_finite-requires c =
    let o = (goal.at.write_current-not_finite-requires c).In_ok-fetch_refusal in
    let T = known o in
    let fit = fitting _ _ (rooms_fit_is _ _ _ _ _ _ T) in
    let long = current_long (record_of c.args.self.now) (tables_in c.args.tables) (rooms_of c.args.self.now) c.args.frame T c.bring_in-nan_likelihoods.ensures.rooms in
    (omega (arith, T.wide, fit.current_fits, long), omega (arith, T.wide, T.passed.dims_are.ivector_is))

pub returns-clause-call : goal.returns-clause-call
unfolding get_frame
returns-clause-call c =
    let o = (goal.at.returns-clause-call c).In_ok-fetch_refusal in
    let s = record_of c.args.self.now in
    let t = tables_in c.args.tables in
    let z = rooms_of c.args.self.now in
    let b = c.bring_in-nan_likelihoods.ensures in
    let w = c.write_current-not_finite in
    fetch_made s t z c.args.frame (known o) c.args.out.now {c = call_of 0 (record_of c.bring_in-nan_likelihoods.new.self) w.result c.bring_in-nan_likelihoods.result} (none o) (known o).wide refl b.record b.rooms b.nans
    (rw (prior_is s t z c.args.frame b.record) at w.ensures)

pub returns-in_err-fetch_refusal-clause-few : goal.returns-in_err-fetch_refusal-clause-few
unfolding get_frame
returns-in_err-fetch_refusal-clause-few c =
    let s = c.args.self.now in
    let e = err_from_is_err_and c.from_residual.result c.from_residual.ensures.1 in
    rw (e.1, e.2)
    (λ h. fetch_few (record_of s) (table_lengths_of (tables_in c.args.tables)) (rooms_of s) (length s.scratch.now) c.args.frame (length c.args.out.now) (λ q. h (c.in_err-fetch_refusal.ensures ∙ q)))

pub returns-clause-scratch : goal.returns-clause-scratch
returns-clause-scratch c = λ h. absurd (h (sym c.fetch_refusal.ensures ∙ ap refused_by c.in_ok-fetch_refusal.was))

pub returns-clause-few : goal.returns-clause-few
unfolding get_frame
returns-clause-few c =
    λ h. still_few (record_of c.args.self.now) (tables_in c.args.tables) (rooms_of c.args.self.now) c.args.frame (known (goal.at.returns-clause-few c).In_ok-fetch_refusal) c.bring_in-nan_likelihoods.ensures.record
