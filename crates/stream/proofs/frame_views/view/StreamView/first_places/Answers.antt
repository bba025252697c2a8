-- `first_places` meets its contract: each place is where `row_place` says, that at the window's end of the row after the frame; no search is asked.
use Rattle.std.proofs.Common.{length, ap, ◌∙◌}
use Rattle.loops.specs.Ring.{place}
use Rattle.stream.proofs.frame_views.view.StreamView.first_places.Goals as goal

pub returns-in-Normalized-clause-placed : goal.returns-in-Normalized-clause-placed
returns-in-Normalized-clause-placed c =
    let v = c.args.self.now in
    record {
      frame = c.row_place-here.ensures;
      last = λ e. c.row_place.ensures;
      first = λ e. c.row_place-in-Normalized.ensures ∙ ap (place (length v.rows.now) v.dim) c.saturating_sub.ensures;
    }
