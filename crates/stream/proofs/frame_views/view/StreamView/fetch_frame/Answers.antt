-- `fetch_frame` meets its contract, by whether the frame is normalised (`fetched_true`, `fetched_false` in SplicedRows.antt).
use Rattle.std.proofs.Common.{ap}
use Rattle.stream.specs.Rows.{is_normalized}
use Rattle.stream.proofs.SplicedRows.{fetched_true, fetched_false}
use Rattle.stream.proofs.frame_views.view.StreamView.fetch_frame.Goals as goal

pub returns-in-Normalized-clause-state : goal.returns-in-Normalized-clause-state
returns-in-Normalized-clause-state c = fetched_true _ _ _ _ _ _ (ap is_normalized c.in-Normalized.is) c.cmvn_frame.ensures.state

pub returns-in-Raw-clause-state : goal.returns-in-Raw-clause-state
returns-in-Raw-clause-state c = fetched_false _ _ _ _ _ _ (ap is_normalized c.in-Raw.is)
