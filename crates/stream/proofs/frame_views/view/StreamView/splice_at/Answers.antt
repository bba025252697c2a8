-- `splice_at` meets its contract: the frame, clamped at both ends (`splice_at_on` in SplicedRows.antt).
use Rattle.std.proofs.Common.{arith}
use Rattle.stream.proofs.SplicedRows.{splice_at_on}
use Rattle.stream.proofs.frame_views.view.StreamView.splice_at.Goals as goal

pub returns : goal.returns
returns c = (splice_at_on _ _ _ _ c.saturating_sub.ensures c.min.ensures, omega arith)
