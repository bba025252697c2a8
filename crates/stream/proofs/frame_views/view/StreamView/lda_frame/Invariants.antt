-- `frame_views::lda_frame` meets its contract. The loop's invariant: the state is that after the first n frames of the row, and the sums are the LDA's over
-- their numbers (`lda_start`, `spliced_turn`, `lda_place`, `spliced_end`, `lda_end` in SplicedRows.antt); p is the frame at place n, and where it and its window
-- begin (`splice_first`, `splice_next`). A place's part lies in the table (`row_in_lem` in loops/proofs/Cells.antt).
use Rattle.std.proofs.Common.{◌≡◌, ◌+◌, ◌-◌, ◌≤◌, length}
use Rattle.definition.specs.Views.{splice_at, lda_frame}
use Rattle.stream.specs.Rows.{is_normalized, frames_of}
use Rattle.stream.specs.Inner.FrameViews.{Placed, spliced_to}
use Rattle.stream.proofs.frame_views.view.StreamView.lda_frame.Given as goal

abbrev pub invariant-loop-n : goal.invariant-loop-n
invariant-loop-n l = let v = l.self in
    let done = spliced_to v.options v.dim v.global.now (frames_of v) (is_normalized l.features) l.t l.n l.initial.cmvn in
    (l.n ≤ l.width)
    × (length l.cmvn ≡ v.dim + 1)
    × (length l.out ≡ l.d)
    × (length l.view ≡ 64)
    × (l.cmvn ≡ done.0)
    × (l.out ≡ lda_frame (l.d) l.lda.table.now l.lda.offset.now done.1)
    × (l.p.frame ≡ splice_at v.options v.accepted l.t l.n)
    × Placed v (is_normalized l.features) l.p

abbrev pub decreases-loop-n : goal.decreases-loop-n
decreases-loop-n l = l.width - l.n
