-- `frame_views::lda_frame` meets its contract. The loop's invariant: the state is that after the first n frames of the row, and the sums are the LDA's over
-- their numbers (`lda_start`, `spliced_turn`, `lda_place`, `spliced_end`, `lda_end` in SplicedRows.antt); p is the frame at place n, and where it and its window
-- begin (`splice_first`, `splice_next`). A place's part lies in the table (`row_in_lem` in loops/proofs/Cells.antt).
use Rattle.std.proofs.Common.{◌+◌, ◌*◌, ◌≤◌, length, sym, refl, ◌∙◌, mul_assoc, mul_comm, arith}
use Rattle.loops.proofs.Cells.{row_in_lem}
use Rattle.loops.proofs.Parts.{length_lent}
use Rattle.definition.specs.Options.{width}
use Rattle.stream.proofs.SplicedRows.{splice_first, splice_next, splice_under, spliced_none, lda_start, spliced_turn, lda_place, spliced_end, lda_end}
use Rattle.stream.proofs.frame_views.view.StreamView.lda_frame.Goals.{In-loop-n, Start}
use Rattle.stream.proofs.frame_views.view.StreamView.lda_frame.Goals as goal

-- ---- a place's part lies in the table

table_long : (c : Start) → width c.args.self.now.options * (c.args.self.now.dim * length c.args.out.now) ≤ length c.args.lda.table.now
table_long c =
    let v = c.args.self.now in
    rw (← mul_assoc (width v.options) v.dim (length c.args.out.now), mul_comm (width v.options) v.dim) c.requires.table

part_in : (c : In-loop-n) → let size = c.args.self.now.dim * length c.args.out.now in c.loop-n.n * size + size ≤ length c.args.lda.table.now
part_in c =
    let v = c.args.self.now in
    row_in_lem c.loop-n.n (width v.options) (v.dim * length c.args.out.now) _ (table_long (goal.at.In-loop-n c).Start) c.loop-n-test.true

-- ---- before the loop

pub overflow_mul-size : goal.overflow_mul-size
overflow_mul-size c =
    let v = c.args.self.now in
    omega (arith, c.well_formed, row_in_lem 0 (width v.options) (v.dim * length c.args.out.now) _ (table_long (goal.at.overflow_mul-size c).Start) (omega arith))

pub first_places-p-requires : goal.first_places-p-requires
first_places-p-requires c = omega (arith, c.saturating_sub.ensures, c.requires.there, c.args.self.now.few)

pub loop-n-init : goal.loop-n-init
loop-n-init c =
    let v = c.args.self.now in
    let lda = c.args.lda in
    let out = c.args.out.now in
    let there = c.requires.there in (
      omega arith,
      c.requires.state,
      c.copy_offset.auto.out,
      refl,
      spliced_none _ _ _ _ _ _ _,
      lda_start _ _ _ _ _ _ _ (length out) lda.table.now lda.offset.now out refl c.copy_offset.ensures,
      splice_first v.options v.accepted c.args.t there (c.first_places-p.ensures.frame ∙ c.saturating_sub.ensures),
      c.first_places-p.ensures.placed,
    )

-- ---- a turn

pub overflow_mul-start : goal.overflow_mul-start
overflow_mul-start c = omega (arith, part_in (goal.at.overflow_mul-start c).In-loop-n)

pub overflow_add-end : goal.overflow_add-end
overflow_add-end c = omega (arith, part_in (goal.at.overflow_add-end c).In-loop-n)

pub offset_bounds-lda-start : goal.offset_bounds-lda-start
offset_bounds-lda-start c = omega (arith, part_in (goal.at.offset_bounds-lda-start c).In-loop-n)

pub slice_bounds-add_frame-end : goal.slice_bounds-add_frame-end
slice_bounds-add_frame-end c = part_in (goal.at.slice_bounds-add_frame-end c).In-loop-n

pub add_frame-requires : goal.add_frame-requires
add_frame-requires c =
    let v = c.args.self.now in
    let h = c.loop-n.invariant in
    let size = v.dim * length c.args.out.now in
    let first = c.loop-n.n * size in
    record {
      there = splice_under v.options v.accepted c.args.t c.loop-n.n c.requires.there h.6;
      state = h.1;
      view = omega (arith, h.3, v.some.1);
      part = rw h.2 (omega (arith, length_lent first size (first + size) c.args.lda.table.now refl (part_in (goal.at.add_frame-requires c).In-loop-n)));
      placed = h.7;
    }

short_row : (c : In-loop-n) → c.loop-n.n + 1 ≤ 17
short_row c =
    let q = c.args.self.now.contexts in
    omega (arith, c.loop-n-test.true, q.0, q.1)

pub overflow_add-n : goal.overflow_add-n
overflow_add-n c = omega (arith, short_row (goal.at.overflow_add-n c).In-loop-n)

pub splice_at-v-requires : goal.splice_at-v-requires
splice_at-v-requires c = (c.requires.there, omega (arith, short_row (goal.at.splice_at-v-requires c).In-loop-n))

-- the next place's frame is the same or the one after it
pub next_places-p-requires-clause-near : goal.next_places-p-requires-clause-near
next_places-p-requires-clause-near c =
    let v = c.args.self.now in
    splice_next v.options v.accepted c.args.t c.loop-n.n c.loop-n.invariant.6 c.splice_at-v.ensures.0

pub next_places-p-requires-clause-placed : goal.next_places-p-requires-clause-placed
next_places-p-requires-clause-placed c = c.loop-n.invariant.7

pub overflow_step-n : goal.overflow_step-n
overflow_step-n c = omega (arith, short_row (goal.at.overflow_step-n c).In-loop-n)

pub loop-n-preserved : goal.loop-n-preserved
loop-n-preserved c =
    let v = c.args.self.now in
    let lda = c.args.lda in
    let loop = c.loop-n in
    let h = loop.invariant in (
      omega (arith, c.loop-n-test.true),
      c.add_frame.auto.cmvn ∙ h.1,
      c.add_frame.auto.out ∙ h.2,
      c.add_frame.auto.view ∙ h.3,
      spliced_turn _ _ _ _ _ _ _ loop.n h.6 h.4 c.add_frame.ensures.state,
      lda_place _ _ _ _ _ _ _ loop.n h.6 h.4 c.add_frame.ensures.state (length c.args.out.now) lda.table.now lda.offset.now refl refl refl h.5 c.add_frame.ensures.out,
      c.next_places-p.ensures.frame ∙ c.splice_at-v.ensures.0,
      c.next_places-p.ensures.placed,
    )

pub shape_of-cmvn : goal.shape_of-cmvn
shape_of-cmvn c = c.loop-n.invariant.1 ∙ sym c.requires.state

pub returns-clause-state : goal.returns-clause-state
returns-clause-state c =
    let loop = c.loop-n in
    spliced_end c.args.self.now c.args.t c.args.cmvn.now c.args.features loop.n loop.invariant.0 c.loop-n-test.false loop.invariant.4

pub returns-clause-out : goal.returns-clause-out
returns-clause-out c =
    let loop = c.loop-n in
    lda_end c.args.self.now c.args.t c.args.cmvn.now c.args.features loop.n loop.invariant.0 c.loop-n-test.false (length c.args.out.now) c.args.lda.table.now c.args.lda.offset.now loop.invariant.5
